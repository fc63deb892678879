-- `operand_at` meets its contract.
use mathlib.Core.Path.{sym, ◌∙◌}
use borrow.Author.Tests.{tests}
use Rattle.std.proofs.Common.{rules}
use Rattle.selector_heads.proofs.Headed.{operand_group, operand_other, operand_named, operand_opened}
use Rattle.selector_heads.proofs.operand_at.Goals as goal

pub returns-then-b-eq40-clause-operand : goal.returns-then-b-eq40-clause-operand
returns-then-b-eq40-clause-operand c =
    operand_group c.args.s.now c.args.at
    (sym c.byte_at-b.ensures ∙ c.if-b-eq40.true)

pub returns-then-not-is_start-clause-operand : goal.returns-then-not-is_start-clause-operand
returns-then-not-is_start-clause-operand c =
    operand_other c.args.s.now c.args.at
    (λ e. c.if-b-eq40.false (c.byte_at-b.ensures ∙ e))
    (search (rules, tests))

pub returns-then-byte_at-ne40-clause-operand : goal.returns-then-byte_at-ne40-clause-operand
returns-then-byte_at-ne40-clause-operand c =
    operand_named c.args.s.now c.args.at _ _
    (rw c.name_from-name.ensures.0 at c.name_from-name.ensures.1)
    (λ e. c.if-byte_at-ne40.true (c.byte_at.ensures ∙ e))

pub returns-clause-operand : goal.returns-clause-operand
returns-clause-operand c =
    operand_opened c.args.s.now c.args.at _ _
    (rw c.name_from-name.ensures.0 at c.name_from-name.ensures.1) _
    (sym c.byte_at.ensures ∙ c.if-byte_at-ne40.false)
    (rw c.name_from-name.ensures.0 at c.opened_by.ensures)
