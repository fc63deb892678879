-- `test_head` meets its contract.
use mathlib.Core.Path.{sym, ◌∙◌}
use native.Mathlib.Omega.{arith}
use borrow.Author.Tests.{tests}
use Rattle.std.proofs.Common.{rules}
use Rattle.selector_heads.proofs.Headed.{test_star, test_none, test_name}
use Rattle.selector_heads.proofs.Selector.test_head.Goals as goal

pub returns-then-b-eq42 : goal.returns-then-b-eq42
returns-then-b-eq42 c =
    rw c.plain_head.ensures
    (test_star c.args.self.s.now c.args.self.names.list.now c.args.at c.args.axis _
    (sym c.byte_at-b.ensures ∙ c.if-b-eq42.true)
    c.skip.ensures)

pub returns-then-not-is_start : goal.returns-then-not-is_start
returns-then-not-is_start c =
    (test_none c.args.self.s.now c.args.self.names.list.now c.args.at c.args.axis (omega arith)
    (λ e. c.if-b-eq42.false (c.byte_at-b.ensures ∙ e))
    (search (rules, tests)))

pub returns : goal.returns
returns c =
    test_name c.args.self.s.now c.args.self.names.list.now c.args.at c.args.axis _ _
    (search (rules, tests))
    (rw c.name_from.ensures.0 at c.name_test.ensures)
