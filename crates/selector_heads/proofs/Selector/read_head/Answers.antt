-- `read_head` meets its contract.
use mathlib.Core.Path.{sym, ◌∙◌}
use borrow.Author.Tests.{tests}
use Rattle.std.proofs.Common.{rules}
use Rattle.selector_heads.proofs.Headed.{head_dot, head_at, head_test}
use Rattle.selector_heads.proofs.Selector.read_head.Goals as goal

pub returns-then-b-eq46 : goal.returns-then-b-eq46
returns-then-b-eq46 c = head_dot c.args.self.s.now c.args.self.names.list.now c.args.at _ c.dot_head.ensures

pub returns-then-b-eq64 : goal.returns-then-b-eq64
returns-then-b-eq64 c =
    head_at c.args.self.s.now c.args.self.names.list.now c.args.at _ _ _
    (sym c.byte_at-b.ensures ∙ c.if-b-eq64.true)
    c.skip.ensures c.test_head.ensures

pub returns-then-not-is_start : goal.returns-then-not-is_start
returns-then-not-is_start c =
    head_test c.args.self.s.now c.args.self.names.list.now c.args.at c.requires.at_value
    (λ e. c.if-b-eq46.false (c.byte_at-b.ensures ∙ e))
    (λ e. c.if-b-eq64.false (c.byte_at-b.ensures ∙ e)) _ _
    (search (rules, tests))
    c.test_head-then-not-is_start.ensures

pub returns-then-byte_at-eq58 : goal.returns-then-byte_at-eq58
returns-then-byte_at-eq58 c = rw c.name_from-name.ensures.0 at c.axis_head.ensures

pub returns : goal.returns
returns c =
    head_test c.args.self.s.now c.args.self.names.list.now c.args.at c.requires.at_value
    (λ e. c.if-b-eq46.false (c.byte_at-b.ensures ∙ e))
    (λ e. c.if-b-eq64.false (c.byte_at-b.ensures ∙ e)) _ _
    (λ e. c.if-byte_at-eq58.false (c.byte_at.ensures ∙ e)) (rw c.name_from-name.ensures.0 at c.name_test.ensures)
