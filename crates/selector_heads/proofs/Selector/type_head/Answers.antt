-- `type_head` meets its contract.
use mathlib.Core.Path.{◌≡◌, sym, subst, ◌∙◌}
use mathlib.Core.Bool.{true, not, false≢true}
use denote.Enum.Bare.{sameb, same_true}
use borrow.Author.Tests.{not-false, tests}
use Rattle.std.proofs.Common.{rules}
use Rattle.common.specs.declared.node_test.NodeTest.{NodeTest}
use Rattle.common.specs.declared.node_test.NodeTest.TheVariants as Tests
use Rattle.common.specs.contracts.node_test.NodeTest.{the_type}
use Rattle.selector_heads.proofs.Headed.{type_close, type_plain, type_unquoted, type_target}
use Rattle.selector_heads.proofs.Selector.type_head.Goals as goal

pub returns-then-b-eq41 : goal.returns-then-b-eq41
returns-then-b-eq41 c =
    rw c.plain_head.ensures
    (type_close c.args.self.s.now c.args.self.names.list.now c.args.at c.args.axis
    c.args.test _ c.skip-inner.ensures _
    (sym c.byte_at-b.ensures ∙ c.if-b-eq41.true)
    c.skip.ensures)

pub returns-then-ne : goal.returns-then-ne
returns-then-ne c =
    (type_plain c.args.self.s.now c.args.self.names.list.now c.args.at c.args.axis
    c.args.test _ c.skip-inner.ensures
    (λ e. c.if-b-eq41.false (c.byte_at-b.ensures ∙ e))
    (λ e. false≢true (subst (λ (t : NodeTest). not (sameb the_type t Tests.Instruction) ≡ true) e
    (sym c.ne.ensures ∙ c.if-ne.true))))

pub returns-then-not-is_quote : goal.returns-then-not-is_quote
returns-then-not-is_quote c =
    (type_unquoted c.args.self.s.now c.args.self.names.list.now c.args.at c.args.axis
    c.args.test _ c.skip-inner.ensures
    (λ e. c.if-b-eq41.false (c.byte_at-b.ensures ∙ e))
    (search (rules, tests)))

pub returns : goal.returns
returns c =
    type_target c.args.self.s.now c.args.self.names.list.now c.args.at c.args.axis
    c.args.test _ c.skip-inner.ensures _
    (same_true the_type (search rules) _ _ (not-false _ (sym c.ne.ensures ∙ c.if-ne.false)))
    (search (rules, tests))
    c.target_head.ensures
