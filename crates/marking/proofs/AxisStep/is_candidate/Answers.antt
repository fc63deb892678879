-- `is_candidate` meets its contract.
use Rattle.std.proofs.Common.{◌≡◌, ◌∙◌, ℕ, Bool, true, false, not, cond, refl, sym, ◌&&◌, eqb, get_or}
use mathlib.Core.Bool.{beq}
use denote.Enum.Bare.{sameb}
use Rattle.common.specs.contracts.axis.Axis.{the_type}
use Rattle.common.specs.declared.axis.Axis.{Axis}
use Rattle.common.specs.declared.axis.Axis.TheVariants.{Attribute}
use Rattle.common.specs.represent.Numbers.{axis_number}
use Rattle.xpath.specs.Document.{Document, Node, root_node, kind_at, name_at}
use Rattle.marking.specs.private.Added.{may_hold, candidate}
use Rattle.marking.proofs.AxisTests.{is_attribute_axis}
use Rattle.marking.proofs.AxisStep.is_candidate.Goals as goal

alike : (b c : Bool) → cond b c (not c) ≡ beq b c
alike true true = refl
alike true false = refl
alike false true = refl
alike false false = refl

-- by the row of the node
by_row : (a : Axis) (has : ℕ → ℕ → Bool) (d : Document) (y : ℕ) (n : Node) → n ≡ get_or d y root_node →
    candidate (axis_number a) has d y ≡ (beq (sameb the_type a Attribute) (eqb n.kind 5) && has n.kind n.name)
unfolding may_hold kind_at name_at
by_row a has d y n e = rw (e, is_attribute_axis a, alike)

pub returns-then-eq-is_attribute : goal.returns-then-eq-is_attribute
returns-then-eq-is_attribute g c =
    c.has.ensures
    ∙ sym (by_row _ (g.T.NodeSet.has c.args.self.now.test) _ _ _ c.whole_node-node.ensures
    ∙ rw (← c.eq.ensures, ← c.is_attribute.ensures, c.if-eq-is_attribute.true))

pub returns-else-eq-is_attribute : goal.returns-else-eq-is_attribute
returns-else-eq-is_attribute g c =
    c.if-eq-is_attribute.false
    ∙ sym (by_row _ (g.T.NodeSet.has c.args.self.now.test) _ _ _ c.whole_node-node.ensures
    ∙ rw (← c.eq.ensures, ← c.is_attribute.ensures, c.if-eq-is_attribute.false))
