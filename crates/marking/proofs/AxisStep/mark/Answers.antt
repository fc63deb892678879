-- `mark` meets its contract, axis by axis.
use Rattle.std.proofs.Common.{true, refl, arith}
use mathlib.Core.Logic.{inl, inr}
use Rattle.xpath.proofs.Tree.{parent_smaller}
use Rattle.marking.specs.private.Added.{may_hold}
use Rattle.marking.proofs.Steps.{self_marked, child_marked, attribute_marked, descendant_marked, ancestor_marked}
use Rattle.marking.proofs.Steps.{descendant_or_self_marked, ancestor_or_self_marked, following_marked}
use Rattle.marking.proofs.Steps.{preceding_marked, children_of, following_sibling_marked, preceding_sibling_marked}
use Rattle.marking.proofs.Steps.{no_following_sibling, no_preceding_sibling, may_have_siblings, later_siblings}
use Rattle.marking.proofs.Steps.{earlier_siblings}
use Rattle.marking.proofs.AxisStep.mark.Goals as goal

pub mark_children-requires : goal.mark_children-requires
mark_children-requires g c =
    let s = c.args.self.now in
    record { children_from = rw c.end-end.ensures (children_of _ _ s.document.prepared _ _ s.node refl) }

pub returns-in-Itself : goal.returns-in-Itself
returns-in-Itself g c =
    rw c.in-Itself.is (self_marked _ _ c.args.self.now.document.prepared _ _ c.args.self.now.node c.mark_node.ensures)

pub returns-in-Child : goal.returns-in-Child
returns-in-Child g c =
    elim c.in-Child.is [
      | inl e ↦ rw e
          (child_marked _ _ c.args.self.now.document.prepared _ _ c.args.self.now.node _ refl
          (rw (e, c.end-end.ensures) at c.mark_children.ensures))
      | inr e ↦ rw e
          (attribute_marked _ _ c.args.self.now.document.prepared _ _ c.args.self.now.node _ refl
          (rw (e, c.end-end.ensures) at c.mark_children.ensures))
    ]

pub returns-in-Descendant : goal.returns-in-Descendant
returns-in-Descendant g c =
    let e = c.in-Descendant.is in
    rw e
    (descendant_marked _ _ c.args.self.now.document.prepared _ _ c.args.self.now.node _ refl
    (rw (e, c.end-end.ensures) at c.mark_range.ensures))

pub returns-in-Ancestor : goal.returns-in-Ancestor
returns-in-Ancestor g c =
    rw c.in-Ancestor.is
    (ancestor_marked _ _ c.args.self.now.document.prepared _ _ c.args.self.now.node c.mark_ancestors.ensures)

pub returns-in-DescendantOrSelf : goal.returns-in-DescendantOrSelf
unfolding may_hold
returns-in-DescendantOrSelf g c =
    let e = c.in-DescendantOrSelf.is in
    rw e
    (descendant_or_self_marked _ _ c.args.self.now.document.prepared _ _ c.args.self.now.node _ refl
    c.mark_node-in-DescendantOrSelf.ensures
    (rw (e, c.end-end.ensures) at c.mark_range-in-DescendantOrSelf.ensures))

pub returns-in-AncestorOrSelf : goal.returns-in-AncestorOrSelf
returns-in-AncestorOrSelf g c =
    rw c.in-AncestorOrSelf.is
    (ancestor_or_self_marked _ _ c.args.self.now.document.prepared _ _ c.args.self.now.node
    c.mark_node-in-AncestorOrSelf.ensures c.mark_ancestors-in-AncestorOrSelf.ensures)

pub returns-in-Following : goal.returns-in-Following
returns-in-Following g c =
    let e = c.in-Following.is in
    rw e
    (following_marked _ _ c.args.self.now.document.prepared _ _ c.args.self.now.node _ c.node_count.ensures
    (rw (e, c.end-end.ensures) at c.mark_range-in-Following.ensures))

pub returns-in-Preceding : goal.returns-in-Preceding
returns-in-Preceding g c =
    let e = c.in-Preceding.is in
    rw e
    (preceding_marked _ _ c.args.self.now.document.prepared _ _ c.args.self.now.node (rw e at c.mark_preceding.ensures))

pub end-requires : goal.end-requires
end-requires g c =
    let s = c.args.self.now in
    let (some, parent) = c.in-Some.ensures in
    let m = may_have_siblings _ _ s.document.prepared (λ _. true) _ s.node some in
    let below = parent_smaller _ s.document.prepared.formed s.x s.node m.0 in
    omega (arith, parent, s.node)

pub mark_children-requires-in-Some : goal.mark_children-requires-in-Some
mark_children-requires-in-Some g c =
    let s = c.args.self.now in
    let (some, parent) = c.in-Some.ensures in
    let m = may_have_siblings _ _ s.document.prepared (λ _. true) _ s.node some in
    record {
      children_from = rw (c.end-end.ensures, c.end.ensures)
          (later_siblings _ _ s.document.prepared _ _ s.node m.0 parent);
    }

pub returns-in-Some : goal.returns-in-Some
returns-in-Some g c =
    let s = c.args.self.now in
    let e = c.in-FollowingSibling.is in
    let (some, parent) = c.in-Some.ensures in
    let m = may_have_siblings _ _ s.document.prepared (λ _. true) _ s.node some in
    rw e
    (following_sibling_marked _ _ s.document.prepared _ _ s.node _ m.0 parent m.1
    (rw (e, c.end-end.ensures, c.end.ensures) at c.mark_children-in-Some.ensures))

pub returns-in_default : goal.returns-in_default
returns-in_default g c =
    let s = c.args.self.now in
    rw c.in-FollowingSibling.is (no_following_sibling _ _ s.document.prepared _ _ s.node c.in_default.ensures)

pub overflow_add-p : goal.overflow_add-p
overflow_add-p g c =
    let s = c.args.self.now in
    let (some, parent) = c.in-Some-parent_of_siblings.ensures in
    let m = may_have_siblings _ _ s.document.prepared (λ _. true) _ s.node some in
    let below = parent_smaller _ s.document.prepared.formed s.x s.node m.0 in
    omega (arith, parent, s.document.prepared.few, s.node)

pub mark_children-requires-in-Some-parent_of_siblings : goal.mark_children-requires-in-Some-parent_of_siblings
mark_children-requires-in-Some-parent_of_siblings g c =
    let s = c.args.self.now in
    let (some, parent) = c.in-Some-parent_of_siblings.ensures in
    let m = may_have_siblings _ _ s.document.prepared (λ _. true) _ s.node some in
    record { children_from = earlier_siblings _ _ s.document.prepared _ _ s.node m.0 parent _ refl }

pub returns-in-Some-parent_of_siblings : goal.returns-in-Some-parent_of_siblings
returns-in-Some-parent_of_siblings g c =
    let s = c.args.self.now in
    let e = c.in-PrecedingSibling.is in
    let (some, parent) = c.in-Some-parent_of_siblings.ensures in
    let m = may_have_siblings _ _ s.document.prepared (λ _. true) _ s.node some in
    rw e
    (preceding_sibling_marked _ _ s.document.prepared _ _ s.node _ m.0 parent m.1 _ refl
    (rw e at c.mark_children-in-Some-parent_of_siblings.ensures))

pub returns-in_default-parent_of_siblings : goal.returns-in_default-parent_of_siblings
returns-in_default-parent_of_siblings g c =
    let s = c.args.self.now in
    rw c.in-PrecedingSibling.is
    (no_preceding_sibling _ _ s.document.prepared _ _ s.node c.in_default-parent_of_siblings.ensures)
