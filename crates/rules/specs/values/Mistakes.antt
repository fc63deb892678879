-- The mistakes of Specification, Mistakes that are ruled out, what attributes make false, and wider orders of targets,
-- each shown false by a document.
use Rattle.std.specs.Prelude.{ℕ, [], ◌∷◌}
use Rattle.std.proofs.Common.{arith}
use Rattle.common.specs.Bounded.{any_below, all_below}
use Rattle.xpath.specs.Document.{Document, node, root_node, kind_at, parent_at, name_at, is_child, climb_meets}
use Rattle.xpath.specs.Document.{is_ancestor}
use Rattle.xpath.specs.Document.{are_siblings, kind_and_name_ok, row_ok, well_formed}
use Rattle.common.specs.Axes.{self, child, parent, descendant, descendant_or_self, ancestor_or_self}
use Rattle.common.specs.Axes.{following_sibling, preceding_sibling, following, attribute}
use Rattle.common.specs.NodeTests.{name_test, star_test, node_test, text_test, instruction_test, target_test}
use Rattle.xpath.specs.Axis.{on_axis, passes}
use Rattle.xpath.specs.Term.{Path, Qualifier, Void, Root, AxisStep, Union, Composition, Filter, True, Not, And, Or, In}
use Rattle.xpath.specs.Term.{some_of}
use Rattle.xpath.specs.Meaning.{selects}
use Rattle.rules.specs.Claim.{Containment, Implication, TrueOn, IsTrue}

-- not A; to unfold it is to unfold what computes on a document
unfoldable pub IsFalse : Type 0 → Type 0
unfolding IsTrue TrueOn selects on_axis passes kind_at parent_at name_at is_child climb_meets is_ancestor are_siblings
    any_below
    all_below well_formed row_ok kind_and_name_ok
IsFalse A = ¬ A

-- two elements under the root
abbrev two_children : Document
two_children = root_node ∷ node 1 0 1 ∷ node 1 0 2 ∷ []

-- r3r splits "p in (q|r)" into an or
pub r3r_false :
    IsFalse ((p q r : Path) → IsTrue (Implication (In p (Union q r)) (Or (In p q) (In p r))))
unfolding IsFalse
r3r_false rule = rule (AxisStep child star_test 0) (AxisStep child name_test 1) (AxisStep child name_test 2)
    two_children
    tt 0 (omega arith) tt

-- f3 orders the paths backwards
pub f3_false :
    IsFalse ((p q : Path) (f g : Qualifier) → IsTrue (Containment p q) → IsTrue (Implication (Not f) (Not g)) →
    IsTrue (Implication (In (Filter p f) Void) (In (Filter q g) Void)))
unfolding IsFalse
f3_false rule = rule Void (AxisStep child star_test 0) True True (λ d w x k y t. absurd t) (λ d w x k t. t) two_children
    tt 0 (omega arith) tt

-- g2b takes "not f => g" in rule 25
pub g2b_false :
    IsFalse ((p : Path) (f g : Qualifier) → IsTrue (Implication (Not f) g)
    → IsTrue (Containment (Filter p (And f g)) Void))
unfolding IsFalse
g2b_false rule = rule (AxisStep child star_test 0) True True (λ d w x k t. tt) two_children tt 0 (omega arith) 1 tt

-- an element, and an element in it
abbrev nested : Document
nested = root_node ∷ node 1 0 1 ∷ node 1 1 2 ∷ []

-- rule 51 used as an equality
pub rule51_back_false :
    IsFalse ((N M : ℕ) (f : Qualifier) →
    IsTrue (Containment
    (Filter (AxisStep descendant name_test M) (some_of (Filter (AxisStep parent name_test N) f)))
    (Composition (Filter (AxisStep descendant name_test N) f) (AxisStep child name_test M))))
unfolding IsFalse
rule51_back_false rule = rule 1 2 True nested tt 1 (omega arith) 2 tt

-- an element with an element and a text in it
abbrev with_text : Document
with_text = root_node ∷ node 1 0 1 ∷ node 1 1 2 ∷ node 2 1 0 ∷ []

-- r_a13 has `*` in rule 54
pub r_a13_false :
    IsFalse (IsTrue (Containment
    (AxisStep following text_test 0)
    (Composition (Composition (AxisStep ancestor_or_self star_test 0) (AxisStep following_sibling star_test 0))
    (AxisStep descendant_or_self text_test 0))))
unfolding IsFalse
r_a13_false claim = claim with_text tt 2 (omega arith) 3 tt

-- an element with an attribute and a text in it
abbrev with_attribute : Document
with_attribute = root_node ∷ node 1 0 1 ∷ node 5 1 2 ∷ node 2 1 0 ∷ []

-- what rule 50 would say: an attribute's parent has children, and the attribute has no sibling
pub rule50_false :
    IsFalse (IsTrue (Containment
    (Composition (Filter (AxisStep parent node_test 0) True) (AxisStep child node_test 0))
    (Filter (Union (Union (AxisStep preceding_sibling node_test 0) (AxisStep following_sibling node_test 0))
    (AxisStep self node_test 0)) (some_of (Filter (AxisStep parent node_test 0) True)))))
unfolding IsFalse
rule50_false claim = claim with_attribute tt 2 (omega arith) 3 tt

-- and the other direction: an attribute is itself, and no child of its parent
pub rule50_back_false :
    IsFalse (IsTrue (Containment
    (Filter (Union (Union (AxisStep preceding_sibling node_test 0) (AxisStep following_sibling node_test 0))
    (AxisStep self node_test 0)) (some_of (Filter (AxisStep parent node_test 0) True)))
    (Composition (Filter (AxisStep parent node_test 0) True) (AxisStep child node_test 0))))
unfolding IsFalse
rule50_back_false claim = claim with_attribute tt 2 (omega arith) 2 tt

-- rule 54 with following::N on the left: what follows an attribute begins with its parent's children
pub rule54_left_false :
    IsFalse (IsTrue (Containment
    (AxisStep following node_test 0)
    (Composition (Composition (AxisStep ancestor_or_self node_test 0) (AxisStep following_sibling node_test 0))
    (AxisStep descendant_or_self node_test 0))))
unfolding IsFalse
rule54_left_false claim = claim with_attribute tt 2 (omega arith) 3 tt

-- rule 26 with the attribute axis
pub rule26_attribute_false :
    IsFalse ((p : Path) → IsTrue (Containment (Composition p (AxisStep attribute star_test 0))
    (Composition Root (AxisStep descendant star_test 0))))
unfolding IsFalse
rule26_attribute_false rule = rule (AxisStep self node_test 0) with_attribute tt 1 (omega arith) 2 tt

-- rule 58 with the attribute axis: self::* selects no attribute
pub rule58_attribute_false : IsFalse (IsTrue
    (Containment (AxisStep attribute star_test 0)
    (Composition (AxisStep attribute node_test 0) (AxisStep self star_test 0))))
unfolding IsFalse
rule58_attribute_false claim = claim with_attribute tt 1 (omega arith) 2 tt

-- an element, and three instructions: of target 1, of target 2, and without a target
abbrev with_targets : Document
with_targets = root_node ∷ node 1 0 1 ∷ node 4 0 1 ∷ node 4 0 2 ∷ node 4 0 0 ∷ []

-- a target below another one
pub other_target_false :
    IsFalse (IsTrue (Containment (AxisStep child target_test 1) (AxisStep child target_test 2)))
unfolding IsFalse
other_target_false claim = claim with_targets tt 0 (omega arith) 2 tt

-- any instruction below a target: one without a target has none
pub instruction_below_target_false :
    IsFalse (IsTrue (Containment (AxisStep child instruction_test 0) (AxisStep child target_test 1)))
unfolding IsFalse
instruction_below_target_false claim = claim with_targets tt 0 (omega arith) 4 tt

-- a name below a target, and a target below a name
pub name_below_target_false : IsFalse (IsTrue (Containment (AxisStep child name_test 1) (AxisStep child target_test 1)))
unfolding IsFalse
name_below_target_false claim = claim with_targets tt 0 (omega arith) 1 tt

pub target_below_name_false : IsFalse (IsTrue (Containment (AxisStep child target_test 1) (AxisStep child name_test 1)))
unfolding IsFalse
target_below_name_false claim = claim with_targets tt 0 (omega arith) 2 tt
