-- A choice of the letters, the terms and claims that forms are for it, and the conditions that it meets.
use Rattle.std.specs.Prelude.{ℕ, Bool, not, ◌&&◌, ◌||◌, leb, eqb}
use Rattle.common.specs.Axes.{descendant, preceding, attribute}
use Rattle.common.specs.NodeTests.{name_test, star_test, node_test}
use Rattle.xpath.specs.Term.{Path, Qualifier, AxisStep, Union, Composition, Filter}
use Rattle.rules.specs.Order.{axis_below, test_below}
use Rattle.rules.specs.Form.{PathLetter, QualifierLetter, AxisLetter, TestLetter, AxisForm, axis, axis_letter}
use Rattle.rules.specs.Form.{TestForm, test, test_letter, PathForm, path_letter, ◌::◌, ◌¦◌, ◌∕◌, ◌⟦◌⟧}
use Rattle.rules.specs.Form.{QualifierForm, qualifier_letter, Not◌, ◌And◌, ◌Or◌, ◌In◌, ClaimForm, ◌<=◌, ◌=>◌}
use Rattle.rules.specs.Form.{Condition, a_below_b, N_below_M, b_from_3_to_10, N_a_name_or_star, N_not_node}
use Rattle.rules.specs.Form.{a_not_attribute}
use Rattle.rules.specs.Claim.{Claim, Containment, Implication}

pub record Test : Type 0 where
  pub test : ℕ
  pub name : ℕ

pub record Letters : Type 0 where
  pub path : PathLetter → Path
  pub qualifier : QualifierLetter → Qualifier
  pub axis : AxisLetter → ℕ
  pub test : TestLetter → Test

unfoldable pub axis_for : Letters → AxisForm → ℕ
axis_for e (axis n) = n
axis_for e (axis_letter x) = e.axis x

unfoldable pub test_for : Letters → TestForm → Test
test_for e (test n) = record { test = n; name = 0 }
test_for e (test_letter x) = e.test x

unfoldable mutual
  pub path_for : Letters → PathForm → Path
  path_for e (path_letter x) = e.path x
  path_for e PathForm.Void = Path.Void
  path_for e PathForm.Root = Path.Root
  path_for e (u :: n) = AxisStep (axis_for e u) (test_for e n).test (test_for e n).name
  path_for e (u ¦ v) = Union (path_for e u) (path_for e v)
  path_for e (u ∕ v) = Composition (path_for e u) (path_for e v)
  path_for e (u ⟦ v ⟧) = Filter (path_for e u) (qualifier_for e v)

  pub qualifier_for : Letters → QualifierForm → Qualifier
  qualifier_for e (qualifier_letter x) = e.qualifier x
  qualifier_for e QualifierForm.True = Qualifier.True
  qualifier_for e QualifierForm.False = Qualifier.False
  qualifier_for e (Not u) = Qualifier.Not (qualifier_for e u)
  qualifier_for e (u And v) = Qualifier.And (qualifier_for e u) (qualifier_for e v)
  qualifier_for e (u Or v) = Qualifier.Or (qualifier_for e u) (qualifier_for e v)
  qualifier_for e (u In v) = Qualifier.In (path_for e u) (path_for e v)

unfoldable pub claim_for : Letters → ClaimForm → Claim
claim_for e (u <= v) = Containment (path_for e u) (path_for e v)
claim_for e (u => v) = Implication (qualifier_for e u) (qualifier_for e v)

-- the choice meets a condition
unfoldable pub meets : Letters → Condition → Bool
meets e a_below_b = axis_below (e.axis AxisLetter.a) (e.axis AxisLetter.b)
meets e N_below_M = test_below (e.test TestLetter.N).test (e.test TestLetter.N).name (e.test TestLetter.M).test
    (e.test TestLetter.M).name
meets e b_from_3_to_10 = leb descendant (e.axis AxisLetter.b) && leb (e.axis AxisLetter.b) preceding
meets e N_a_name_or_star = eqb (e.test TestLetter.N).test name_test || eqb (e.test TestLetter.N).test star_test
meets e N_not_node = not (eqb (e.test TestLetter.N).test node_test)
meets e a_not_attribute = not (eqb (e.axis AxisLetter.a) attribute)
