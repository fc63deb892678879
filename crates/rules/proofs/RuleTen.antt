-- Rule 10, whose second premise ends in `*` or in node(): all that it yields with either ending is yielded.
use Rattle.std.specs.Prelude.{ℕ, refl, true, ◌&&◌, leb}
use mathlib.Core.List.{Memᴰ}
use Rattle.std.proofs.Common.{inl}
use Rattle.std.proofs.Math.Facts.{yes_and}
use Rattle.common.specs.Axes.{descendant, preceding}
use Rattle.common.specs.NodeTests.{star_test, node_test}
use Rattle.common.specs.Lists.{all_of}
use Rattle.xpath.specs.Term.{Path, Void, True}
use Rattle.rules.specs.Form.{PathLetter, AxisLetter, TestLetter, test}
use Rattle.rules.specs.RuleTable.{rules}
use Rattle.rules.specs.Instance.{Test, axis_for, test_for, path_for, claim_for, meets}
use Rattle.rules.specs.Yields.{forms_in, forms_of}
use Rattle.rules.specs.EndingYields.{EndingYields}
use Rattle.rules.specs.values.RuleTen.{rule10_form}

abbrev paths : Path → Path → PathLetter → Path
paths u v PathLetter.p = u
paths u v PathLetter.q = Void
paths u v PathLetter.r = v
paths u v PathLetter.s = Void

abbrev axes : ℕ → ℕ → AxisLetter → ℕ
axes x y AxisLetter.a = x
axes x y AxisLetter.b = y

abbrev tests : Test → Test → TestLetter → Test
tests n m TestLetter.N = n
tests n m TestLetter.M = m

ending_yields : (t : ℕ) → Memᴰ (rule10_form (test t)) (forms_of 10) → EndingYields t
unfolding all_of meets claim_for path_for axis_for test_for
ending_yields t i u v x y n m c =
    inl (record {
      form = rule10_form (test t);
      of_rule = i;
      letters = record { path = paths u v; qualifier = λ _. True; axis = axes x y; test = tests n m };
      conditions = yes_and (leb descendant y && leb y preceding) true c tt;
      conclusion = refl;
      premises = refl;
    })

-- rule 10: all that it yields is yielded
pub star_ending_yields : EndingYields star_test
unfolding forms_of forms_in rules
star_ending_yields = ending_yields star_test (Memᴰ.head refl)

-- and so is what it yields with the other ending
pub node_ending_yields : EndingYields node_test
unfolding forms_of forms_in rules
node_ending_yields = ending_yields node_test (Memᴰ.tail (Memᴰ.head refl))
