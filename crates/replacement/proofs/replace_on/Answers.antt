-- `replace_on` meets its contract, test by test.
use mathlib.Core.Path.{sym, ◌∙◌}
use native.Mathlib.Omega.{arith}
use Rattle.replacement.proofs.Judged.{lists_refused, as_many, place_few, place_refused, all_passed}
use Rattle.replacement.proofs.replace_on.Goals as goal

pub returns-then-are_bad_lists : goal.returns-then-are_bad_lists
returns-then-are_bad_lists c = lists_refused _ _ _ _ (sym c.are_bad_lists.ensures ∙ c.if-are_bad_lists.true)

pub first_uncovered-requires : goal.first_uncovered-requires
first_uncovered-requires c = as_many _ _ _ (sym c.are_bad_lists.ensures ∙ c.if-are_bad_lists.false)

pub overflow_add-result : goal.overflow_add-result
overflow_add-result c =
    let fit = sym c.are_bad_lists.ensures ∙ c.if-are_bad_lists.false in
    omega (arith, place_few _ _ _ _ fit c.in-Some.k c.in-Some.ensures)

pub overflow_cast-result : goal.overflow_cast-result
overflow_cast-result c =
    let fit = sym c.are_bad_lists.ensures ∙ c.if-are_bad_lists.false in
    omega (arith, place_few _ _ _ _ fit c.in-Some.k c.in-Some.ensures)

pub returns-in-Some : goal.returns-in-Some
returns-in-Some c =
    let fit = sym c.are_bad_lists.ensures ∙ c.if-are_bad_lists.false in
    place_refused _ _ _ _ fit c.in-Some.k c.in-Some.ensures

pub returns-in-None : goal.returns-in-None
returns-in-None c =
    let fit = sym c.are_bad_lists.ensures ∙ c.if-are_bad_lists.false in
    all_passed _ _ _ _ fit c.in-None.ensures
