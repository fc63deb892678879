-- The answer of a replace call, test by test.
use Prim.Native.Nat.{ℕ, suc, ◌+◌, ◌≤◌, ◌<◌}
use mathlib.Core.Path.{◌≡◌, refl, sym, ap}
use mathlib.Core.Bool.{Bool, true, false, not, cond, ◌||◌}
use mathlib.Core.List.{List}
use mathlib.Core.Logic.{◌↔◌}
use mathlib.Core.Option.{Option, none, some, Option-elim}
use native.Mathlib.Numerals.{add-one}
use native.Mathlib.Omega.{arith}
use lib.Dec.{T, ltb, eqb}
use lib.ListN.{length, get_or}
use borrow.Author.Tests.{ltb-false, eqb-true, not-false}
use mir.Facts.{and_yes, yes_and, yes_eqb}
use Rattle.common.specs.Bounded.{first_below, all_below}
use Rattle.common.proofs.Search.{none_iff, found_below, first_in}
use Rattle.common.proofs.Reflect.{true_iff, all_yes, yes_all}
use Rattle.calls.specs.Book.{Book, answer}
use Rattle.common.specs.Refusals.{bad_lists, not_covered}
use Rattle.std.proofs.lemmas.Bool.{or_parts}
use Rattle.std.specs.Prelude.{Ok, Err}
use Rattle.common.specs.declared.refusal.Refusal.TheVariants.{BadLists, NotCovered}
use Rattle.calls.specs.represent.Answers.{DoneOrRefusal, done_answer_of}
use Rattle.replacement.specs.Covered.{is_replaced, is_replaced_at, is_covered}
use Rattle.replacement.specs.ReplaceCall.{max_list, are_bad_lists, first_uncovered, replace_answer}
use Rattle.replacement.specs.private.Places.{IndexIs}
use Rattle.replacement.proofs.Places.{by_test}
use Rattle.std.specs.List.{zip, position, position_or_len}
use Rattle.std.proofs.lemmas.Slice.Zip.{get_or-zip, length-zip}

-- lists that are not refused
module _ (old new by : List ℕ) (fit : are_bad_lists old new by ≡ false) where
  abbrev lists : ((ltb max_list (length old) || ltb max_list (length new)) ≡ false)
      × (not (eqb (length by) (length old)) ≡ false)
  unfolding are_bad_lists
  lists = or_parts (ltb max_list (length old) || ltb max_list (length new)) (not (eqb (length by) (length old))) fit

  pub as_many : length by ≡ length old
  as_many = eqb-true (length by) (length old) (not-false (eqb (length by) (length old)) lists.1)

  pub few : length old ≤ max_list
  few = ltb-false max_list (length old) (or_parts (ltb max_list (length old)) (ltb max_list (length new)) lists.0).0

module _ (b : Book) (old new by : List ℕ) where
  abbrev is_bad : ℕ → Bool
  is_bad k = not (is_replaced_at b old new by k)

  -- the same of an old row and its step
  abbrev pub is_bad_pair : ℕ × ℕ → Bool
  is_bad_pair p = not (is_replaced b new p.0 p.1)

  -- the search among the pairs
  module _ (as_long : length by ≡ length old) where
    pairs_size : length (zip old by) ≡ length old
    pairs_size = omega (arith, length-zip old by)

    alike : (k : ℕ) → k < length (zip old by) → is_bad k ≡ is_bad_pair (get_or (zip old by) k (0, 0))
    unfolding is_replaced_at
    alike k l =
        sym (ap is_bad_pair (get_or-zip old by k (0, 0) (omega (arith, pairs_size)) (omega (arith, pairs_size))))

    pub uncovered_found : IndexIs (position is_bad_pair (zip old by)) (first_uncovered b old new by)
    unfolding first_uncovered
    uncovered_found =
        rw (← pairs_size, first_in is_bad is_bad_pair (0, 0) (zip old by) alike)
        (by_test (ltb (position_or_len is_bad_pair (zip old by)) (length (zip old by))) _)

  pub lists_refused : are_bad_lists old new by ≡ true → answer bad_lists 0 ≡ replace_answer b old new by
  unfolding replace_answer
  lists_refused e = rw e

  -- lists that are not refused, and what the search gives
  module _ (fit : are_bad_lists old new by ≡ false) where
    pub place_few : (k : ℕ) → first_uncovered b old new by ≡ some k → k < max_list
    unfolding first_uncovered
    place_few k e = omega (arith, found_below is_bad (length old) k (sym e), few old new by fit)

    pub place_refused : (k : ℕ) → first_uncovered b old new by ≡ some k
        → answer not_covered (k + 1) ≡ replace_answer b old new by
    unfolding replace_answer Option-elim
    place_refused k e = rw (fit, e) (ap (answer not_covered) (add-one k))

    pub all_passed : first_uncovered b old new by ≡ none → answer 0 0 ≡ replace_answer b old new by
    unfolding replace_answer Option-elim
    all_passed e = rw (fit, e)

  -- the call accepts just when neither refusal applies
  neither_applies : (bad : Bool) (first : Option ℕ)
      → (cond bad (answer bad_lists 0) (Option-elim first (answer 0 0) (λ k. answer not_covered (suc k)))).number ≡ 0
      → (bad ≡ false) × (first ≡ none)
  unfolding Option-elim
  neither_applies true first e = absurd (omega arith)
  neither_applies false none e = (refl, refl)
  neither_applies false (some k) e = absurd (omega arith)

  pub accepts_iff : ((replace_answer b old new by).number ≡ 0)
      ↔ ((are_bad_lists old new by ≡ false) × T (is_covered b old new by))
  unfolding replace_answer first_uncovered is_covered Option-elim
  accepts_iff = (
    λ e. let (fit, none_bad) = neither_applies (are_bad_lists old new by) (first_below (length old) is_bad) e in (
      fit,
      yes_and (eqb (length by) (length old)) (all_below (length old) (is_replaced_at b old new by))
          (yes_eqb (as_many old new by fit))
          (yes_all (length old) (is_replaced_at b old new by) (λ k h.
          (true_iff (is_replaced_at b old new by k)).1
          (not-false (is_replaced_at b old new by k) ((none_iff is_bad (length old)).0 none_bad k h)))),
    ),
    λ r.
        let covered = and_yes (eqb (length by) (length old))
        (all_below (length old) (is_replaced_at b old new by)) r.1 in
        let none_bad : first_below (length old) is_bad ≡ none =
        (none_iff is_bad (length old)).1 (λ k h.
        ap not ((true_iff (is_replaced_at b old new by k)).0
        (all_yes (length old) (is_replaced_at b old new by) covered.1 k h))) in
        rw (r.0, none_bad),
  )

-- every answer is that of a case of the code's answer
case_of : (bad : Bool) (first : Option ℕ) → (t : DoneOrRefusal) × (done_answer_of t
    ≡ cond bad (answer bad_lists 0) (Option-elim first (answer 0 0) (λ k. answer not_covered (suc k))))
unfolding Option-elim
case_of true first = (Err BadLists, refl)
case_of false none = (Ok tt, refl)
case_of false (some k) = (Err (NotCovered (suc k)), refl)

pub replace_case : (b : Book) (old new by : List ℕ)
    → (t : DoneOrRefusal) × (done_answer_of t ≡ replace_answer b old new by)
unfolding replace_answer
replace_case b old new by = case_of (are_bad_lists old new by) (first_uncovered b old new by)
