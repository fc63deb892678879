-- The call replace: its answer.
use Rattle.std.specs.Prelude.{ℕ, suc, Bool, not, cond, ◌||◌, List, ltb, eqb, length}
use Rattle.std.proofs.Math.Option.{Option, Option-elim}
use Rattle.common.specs.Bounded.{first_below}
use Rattle.calls.specs.Book.{Book, Answer, answer}
use Rattle.common.specs.Refusals.{bad_lists, not_covered}
use Rattle.replacement.specs.Covered.{is_replaced_at}

-- up to 64 old rows, and up to 64 new ones
abbrev pub max_list : ℕ
max_list = 64

-- refusal 25: a list too long, or not as many steps as old rows
unfoldable pub are_bad_lists : (old new by : List ℕ) → Bool
are_bad_lists old new by =
    ltb max_list (length old) || ltb max_list (length new) || not (eqb (length by) (length old))

-- refusal 26: the first place, counted from 0, whose step isn't as it must be
unfoldable pub first_uncovered : Book → (old new by : List ℕ) → Option ℕ
first_uncovered b old new by = first_below (length old) (λ k. not (is_replaced_at b old new by k))

-- the first refusal that applies, in the order 25, 26, with the place counted from 1; else 0
unfoldable pub replace_answer : Book → (old new by : List ℕ) → Answer
replace_answer b old new by =
    cond (are_bad_lists old new by) (answer bad_lists 0)
    (Option-elim (first_uncovered b old new by) (answer 0 0) (λ k. answer not_covered (suc k)))
