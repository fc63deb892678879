-- The rows and steps of a list of numbers.
use Prim.Native.Nat.{ℕ, ◌*◌, ◌/◌, ◌≤◌, min}
use mathlib.Core.Path.{◌≡◌, refl, ◌∙◌}
use mathlib.Core.Bool.{cond}
use mathlib.Core.List.{List, [], ◌∷◌}
use native.Mathlib.Omega.{arith}
use lib.Dec.{leb}
use lib.ListN.{length, take, drop, length-take}
use lib.Seq.{length-take-le}
use Rattle.std.proofs.Common.{map}
use Rattle.std.proofs.lemmas.Bool.{le-leb}
use Rattle.std.specs.Simd.{first_chunks}
use Rattle.common.proofs.Chunks.{by_width, count_by_width}
use Rattle.terms.specs.Row.{table_of, max_rows}
use Rattle.terms.proofs.LentRows.{rows_lent}
use Rattle.calls.specs.Book.{step_of_numbers, max_steps}
use Rattle.calls.specs.represent.Tables.{row_width, step_width, steps_of, first_row_numbers, first_step_numbers}

-- the first of the rows that a session has room for
module _ (xs : List ℕ) (n : ℕ) (few : n ≤ max_rows) (size : length xs ≡ row_width * max_rows) where
  row_numbers_held : length (take (row_width * n) xs) ≡ row_width * n
  row_numbers_held = length-take-le (row_width * n) xs (omega arith)

  pub rows_held_lem : length (table_of (take (row_width * n) xs)) ≡ n
  rows_held_lem = rows_lent (take (row_width * n) xs) ∙ rw row_numbers_held (omega arith)

-- the first rows are no more than the limit
pub few_rows : (n : ℕ) (xs ys : List ℕ) → ys ≡ first_row_numbers n xs → length (table_of ys) ≤ max_rows
few_rows n xs ys e =
    let count : length (first_row_numbers n xs) ≤ row_width * max_rows = omega (
      arith,
      length-take (row_width * min n max_rows) xs,
    ) in
    rw e (omega (arith, rows_lent (first_row_numbers n xs)))

-- a list has a first step where it has five numbers
one_step : (xs : List ℕ) → steps_of xs
    ≡ cond (leb 5 (length xs)) (step_of_numbers (take 5 xs) ∷ steps_of (drop 5 xs)) []
unfolding steps_of
one_step [] = refl
one_step (k ∷ []) = refl
one_step (k ∷ l ∷ []) = refl
one_step (k ∷ l ∷ r ∷ []) = refl
one_step (k ∷ l ∷ r ∷ i ∷ []) = refl
one_step (k ∷ l ∷ r ∷ i ∷ j ∷ xs) = rw (le-leb 5 (length (k ∷ l ∷ r ∷ i ∷ j ∷ xs)) (omega arith))

pub steps_lent : (xs : List ℕ) → length (steps_of xs) ≡ length xs / 5
steps_lent xs = count_by_width 5 step_of_numbers steps_of one_step (length xs / 5) xs (omega arith) (omega arith)

-- the steps are the numbers five by five
pub steps_by_five : (n : ℕ) (xs : List ℕ) → n ≡ length xs / 5 → map step_of_numbers (first_chunks 5 n xs) ≡ steps_of xs
steps_by_five n xs e = by_width 5 step_of_numbers steps_of one_step n xs (omega arith) (omega arith)

-- the first of the steps that a session has room for
module _ (xs : List ℕ) (n : ℕ) (few : n ≤ max_steps) (size : length xs ≡ step_width * max_steps) where
  step_numbers_held : length (take (step_width * n) xs) ≡ step_width * n
  step_numbers_held = length-take-le (step_width * n) xs (omega arith)

  pub steps_held_lem : length (steps_of (take (step_width * n) xs)) ≡ n
  steps_held_lem = steps_lent (take (step_width * n) xs) ∙ rw step_numbers_held (omega arith)

-- the first steps are no more than the limit
pub few_steps : (n : ℕ) (xs ys : List ℕ) → ys ≡ first_step_numbers n xs → length (steps_of ys) ≤ max_steps
few_steps n xs ys e =
    let count : length (first_step_numbers n xs) ≤ step_width * max_steps = omega (
      arith,
      length-take (step_width * min n max_steps) xs,
    ) in
    rw e (omega (arith, steps_lent (first_step_numbers n xs)))
