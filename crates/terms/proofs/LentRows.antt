-- The table of lent numbers, row by row.
use Prim.Native.Nat.{ℕ, zero, suc, ◌+◌, ◌*◌, ◌/◌, ◌≤◌}
use mathlib.Core.Path.{◌≡◌, refl, ap, ◌∙◌}
use mathlib.Core.Bool.{cond}
use mathlib.Core.List.{List, [], ◌∷◌, ◌++◌}
use native.Mathlib.Omega.{arith}
use lib.Dec.{leb}
use lib.ListN.{length, take, drop, length-append}
use lib.Seq.{sets, sets-eq, length-take-le, take_at}
use Rattle.std.proofs.Common.{map}
use Rattle.std.proofs.lemmas.Bool.{le-leb}
use Rattle.std.specs.Simd.{first_chunks}
use Rattle.common.proofs.Chunks.{by_width, count_by_width}
use Rattle.terms.specs.Row.{Row, row, row_width, row_numbers, row_of_numbers, table_of}

-- a list has a first row where it has four numbers
one_row : (xs : List ℕ) → table_of xs ≡ cond (leb 4 (length xs)) (row_of_numbers (take 4 xs) ∷ table_of (drop 4 xs)) []
unfolding table_of
one_row [] = refl
one_row (k ∷ []) = refl
one_row (k ∷ x ∷ []) = refl
one_row (k ∷ x ∷ y ∷ []) = refl
one_row (k ∷ x ∷ y ∷ z ∷ xs) = rw (le-leb 4 (length (k ∷ x ∷ y ∷ z ∷ xs)) (omega arith))

-- a row is four numbers
pub rows_lent : (xs : List ℕ) → length (table_of xs) ≡ length xs / 4
rows_lent xs = count_by_width 4 row_of_numbers table_of one_row (length xs / 4) xs (omega arith) (omega arith)

-- the rows are the numbers four by four
pub rows_by_four : (n : ℕ) (xs : List ℕ) → n ≡ length xs / 4 → map row_of_numbers (first_chunks 4 n xs) ≡ table_of xs
rows_by_four n xs e = by_width 4 row_of_numbers table_of one_row n xs (omega arith) (omega arith)

-- n whole rows, and then other numbers
pub table_append : (n : ℕ) (xs ys : List ℕ) → length xs ≡ 4 * n → table_of (xs ++ ys) ≡ table_of xs ++ table_of ys
unfolding table_of
table_append zero [] ys e = refl
table_append zero (k ∷ xs) ys e = absurd (omega arith)
table_append (suc n) [] ys e = absurd (omega arith)
table_append (suc n) (k ∷ []) ys e = absurd (omega arith)
table_append (suc n) (k ∷ x ∷ []) ys e = absurd (omega arith)
table_append (suc n) (k ∷ x ∷ y ∷ []) ys e = absurd (omega arith)
table_append (suc n) (k ∷ x ∷ y ∷ z ∷ xs) ys e =
    ap (λ (rs : List Row). row k x y z ∷ rs) (table_append n xs ys (omega arith))

-- numbers written after the first m are the next of the first m and those
take_sets : (xs : List ℕ) (m : ℕ) (vs : List ℕ) → m + length vs ≤ length xs → take (m + length vs) (sets xs m vs)
    ≡ take m xs ++ vs
take_sets xs m vs h =
    ap (take (m + length vs)) (sets-eq vs xs m h)
    ∙ take_at (take m xs ++ vs) (drop (m + length vs) xs) (m + length vs)
    (length-append (take m xs) vs ∙ ap (λ k. k + length vs) (length-take-le m xs (omega arith)))

-- a row is put after the first n
pub row_put : (n : ℕ) (xs : List ℕ) (r : Row) → row_width * n + 4 ≤ length xs
    → table_of (take (row_width * (n + 1)) (sets xs (row_width * n) (row_numbers r)))
    ≡ table_of (take (row_width * n) xs) ++ (r ∷ [])
unfolding table_of
row_put n xs r fits =
    let end : row_width * (n + 1) ≡ row_width * n + 4 = omega arith in
    rw end (ap table_of (take_sets xs (row_width * n) (row_numbers r) fits)
    ∙ table_append n (take (row_width * n) xs) (row_numbers r) (length-take-le (row_width * n) xs (omega arith)))
