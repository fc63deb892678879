-- A row that stands in a table already.
use Prim.Native.Nat.{ℕ, zero, suc, ◌+◌, ◌*◌, ◌≤◌}
use mathlib.Core.Path.{◌≡◌, refl, sym, ap, ◌∙◌}
use mathlib.Core.List.{List, [], ◌∷◌, ◌++◌}
use native.Mathlib.Omega.{arith}
use lib.ListN.{length, take, drop}
use lib.Seq.{sets}
use Rattle.terms.specs.Row.{row_width, row_numbers, table_of, row_at}

-- written where it stands, it changes nothing
pub row_there : (n : ℕ) (xs : List ℕ) → row_width * n + 4 ≤ length xs
    → sets xs (row_width * n) (row_numbers (row_at (table_of xs) n)) ≡ xs
unfolding table_of
row_there n [] h = absurd (omega arith)
row_there n (k ∷ []) h = absurd (omega arith)
row_there n (k ∷ x ∷ []) h = absurd (omega arith)
row_there n (k ∷ x ∷ y ∷ []) h = absurd (omega arith)
row_there zero (k ∷ x ∷ y ∷ z ∷ xs) h = refl
row_there (suc n) (k ∷ x ∷ y ∷ z ∷ xs) h =
    let there = row_there n xs (omega arith) in
    let at : row_width * suc n ≡ suc (suc (suc (suc (row_width * n)))) = omega arith in
    rw at (ap (λ ys. k ∷ x ∷ y ∷ z ∷ ys) there)
