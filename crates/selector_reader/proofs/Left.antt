-- A table by the rows that it holds and what stands past them.
use Prim.Native.Nat.{ℕ, zero, suc, ◌+◌, ◌*◌, ◌≤◌}
use mathlib.Core.Path.{◌≡◌, refl, sym, ap, ap₂, ◌∙◌}
use mathlib.Core.List.{List, [], ◌∷◌, ◌++◌}
use native.Mathlib.Omega.{arith}
use lib.ListN.{length, take, drop, length-append, take-append-drop}
use lib.Seq.{sets, sets-eq, length-take-le, drop_at}
use Rattle.common.specs.Lists.{joined as numbers_of}
use Rattle.terms.specs.Row.{Row, table_of, rows_numbers, table_with}
use Rattle.selector_readings.specs.private.Build.{row_width, row_numbers, Sized, Beyond}
use Rattle.selector_reader.specs.Promises.{held_rows}
use Rattle.selector_readings.proofs.Built.{table_count}

-- whole rows are their numbers
numbers_of_lem : (k : ℕ) (zs : List ℕ) → length zs ≡ 4 * k → rows_numbers (table_of zs) ≡ zs
unfolding table_of numbers_of
numbers_of_lem zero [] e = refl
numbers_of_lem zero (k ∷ zs) e = absurd (omega arith)
numbers_of_lem (suc n) [] e = absurd (omega arith)
numbers_of_lem (suc n) (k ∷ []) e = absurd (omega arith)
numbers_of_lem (suc n) (k ∷ x ∷ []) e = absurd (omega arith)
numbers_of_lem (suc n) (k ∷ x ∷ y ∷ []) e = absurd (omega arith)
numbers_of_lem (suc n) (k ∷ x ∷ y ∷ z ∷ zs) e =
    ap (λ (q : List ℕ). k ∷ x ∷ y ∷ z ∷ q) (numbers_of_lem n zs (omega arith))

numbers_append : (rs ss : List Row) → rows_numbers (rs ++ ss) ≡ rows_numbers rs ++ rows_numbers ss
unfolding numbers_of
numbers_append [] ss = refl
numbers_append (r ∷ rs) ss = ap (λ (q : List ℕ). row_numbers r ++ q) (numbers_append rs ss)

pub numbers_length_lem : (rs : List Row) → length (rows_numbers rs) ≡ 4 * length rs
unfolding numbers_of
numbers_length_lem [] = refl
numbers_length_lem (r ∷ rs) = let h = numbers_length_lem rs in omega arith

-- ys holds the rows ss, which are those of xs and new ones, and is as xs past them
pub left_table : (xs ys : List ℕ) (n k : ℕ) (ss new : List Row) → Sized xs n → Sized ys k → held_rows ys k ≡ ss
    → ss ≡ held_rows xs n ++ new → Beyond xs n ys k → ys ≡ table_with xs n ss
unfolding table_with
left_table xs ys n k ss new z w e f b =
    let held = held_rows xs n in
    let i = row_width * n in
    let numbers = rows_numbers new in
    let count : k ≡ n + length new =
    sym (table_count ys k w) ∙ ap length (e ∙ f) ∙ length-append held new
    ∙ ap (λ (j : ℕ). j + length new) (table_count xs n z) in
    let room : i + length numbers ≤ length xs = omega (arith, numbers_length_lem new, count, w.bound, z.size) in
    let end : i + length numbers ≡ row_width * k = omega (arith, numbers_length_lem new, count) in
    let front : take (row_width * k) ys ≡ take i xs ++ numbers =
    sym (numbers_of_lem k (take (row_width * k) ys)
    (length-take-le (row_width * k) ys (omega (arith, w.size, w.bound))))
    ∙ ap rows_numbers (e ∙ f) ∙ numbers_append held new
    ∙ ap (λ (q : List ℕ). q ++ numbers)
    (numbers_of_lem n (take i xs) (length-take-le i xs (omega (arith, z.size, z.bound)))) in
    let news : drop n ss ≡ new = ap (drop n) f ∙ drop_at held new n (table_count xs n z) in
    sym (take-append-drop (row_width * k) ys)
    ∙ ap₂ (λ (p q : List ℕ). p ++ q) front b.rest
    ∙ ap (λ (j : ℕ). take i xs ++ numbers ++ drop j xs) (sym end)
    ∙ sym (sets-eq numbers xs i room)
    ∙ ap (λ (q : List Row). sets xs i (rows_numbers q)) (sym news)
