-- Bytes that are the same.
use Prim.Native.Nat.{ℕ}
use mathlib.Core.Path.{◌≡◌, refl}
use mathlib.Core.Bool.{Bool, true, false, ◌&&◌, false≢true}
use mathlib.Core.List.{List, [], ◌∷◌}
use lib.Dec.{eqb}
use borrow.Author.Tests.{eqb-true, eq-eqb}
use Rattle.lines.specs.Line.{same_bytes}

pub same_bytes_lem : (xs ys : List ℕ) → same_bytes xs ys ≡ true → xs ≡ ys
unfolding same_bytes
same_bytes_lem [] [] e = refl
same_bytes_lem [] (y ∷ ys) e = absurd (false≢true e)
same_bytes_lem (x ∷ xs) [] e = absurd (false≢true e)
same_bytes_lem (x ∷ xs) (y ∷ ys) e = by_test (eqb x y) refl e (same_bytes_lem xs ys)
  where
    by_test : (b : Bool) → eqb x y ≡ b → (b && same_bytes xs ys) ≡ true → (same_bytes xs ys ≡ true → xs ≡ ys)
        → x ∷ xs ≡ y ∷ ys
    by_test true s t later = λ i. eqb-true x y s i ∷ later t i
    by_test false s t later = absurd (false≢true t)

pub same_itself : (xs : List ℕ) → same_bytes xs xs ≡ true
unfolding same_bytes
same_itself [] = refl
same_itself (x ∷ xs) = rw (eq-eqb x x refl, same_itself xs)
