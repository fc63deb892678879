-- Where the first line of a text ends.
use Prim.Native.Nat.{ℕ, suc, ◌+◌}
use mathlib.Core.Path.{◌≡◌, refl}
use mathlib.Core.Bool.{Bool, true, false, cond, not}
use mathlib.Core.List.{List, [], ◌∷◌}
use native.Mathlib.Omega.{arith}
use lib.Dec.{eqb}
use Rattle.std.specs.List.{position_or_len}
use Rattle.lines.specs.Line.{newline, Line, line, in_first_line, lines}
use Rattle.lines.specs.private.NumbersRead.{first_length}

-- one byte more makes the first line one longer
pub first_longer : (x : ℕ) (ls : List Line) → first_length (in_first_line x ls) ≡ suc (first_length ls)
unfolding first_length in_first_line
first_longer x [] = refl
first_longer x (l ∷ ls) = refl

-- the lines of a text with one byte more, which is a newline or not
abbrev pub one_more : ℕ → Bool → List Line → List Line
one_more x b ls = cond b (line [] true ∷ ls) (in_first_line x ls)

-- the first line ends at the first newline, or with the text
pub first_ends : (xs : List ℕ) → position_or_len (λ x. eqb x newline) xs ≡ first_length (lines xs)
unfolding lines first_length
first_ends [] = refl
first_ends (x ∷ xs) = by_test (eqb x newline) (first_ends xs)
  where
    by_test : (b : Bool) → position_or_len (λ x. eqb x newline) xs ≡ first_length (lines xs)
        → cond (not b) (1 + position_or_len (λ x. eqb x newline) xs) 0 ≡ first_length (one_more x b (lines xs))
    by_test true e = refl
    by_test false e = rw (e, first_longer x (lines xs)) (omega arith)
