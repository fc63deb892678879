-- What a comparison finds, and comparisons one after the other.
use Rattle.std.specs.Prelude.{ℕ, cond, ltb}

pub data Order : Type 0 where
  less equal greater : Order

infixr 60 ◌and_then◌
-- the second decides where the first finds equal
abbrev pub ◌and_then◌ : Order → Order → Order
less and_then o = less
equal and_then o = o
greater and_then o = greater

-- numbers as numbers
unfoldable pub number_order : ℕ → ℕ → Order
number_order n m = cond (ltb n m) less (cond (ltb m n) greater equal)
