-- The code's types as the definitions have them.
use Rattle.std.specs.Prelude.{ℕ, ◌≡◌, Bool, true, false, ◌&&◌, List, map, Option, None, Some}
use Rattle.std.proofs.Math.Option as math
use Rattle.std.proofs.Math.Option.{none, some}
use Rattle.common.specs.Lists.{all_of}
use Rattle.rules.specs.Order.{is_pair}
use Rattle.terms.specs.declared.Row.{Row as CodeRow}
use Rattle.terms.specs.Row.{Row, row_at}
use Rattle.terms.specs.represent.RowTypes.{row_of}
use Rattle.matching.specs.declared.matcher.Letters.{Letters}
use Rattle.matching.specs.declared.way_back.Reversal.{Reversal}
use Rattle.matching.specs.declared.way_back.Reversal.TheVariants.{Never, Always, Operands}
use Rattle.matching.specs.private.RowYields.{Match, is_row}
use Rattle.matching.specs.private.RowWayBack.{is_back_by}

-- a letter stands for something
abbrev pub has_value : Option ℕ → Bool
has_value None = false
has_value (Some v) = true

-- what it stands for, 0 where that is nothing
abbrev pub value_or_0 : Option ℕ → ℕ
value_or_0 None = 0
value_or_0 (Some v) = v

abbrev pub values_in : Letters → List ℕ
values_in l = map value_or_0 l.values

-- all that was compared so far fits: what the letters stand for
abbrev pub matched : Letters → Match
matched l = record { fits = true; known = map has_value l.values; value = values_in l }

-- o is the held row of number v, where it is of that kind
abbrev pub KindRowIs : Option CodeRow → List Row → (kind v : ℕ) → Type 0
KindRowIs None rs kind v = is_row rs kind v ≡ false
KindRowIs (Some r) rs kind v = (is_row rs kind v ≡ true) × (row_of r ≡ row_at rs v)

-- an axis that is given, or none
abbrev pub axis_given : Option ℕ → math.Option ℕ
axis_given None = none
axis_given (Some a) = some a

-- the answer of a comparison, and the letters after it, which don't matter where it doesn't fit
pub record Matches (fits : Bool) (l : Letters) (m : Match) : Type 0 where
  pub answer : fits ≡ m.fits
  pub letters : fits ≡ true → matched l ≡ m

-- each pair of the one table is found in the other
unfoldable pub same_pairs : (ps qs : List (ℕ × ℕ)) → Bool
same_pairs ps qs = all_of (λ p. is_pair qs p.0 p.1) ps && all_of (λ q. is_pair ps q.0 q.1) qs

-- what is seen is a way back, by a test for the operands
abbrev pub reversed_by : (ℕ → ℕ → Bool) → Reversal → Bool
reversed_by back Never = false
reversed_by back Always = true
reversed_by back (Operands s t) = back s.left s.right && back t.left t.right

-- r is what is to be seen of x and y for y to be the way back of x, by any test for their operands
unfoldable pub Reverses : List Row → Row → Row → Reversal → Type 0
Reverses rs x y r = (back : ℕ → ℕ → Bool) → is_back_by rs back x y ≡ reversed_by back r
