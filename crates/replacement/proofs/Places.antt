-- What a search of the code gives, as a definition has it.
use Prim.Native.Nat.{ℕ}
use mathlib.Core.Path.{refl}
use mathlib.Core.Bool.{Bool, true, false, cond}
use mathlib.Core.Option as first
use Rattle.std.proofs.Common.{Some, None}
use Rattle.replacement.specs.private.Places.{IndexIs}

-- a place that passes a test
pub by_test : (t : Bool) (n : ℕ) → IndexIs (cond t (Some n) None) (cond t (first.some n) first.none)
by_test true n = refl
by_test false n = refl
