-- Facts about tests that more than one crate needs and the library lacks.
use Prim.Native.Nat.{ℕ, zero, suc, ◌≤◌, ◌<◌}
use mathlib.Core.Path.{◌≡◌, refl, sym}
use mathlib.Core.Bool.{Bool, true, false, not, cond, ◌||◌}
use native.Mathlib.Omega.{arith}
use lib.Dec.{eqb}
use mir.Facts.{eqb_yes, yes_eqb}
use Rattle.std.proofs.lemmas.Bool.{or_parts, not-false}
use Rattle.common.specs.Bounded.{any_below}
use Rattle.common.proofs.Reflect.{tests_equal}

-- what a test counts for
pub at_most_one : (b : Bool) → cond b 1 0 ≤ 1
at_most_one true = omega arith
at_most_one false = omega arith

-- equality the other way round
pub eqb_turned : (m n : ℕ) → eqb m n ≡ eqb n m
eqb_turned m n = tests_equal (eqb m n) (eqb n m) (λ t. yes_eqb (sym (eqb_yes t)), λ t. yes_eqb (sym (eqb_yes t)))

-- neither a test nor the failure of another
pub or_not_parts : (a b : Bool) → (a || not b) ≡ false → (a ≡ false) × (b ≡ true)
or_not_parts a b e = let r = or_parts a (not b) e in (r.0, not-false b r.1)

-- some number passes one test where some passes the other: the tests agree below n
pub any_cong : (f g : ℕ → Bool) (n : ℕ) → ((k : ℕ) → k < n → f k ≡ g k) → any_below n f ≡ any_below n g
unfolding any_below
any_cong f g zero h = refl
any_cong f g (suc n) h = rw (any_cong f g n (λ k l. h k (omega arith)), h n (omega arith))
