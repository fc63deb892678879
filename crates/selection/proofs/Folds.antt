-- Laws of the tests and sums over the numbers below a bound.
use Prim.Native.Nat.{ℕ, zero, suc, ◌+◌, ◌≤◌, ◌<◌}
use mathlib.Core.Path.{◌≡◌, refl}
use mathlib.Core.Bool.{Bool, ◌&&◌, ◌||◌}
use mathlib.Core.Logic.{⊎_elim}
use native.Mathlib.Omega.{arith}
use native.Mathlib.Numerals.{add-one}
use Rattle.common.specs.Bounded.{any_below, all_below, sum_below}
use Rattle.common.proofs.Reflect.{below_suc}

module _ (f : ℕ → Bool) where
  pub any_more : (n : ℕ) → any_below (n + 1) f ≡ (any_below n f || f n)
  unfolding any_below
  any_more n = rw add-one

  pub all_more : (n : ℕ) → all_below (n + 1) f ≡ (all_below n f && f n)
  unfolding all_below
  all_more n = rw add-one

module _ (f : ℕ → ℕ) where
  pub sum_more : (n : ℕ) → sum_below (n + 1) f ≡ sum_below n f + f n
  unfolding sum_below
  sum_more n = rw add-one

  pub sum_grows : (k n : ℕ) → k ≤ n → sum_below k f ≤ sum_below n f
  unfolding sum_below
  sum_grows zero n l = omega arith
  sum_grows (suc k) zero l = absurd (omega arith)
  sum_grows (suc k) (suc n) l =
      ⊎_elim (λ q. rw q (omega arith)) (λ h. omega (arith, sum_grows (suc k) n h)) (below_suc l)

-- equal tests and terms, equal folds
pub all_cong : (f g : ℕ → Bool) (n : ℕ) → ((k : ℕ) → k < n → f k ≡ g k) → all_below n f ≡ all_below n g
unfolding all_below
all_cong f g zero h = refl
all_cong f g (suc n) h = rw (all_cong f g n (λ k l. h k (omega arith)), h n (omega arith))

pub sum_cong : (f g : ℕ → ℕ) (n : ℕ) → ((k : ℕ) → k < n → f k ≡ g k) → sum_below n f ≡ sum_below n g
unfolding sum_below
sum_cong f g zero h = refl
sum_cong f g (suc n) h = rw (sum_cong f g n (λ k l. h k (omega arith)), h n (omega arith))
