-- Laws of results under a limit of visits.
use Prim.Native.Nat.{ℕ, ◌+◌, ◌-◌, ◌≤◌, ◌<◌}
use mathlib.Core.Path.{◌≡◌, sym, ◌∙◌}
use mathlib.Core.Bool.{Bool, true, false, cond}
use native.Mathlib.Omega.{arith}
use Rattle.std.specs.Prelude.{Option, Some, None}
use Rattle.common.specs.Bounded.{sum_below}
use Rattle.selection.specs.private.Limit.{Finished, UnderLimit}
use Rattle.selection.proofs.Folds.{sum_more, sum_grows}

-- the same visits and result for a term of the same cost
pub recounted : {R : Type 0} (made : R → ℕ) {correct correct' : R → Type 0} {cost cost' : ℕ} (limit : ℕ)
    (o : Option R) → UnderLimit made correct cost limit o → cost' ≡ cost → ((r : R) → correct r → correct' r) →
    UnderLimit made correct' cost' limit o
recounted made limit None h e f = omega arith
recounted made limit (Some r) w e f = record { made_is = w.made_is ∙ sym e; fits = w.fits; result_is = f r w.result_is }

-- a term's own visit, and those of one operand, under what that leaves of the limit
pub one_found : {first correct : Type 0} {cost₁ cost limit rest made : ℕ} → cost ≡ 1 + cost₁ → (1 ≤ limit) × (rest ≡ limit - 1) →
    Finished first cost₁ rest made → (first → correct) → Finished correct cost limit (1 + made)
one_found e l w f =
    record { made_is = omega (arith, w.made_is); fits = omega (arith, l, w.fits); result_is = f w.result_is }

-- and those of two operands, the second under what the first leaves
pub second_over : {first : Type 0} {cost₁ cost₂ cost limit rest made : ℕ} → cost ≡ 1 + (cost₁ + cost₂) →
    (1 ≤ limit) × (rest ≡ limit - 1) → Finished first cost₁ rest made → rest - made < cost₂ → limit < cost
second_over e l w h = omega (arith, l, w.made_is, w.fits)

pub both_found : {first second correct : Type 0} {cost₁ cost₂ cost limit rest made₁ made₂ : ℕ} →
    cost ≡ 1 + (cost₁ + cost₂) → (1 ≤ limit) × (rest ≡ limit - 1) → Finished first cost₁ rest made₁ →
    Finished second cost₂ (rest - made₁) made₂ → (first → second → correct) →
    Finished correct cost limit (1 + made₁ + made₂)
both_found e l w v f =
    record {
      made_is = omega (arith, w.made_is, v.made_is);
      fits = omega (arith, l, w.fits, v.fits);
      result_is = f w.result_is v.result_is;
    }

-- a loop over the nodes of S, at z, where `start` visits were made before it; the node w costs v w
pub record Visited (S : ℕ → Bool) (v : ℕ → ℕ) (start limit z made : ℕ) : Type 0 where
  pub made_is : made ≡ start + sum_below z (λ w. cond (S w) (v w) 0)
  pub fits : made ≤ limit

module _ (S : ℕ → Bool) (v : ℕ → ℕ) (start limit : ℕ) where
  abbrev cost_at : ℕ → ℕ
  cost_at w = cond (S w) (v w) 0

  pub none_visited : start ≤ limit → Visited S v start limit 0 start
  unfolding sum_below
  none_visited h = record { made_is = omega arith; fits = h }

  module _ {z made : ℕ} (p : Visited S v start limit z made) where
    pub skipped : S z ≡ false → Visited S v start limit (z + 1) made
    skipped e =
        let same : sum_below (z + 1) cost_at ≡ sum_below z cost_at = sum_more cost_at z ∙ rw e (omega arith) in
        record { made_is = omega (arith, p.made_is); fits = p.fits }

    module _ (e : S z ≡ true) where
      next_sum : sum_below (z + 1) cost_at ≡ sum_below z cost_at + v z
      next_sum = sum_more cost_at z ∙ rw e

      pub visited_next : {inner : Type 0} {next : ℕ} → Finished inner (v z) (limit - made) next →
          Visited S v start limit (z + 1) (made + next)
      visited_next w =
          record {
            made_is = omega (arith, next_sum, p.made_is, w.made_is);
            fits = omega (arith, p.fits, w.fits);
          }

      -- the limit is passed at z, and so by all n
      pub stopped_at : {n : ℕ} → z < n → limit - made < v z → limit < start + sum_below n cost_at
      stopped_at {n} l h = omega (arith, next_sum, p.made_is, p.fits, sum_grows cost_at (z + 1) n (omega arith))
