-- A bound on the visits of paths of steps alone, by induction on the steps.
use Prim.Native.Nat.{ℕ, zero, suc, ◌+◌, ◌-◌, ◌≤◌}
use mathlib.Core.Path.{◌≡◌}
use mathlib.Core.Bool.{Bool, cond}
use native.Mathlib.Omega.{arith}
use native.Mathlib.Nat.{suc-mul}
use lib.ListN.{length}
use Rattle.common.specs.Bounded.{sum_below}
use Rattle.common.proofs.Tests.{at_most_one}
use Rattle.xpath.specs.Term.{Path}
use Rattle.xpath.specs.Meaning.{selects}
use Rattle.xpath.specs.Visits.{visits}
use Rattle.xpath.specs.Chain.{Chain, one, more, visit_bound, ChainVisits}

-- of n numbers, no more than n pass a test
count_le : (n : ℕ) (f : ℕ → Bool) → sum_below n (λ z. cond (f z) 1 0) ≤ n
unfolding sum_below
count_le zero f = omega arith
count_le (suc n) f = omega (arith, count_le n f, at_most_one (f n))

chain_from_one : {k : ℕ} {p : Path} → Chain k p → 1 ≤ k
chain_from_one one = omega arith
chain_from_one (more c) = omega arith

-- a step more costs its composition and a visit for each of s nodes
bound_next : (k n v s : ℕ) → 1 ≤ k → v ≤ visit_bound k n → s ≤ n → 1 + (v + s) ≤ visit_bound (suc k) n
bound_next k n v s h l g =
    let e : suc k - 1 ≡ suc (k - 1) = omega arith in
    rw e (omega (arith, suc-mul (k - 1) (n + 1)))

pub chain_visits : ChainVisits
unfolding visits
chain_visits k p one d x = omega arith
chain_visits k p (more {k = j} {p = q} c) d x =
    bound_next j (length d) (visits d q x) _ (chain_from_one c) (chain_visits j q c d x)
    (count_le (length d) (selects d q x))
