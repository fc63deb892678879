-- Lists with a number for each rule.
use Prim.Native.Nat.{ℕ, zero, suc, ◌+◌, ◌≤◌, ◌<◌}
use mathlib.Core.Path.{◌≡◌, refl, ap, ◌∙◌}
use mathlib.Core.List.{List, [], ◌∷◌}
use native.Mathlib.Omega.{arith}
use lib.ListN.{length, get_or, replicate}
use Rattle.tallies.specs.Count.{each_from, sum}
use Rattle.tallies.specs.represent.Tally.{max_count, plus, plus_each}

pub each_length : (r k : ℕ) (f : ℕ → ℕ) → length (each_from r k f) ≡ k
unfolding each_from
each_length r zero f = refl
each_length r (suc k) f = ap suc (each_length (suc r) k f)

pub each_at : (r k : ℕ) (f : ℕ → ℕ) (j : ℕ) → j < k → get_or (each_from r k f) j 0 ≡ f (r + j)
unfolding each_from
each_at r zero f j h = absurd (omega arith)
each_at r (suc k) f zero h = let e : r ≡ r + 0 = omega arith in ap f e
each_at r (suc k) f (suc j) h =
    let e : suc r + j ≡ r + suc j = omega arith in
    each_at (suc r) k f j (omega arith) ∙ ap f e

pub each_same : (r k : ℕ) (f g : ℕ → ℕ) → ((n : ℕ) → f n ≡ g n) → each_from r k f ≡ each_from r k g
unfolding each_from
each_same r zero f g same = refl
each_same r (suc k) f g same = λ i. same r i ∷ each_same (suc r) k f g same i

pub each_zero : (r k : ℕ) → replicate k 0 ≡ each_from r k (λ n. 0)
unfolding each_from
each_zero r zero = refl
each_zero r (suc k) = ap (λ (ns : List ℕ). 0 ∷ ns) (each_zero (suc r) k)

pub each_plus : (r k : ℕ) (f g : ℕ → ℕ)
    → plus_each (each_from r k f) (each_from r k g) ≡ each_from r k (λ n. plus (f n) (g n))
unfolding each_from plus_each
each_plus r zero f g = refl
each_plus r (suc k) f g = ap (λ (ns : List ℕ). plus (f r) (g r) ∷ ns) (each_plus (suc r) k f g)

-- a sum that fits is a sum
pub plus_fits : (m n : ℕ) → m + n ≤ max_count → plus m n ≡ m + n
unfolding plus
plus_fits m n h = omega arith

pub plus_length : (ms ns : List ℕ) → length ms ≡ length ns → length (plus_each ms ns) ≡ length ms
unfolding plus_each
plus_length [] ns e = refl
plus_length (m ∷ ms) [] e = absurd (omega arith)
plus_length (m ∷ ms) (n ∷ ns) e = ap suc (plus_length ms ns (omega arith))

pub plus_at : (ms ns : List ℕ) (j : ℕ) → length ms ≡ length ns → j < length ms
    → get_or (plus_each ms ns) j 0 ≡ plus (get_or ms j 0) (get_or ns j 0)
unfolding plus_each
plus_at [] ns j e h = absurd (omega arith)
plus_at (m ∷ ms) [] j e h = absurd (omega arith)
plus_at (m ∷ ms) (n ∷ ns) zero e h = refl
plus_at (m ∷ ms) (n ∷ ns) (suc j) e h = plus_at ms ns j (omega arith) (omega arith)

pub sum_zero : (r k : ℕ) → sum (each_from r k (λ n. 0)) ≡ 0
unfolding each_from sum
sum_zero r zero = refl
sum_zero r (suc k) = omega (arith, sum_zero (suc r) k)

pub sum_plus : (r k : ℕ) (f g : ℕ → ℕ)
    → sum (each_from r k (λ n. f n + g n)) ≡ sum (each_from r k f) + sum (each_from r k g)
unfolding each_from sum
sum_plus r zero f g = omega arith
sum_plus r (suc k) f g = omega (arith, sum_plus (suc r) k f g)
