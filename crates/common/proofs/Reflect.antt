-- What a passed test says, and the way back (`mir.Facts` has both for the tests of numbers, `and`, and `or` one way).
use Prim.Native.Nat.{ℕ, zero, suc, ◌≤◌, ◌<◌}
use mathlib.Core.Path.{◌≡◌, refl, subst}
use mathlib.Core.Bool.{Bool, true, false, not, ◌&&◌, ◌||◌}
pub use mathlib.Core.Bool.{and-true, and-false, or-false}
pub use Rattle.std.proofs.lemmas.Bool.{cases_eq as eq_or_ne}
use Rattle.std.proofs.lemmas.Bool.{cases_lt}
use mathlib.Core.Logic.{◌↔◌, ◌⊎◌, inl, inr, ⊎_elim}
use native.Mathlib.Nat.{not-suc-le-zero, eq-or-lt_of_le, le_of_suc-le-suc}
use native.Mathlib.Omega.{arith}
use lib.Dec.{T, T_not, not_T, leb, eqb, leb→le, le→leb}
use mir.Facts.{and_yes, yes_and, or_yes, eqb_yes, yes_eqb}
use Rattle.common.specs.Bounded.{any_below, all_below}

pub yes_or : (a b : Bool) → T a ⊎ T b → T (a || b)
yes_or true b t = tt
yes_or false b t = ⊎_elim (λ u. absurd u) (λ u. u) t

pub and_iff : (a b : Bool) → T (a && b) ↔ (T a × T b)
and_iff a b = (and_yes a b, λ t. yes_and a b t.0 t.1)

pub or_iff : (a b : Bool) → T (a || b) ↔ (T a ⊎ T b)
or_iff a b = (or_yes a b, yes_or a b)

pub not_iff : (b : Bool) → T (not b) ↔ ¬ (T b)
not_iff b = (T_not b, not_T b)

pub eq_iff : (m n : ℕ) → T (eqb m n) ↔ (m ≡ n)
eq_iff m n = (eqb_yes, yes_eqb)

pub le_iff : (m n : ℕ) → T (leb m n) ↔ (m ≤ n)
le_iff m n = (leb→le m n, le→leb m n)

-- what a passed test says: `simp facts at t`
pub ruleset facts = (and_iff, or_iff, not_iff, eq_iff, le_iff)

-- equivalent tests are equal
pub tests_equal : (a b : Bool) → T a ↔ T b → a ≡ b
tests_equal true true e = refl
tests_equal true false e = absurd (e.0 tt)
tests_equal false true e = absurd (e.1 tt)
tests_equal false false e = refl

pub true_iff : (b : Bool) → T b ↔ (b ≡ true)
true_iff true = (λ t. refl, λ e. tt)
true_iff false = (λ t. absurd t, λ e. subst (λ (b : Bool). T (not b)) e tt)

-- a test passes or fails
pub T-dec : (b : Bool) → T b ⊎ ¬ (T b)
T-dec true = inl tt
T-dec false = inr (λ t. t)

pub le_or_lt : (m n : ℕ) → (m ≤ n) ⊎ (n < m)
le_or_lt m n = ⊎_elim (λ l. inr l) (λ l. inl l) (cases_lt n m)

-- a number below n + 1 is n, or is below n
pub below_suc : {k n : ℕ} → k < suc n → (k ≡ n) ⊎ (k < n)
below_suc h = eq-or-lt_of_le (le_of_suc-le-suc h)

pub any_yes : (n : ℕ) (f : ℕ → Bool) → T (any_below n f) → (k : ℕ) × (k < n) × T (f k)
unfolding any_below
any_yes zero f t = absurd t
any_yes (suc n) f t =
    ⊎_elim
    (λ u. let r = any_yes n f u in let h : r.0 < suc n = omega (arith, r.1) in (r.0, h, r.2))
    (λ u. (n, omega arith, u))
    (or_yes (any_below n f) (f n) t)

pub yes_any : (n : ℕ) (f : ℕ → Bool) (k : ℕ) → k < n → T (f k) → T (any_below n f)
unfolding any_below
yes_any zero f k h t = absurd (not-suc-le-zero h)
yes_any (suc n) f k h t =
    yes_or (any_below n f) (f n)
    (⊎_elim (λ e. inr (subst (λ (m : ℕ). T (f m)) e t)) (λ l. inl (yes_any n f k l t)) (below_suc h))

pub all_yes : (n : ℕ) (f : ℕ → Bool) → T (all_below n f) → (k : ℕ) → k < n → T (f k)
unfolding all_below
all_yes zero f t k h = absurd (not-suc-le-zero h)
all_yes (suc n) f t k h =
    let r = and_yes (all_below n f) (f n) t in
    ⊎_elim (λ e. rw e r.1) (λ l. all_yes n f r.0 k l) (below_suc h)

pub yes_all : (n : ℕ) (f : ℕ → Bool) → ((k : ℕ) → k < n → T (f k)) → T (all_below n f)
unfolding all_below
yes_all zero f g = tt
yes_all (suc n) f g = yes_and (all_below n f) (f n) (yes_all n f (λ k h. g k (omega arith))) (g n (omega arith))

-- the connectives, where the tests a and b stand for facts A and B
module _ {A B : Type 0} (a b : Bool) (ea : T a ↔ A) (eb : T b ↔ B) where
  pub and_via : T (a && b) ↔ (A × B)
  and_via = (λ t. let r = and_yes a b t in (ea.0 r.0, eb.0 r.1), λ r. yes_and a b (ea.1 r.0) (eb.1 r.1))

  pub or_via : T (a || b) ↔ (A ⊎ B)
  or_via = (
    λ t. ⊎_elim (λ u. inl (ea.0 u)) (λ u. inr (eb.0 u)) (or_yes a b t),
    λ r. yes_or a b (⊎_elim (λ u. inl (ea.1 u)) (λ u. inr (eb.1 u)) r),
  )

  pub implies_via : T (not a || b) ↔ (A → B)
  implies_via = (
    λ t h. ⊎_elim (λ n. absurd (T_not a n (ea.1 h))) (λ u. eb.0 u) (or_yes (not a) b t),
    λ g. yes_or (not a) b (⊎_elim (λ u. inr (eb.1 (g (ea.0 u)))) (λ n. inl (not_T a n)) (T-dec a)),
  )

pub not_via : {A : Type 0} (a : Bool) → T a ↔ A → T (not a) ↔ ¬ A
not_via a ea = (λ t h. T_not a t (ea.1 h), λ f. not_T a (λ t. f (ea.0 t)))
