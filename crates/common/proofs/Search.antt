-- The search for the first number that passes.
use Prim.Native.Nat.{ℕ, zero, suc, ◌<◌, ◌≤◌}
use mathlib.Core.Path.{◌≡◌, refl, sym, ap, ◌∙◌}
use mathlib.Core.Bool.{Bool, true, false, not, cond}
use mathlib.Core.Logic.{◌↔◌, ⊎_elim}
use mathlib.Core.List.{List}
use mathlib.Core.Option.{Option, none, some, Option-elim}
use lib.Dec.{ltb}
use lib.ListN.{length, get_or}
use borrow.Author.Tests.{ltb-true, ltb-false}
use Rattle.std.specs.List.{position_or_len}
use Rattle.std.proofs.lemmas.List.Sums.{fails_before_first, passes_at_first, prefix_len-le-length}
use native.Mathlib.Omega.{arith}
use Rattle.common.specs.Bounded.{first_below}
use Rattle.common.proofs.Reflect.{below_suc}

-- of two places to look, neither has it
neither : (o : Option ℕ) (b : Bool) (n : ℕ) → Option-elim o (cond b (some n) none) some ≡ none →
    (o ≡ none) × (b ≡ false)
unfolding Option-elim
neither none true n e = let z : ◌≡◌ {A = ℕ} 0 1 = cc in absurd (omega arith)
neither none false n e = (refl, refl)
neither (some m) b n e = let z : ◌≡◌ {A = ℕ} 0 1 = cc in absurd (omega arith)

-- of two places to look, one has it
next_below : (o : Option ℕ) (b : Bool) (n k : ℕ) → (some k ≡ o → k < n) →
    some k ≡ Option-elim o (cond b (some n) none) some → k < suc n
unfolding Option-elim
next_below none true n k g e = let z : k ≡ n = cc in omega arith
next_below none false n k g e = let z : ◌≡◌ {A = ℕ} 0 1 = cc in absurd (omega arith)
next_below (some m) b n k g e = let z : k < n = g e in omega arith

module _ (f : ℕ → Bool) where
  pub first_not_yet : (i : ℕ) → first_below i f ≡ none → f i ≡ false → first_below (suc i) f ≡ none
  unfolding first_below Option-elim
  first_not_yet i e h = rw (e, h)

  pub first_found : (i n : ℕ) → i < n → first_below i f ≡ none → f i ≡ true → first_below n f ≡ some i
  unfolding first_below Option-elim
  first_found i zero l e h = absurd (omega arith)
  first_found i (suc n) l e h = ⊎_elim (λ q. rw (← q, e, h)) (λ m. rw (first_found i n m e h)) (below_suc l)

  -- nothing is found just where nothing passes
  none_passes : (n : ℕ) → first_below n f ≡ none → (k : ℕ) → k < n → f k ≡ false
  unfolding first_below
  none_passes zero e k l = absurd (omega arith)
  none_passes (suc n) e k l =
      let r = neither (first_below n f) (f n) n e in
      ⊎_elim (λ q. rw q r.1) (λ m. none_passes n r.0 k m) (below_suc l)

  none_found : (n : ℕ) → ((k : ℕ) → k < n → f k ≡ false) → first_below n f ≡ none
  unfolding first_below Option-elim
  none_found zero g = refl
  none_found (suc n) g = rw (none_found n (λ k l. g k (omega arith)), g n (omega arith))

  -- what is found is below the bound
  pub found_below : (n k : ℕ) → some k ≡ first_below n f → k < n
  unfolding first_below
  found_below zero k e = let z : ◌≡◌ {A = ℕ} 0 1 = cc in absurd (omega arith)
  found_below (suc n) k e = next_below (first_below n f) (f n) n k (found_below n k) e

  pub none_iff : (n : ℕ) → (first_below n f ≡ none) ↔ ((k : ℕ) → k < n → f k ≡ false)
  none_iff n = (none_passes n, none_found n)

-- two searches find the same where the tests agree on each number before which the first test passes none
pub first_alike : (f g : ℕ → Bool) (n : ℕ) → ((k : ℕ) → ((j : ℕ) → j < k → f j ≡ false) → g k ≡ f k) →
    first_below n g ≡ first_below n f
unfolding first_below Option-elim
first_alike f g zero same = refl
first_alike f g (suc n) same = rw (first_alike f g n same) (by_found (first_below n f) refl)
  where
    by_found : (o : Option ℕ) → first_below n f ≡ o →
        Option-elim o (cond (g n) (some n) none) some ≡ Option-elim o (cond (f n) (some n) none) some
    by_found none e = rw (same n (none_passes f n e))
    by_found (some k) e = refl

-- the first number that passes is the place of the first entry that passes, where number and entry are tested alike
module _ {A : Type 0} (f : ℕ → Bool) (g : A → Bool) (d : A) (xs : List A)
    (alike : (k : ℕ) → k < length xs → f k ≡ g (get_or xs k d)) where
  abbrev place : ℕ
  place = position_or_len g xs

  few : place ≤ length xs
  few = prefix_len-le-length (λ x. not (g x)) xs

  none_before : first_below place f ≡ none
  none_before = none_found f place (λ k l. alike k (omega (arith, few, l)) ∙ fails_before_first g xs k d l)

  pub first_in : first_below (length xs) f ≡ cond (ltb place (length xs)) (some place) none
  first_in = by (ltb place (length xs)) refl
    where
      by : (b : Bool) → ltb place (length xs) ≡ b → first_below (length xs) f ≡ cond b (some place) none
      by true e =
          let l = ltb-true place (length xs) e in
          first_found f place (length xs) l none_before (alike place l ∙ passes_at_first g xs d l)
      by false e =
          let l = ltb-false place (length xs) e in
          let q : place ≡ length xs = omega (arith, few, l) in
          ap (λ k. first_below k f) (sym q) ∙ none_before
