-- Where a byte stands first.
use Prim.Native.Nat.{ℕ, suc, ◌+◌, ◌<◌}
use mathlib.Core.Path.{◌≡◌, refl, ap, ◌∙◌}
use mathlib.Core.Bool.{Bool, true, false, cond, not}
use mathlib.Core.List.{List, [], ◌∷◌, ◌++◌}
use native.Mathlib.Omega.{arith}
use lib.Dec.{ltb, eqb}
use lib.ListN.{length, drop, length-append}
use borrow.Author.Tests.{eq-eqb, ltb-false, lt-ltb, le-ltb}
use Rattle.std.specs.Prelude.{Option as Optional, Some, None, position, unwrap_or}
use Rattle.std.specs.List.{position_or_len}
use Rattle.std.proofs.lemmas.List.Sums.{prefix_len-le-length}
use Rattle.lines.proofs.Cutting.{Free, Cutting, whole, in_two, cutting}

pub first_or_length : (p : ℕ → Bool) (xs : List ℕ) → unwrap_or (position p xs) (length xs) ≡ position_or_len p xs
first_or_length p xs = by_test (ltb (position_or_len p xs) (length xs)) refl
  where
    by_test : (b : Bool) → ltb (position_or_len p xs) (length xs) ≡ b
        → unwrap_or (cond b (Some (position_or_len p xs)) None) (length xs) ≡ position_or_len p xs
    by_test true e = refl
    by_test false e = let h = ltb-false _ _ e in let k = prefix_len-le-length (λ x. not (p x)) xs in omega arith

-- the bytes before the first e, and those behind it
pub record Before (e : ℕ) (xs : List ℕ) (i : ℕ) : Type 0 where
  pub bytes : List ℕ
  pub rest : List ℕ
  pub text : xs ≡ bytes ++ e ∷ rest
  pub free : Free e bytes
  pub size : length bytes ≡ i

-- what `find` gives
abbrev pub First : (e : ℕ) (xs : List ℕ) → Optional ℕ → Type 0
First e xs None = Free e xs
First e xs (Some i) = Before e xs i

free_all : (e : ℕ) (xs : List ℕ) → Free e xs → position_or_len (λ x. eqb x e) xs ≡ length xs
free_all e [] f = refl
free_all e (x ∷ xs) f = rw (f.0, free_all e xs f.1) (omega arith)

free_before : (e : ℕ) (w r : List ℕ) → Free e w → position_or_len (λ x. eqb x e) (w ++ e ∷ r) ≡ length w
free_before e [] r f = rw (eq-eqb e e refl)
free_before e (x ∷ w) r f = rw (f.0, free_before e w r f.1) (omega arith)

pub first : (e : ℕ) (xs : List ℕ) → First e xs (position (λ x. eqb x e) xs)
first e xs = by_cut (cutting e xs)
  where
    by_cut : Cutting e xs → First e xs (position (λ x. eqb x e) xs)
    by_cut (whole f n) = rw (free_all e xs f, le-ltb (length xs) (length xs) (omega arith)) f
    by_cut (in_two w r s f) =
        let place : position_or_len (λ x. eqb x e) xs ≡ length w =
        ap (position_or_len (λ x. eqb x e)) s ∙ free_before e w r f in
        let inside : length w < length xs = omega (arith, ap length s, length-append w (e ∷ r)) in
        rw (place, lt-ltb (length w) (length xs) inside)
        (record { bytes = w; rest = r; text = s; free = f; size = refl })

pub behind_first : (e : ℕ) (w r : List ℕ) → drop (length w + 1) (w ++ e ∷ r) ≡ r
behind_first e [] r = refl
behind_first e (x ∷ w) r =
    let k : length (x ∷ w) + 1 ≡ suc (length w + 1) = omega arith in
    rw k (behind_first e w r)
