-- Records of w numbers, as `as_chunks` cuts them.
use Prim.Native.Nat.{ℕ, zero, suc, ◌+◌, ◌*◌, ◌≤◌, ◌<◌}
use mathlib.Core.Path.{◌≡◌, refl, sym, ap, ◌∙◌}
use mathlib.Core.Bool.{cond}
use mathlib.Core.List.{List, [], ◌∷◌}
use native.Mathlib.Omega.{arith}
use lib.Dec.{leb}
use lib.ListN.{length, take, drop, length-drop}
use Rattle.std.proofs.Common.{map}
use Rattle.std.proofs.lemmas.Bool.{le-leb, lt-leb}
use Rattle.std.proofs.lemmas.List.{length-map}
use Rattle.std.specs.Simd.{first_chunks}

length_chunks : (w n : ℕ) (xs : List ℕ) → length (first_chunks w n xs) ≡ n
length_chunks w zero xs = refl
length_chunks w (suc n) xs = ap (λ (k : ℕ). suc k) (length_chunks w n (drop w xs))

-- g reads a list's records, the first by f; of a list that is too short for one it reads none
module _ {A : Type 0} (w : ℕ) (f : List ℕ → A) (g : List ℕ → List A)
    (one : (xs : List ℕ) → g xs ≡ cond (leb w (length xs)) (f (take w xs) ∷ g (drop w xs)) []) where
  -- the records are the numbers w by w
  pub by_width : (n : ℕ) (xs : List ℕ) → n * w ≤ length xs → length xs < n * w + w → map f (first_chunks w n xs) ≡ g xs
  by_width zero xs l h = sym (one xs ∙ rw (lt-leb w (length xs) (omega arith)))
  by_width (suc n) xs l h =
      let size = length-drop w xs in
      let later = by_width n (drop w xs) (omega arith) (omega arith) in
      ap (λ (ys : List A). f (take w xs) ∷ ys) later ∙ sym (one xs ∙ rw (le-leb w (length xs) (omega arith)))

  pub count_by_width : (n : ℕ) (xs : List ℕ) → n * w ≤ length xs → length xs < n * w + w → length (g xs) ≡ n
  count_by_width n xs l h =
      sym (ap length (by_width n xs l h)) ∙ length-map (first_chunks w n xs) f ∙ length_chunks w n xs
