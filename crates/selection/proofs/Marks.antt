-- Laws of marks: the loops that set them, and the copy into a buffer.
use Prim.Native.Nat.{ℕ, zero, suc, ◌+◌, ◌≤◌, ◌<◌}
use mathlib.Core.Path.{◌≡◌, refl, sym, ap, ap₂, ◌∙◌}
use mathlib.Core.Bool.{Bool, true, false, cond, not, ◌&&◌, ◌||◌, or-false}
use mathlib.Core.List.{List, ◌++◌}
use native.Mathlib.Omega.{arith}
use lib.Dec.{leb, eqb}
use lib.ListN.{length, get_or, set, take, drop, replicate, length-replicate}
use lib.Seq.{paste-suc}
use Rattle.common.specs.Bounded.{any_below}
use Rattle.xpath.specs.Document.{max_nodes}
use Rattle.selection.specs.Marks.{written}
use Rattle.selection.specs.private.MarksHeld.{AreMarks, Marks, Clear}
use Rattle.marking.specs.private.Added.{marked, Added}
use Rattle.marking.proofs.Added.{nothing_added, added_cong, added_twice}
use Rattle.selection.proofs.Folds.{any_more}

zeros_at : (n y : ℕ) → get_or {A = ℕ} (replicate n 0) y 0 ≡ 0
zeros_at zero y = refl
zeros_at (suc n) zero = refl
zeros_at (suc n) (suc y) = zeros_at n y

pub clear : Clear (replicate max_nodes 0)
clear = record { size = length-replicate {A = ℕ} max_nodes 0; zeros = zeros_at max_nodes }

-- marks that were added to none
module _ {n : ℕ} {s : ℕ → Bool} (new : List ℕ) (a : Added n (replicate max_nodes 0) new s) where
  pub fresh_marks : Marks n new s
  fresh_marks y h = a.marks y h ∙ rw (clear.zeros y)

  pub fresh_marked : (y : ℕ) → y < n → marked new y ≡ s y
  fresh_marked y h = rw (fresh_marks y h) (told (s y))
    where
      told : (b : Bool) → eqb (cond b 1 0) 1 ≡ b
      told true = refl
      told false = refl

  pub fresh_are_marks : AreMarks n new
  fresh_are_marks y h = rw (fresh_marks y h) (few (s y))
    where
      few : (b : Bool) → cond b 1 0 ≤ 1
      few true = omega arith
      few false = omega arith

-- of two marks the first is at most the second, if the second is there where the first is
pub mark_included : (u v : ℕ) → u ≤ 1 → v ≤ 1 → leb u v ≡ (not (eqb u 1) || eqb v 1)
mark_included zero zero h k = refl
mark_included zero (suc zero) h k = refl
mark_included zero (suc (suc v)) h k = absurd (omega arith)
mark_included (suc zero) zero h k = refl
mark_included (suc zero) (suc zero) h k = refl
mark_included (suc zero) (suc (suc v)) h k = absurd (omega arith)
mark_included (suc (suc u)) v h k = absurd (omega arith)

-- a loop that joins what is selected from the nodes of S, at z; s w is selected from w
abbrev pub joined_below : (ℕ → Bool) → (ℕ → ℕ → Bool) → ℕ → ℕ → Bool
joined_below S s z y = any_below z (λ w. S w && s w y)

module _ (S : ℕ → Bool) (s : ℕ → ℕ → Bool) (n : ℕ) where
  pub none_joined : (old : List ℕ) → Added n old old (joined_below S s 0)
  unfolding any_below
  none_joined old = nothing_added _ (λ y h. refl)

  module _ {old new : List ℕ} (z : ℕ) (u : Added n old new (joined_below S s z)) where
    pub joined_skipped : S z ≡ false → Added n old new (joined_below S s (z + 1))
    joined_skipped e = added_cong _ u (λ y h. any_more (λ w. S w && s w y) z ∙ rw (e, or-false))

    pub joined_next : (m : List ℕ) → S z ≡ true → Added n new m (s z) →
        Added n old m (joined_below S s (z + 1))
    joined_next m e g = added_twice _ (s z) _ u g (λ y h. any_more (λ w. S w && s w y) z ∙ rw e)

-- the first n marks, copied to the start of a buffer
pub written_copied : (n : ℕ) (m : List ℕ) (s : ℕ → Bool) (buffer : List ℕ) → n ≤ length m → n ≤ length buffer →
    Marks n m s → take n m ++ drop n buffer ≡ written n s buffer
unfolding written
written_copied zero m s buffer few room h = refl
written_copied (suc n) m s buffer few room h =
    let at : 0 + n ≡ n = omega arith in
    let end : suc n ≡ 0 + suc n = omega arith in
    ap (λ k. take (suc n) m ++ drop k buffer) end
    ∙ sym (paste-suc buffer 0 m n 0 (omega arith) (omega arith))
    ∙ ap (λ k. set (take n m ++ drop k buffer) k (get_or m n 0)) at
    ∙ ap₂ (λ ys v. set ys n v)
    (written_copied n m s buffer (omega arith) (omega arith) (λ y l. h y (omega arith))) (h n (omega arith))
