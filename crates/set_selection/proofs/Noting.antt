-- What is noted stays right, and what is found again is right.
use Prim.Native.Nat.{ℕ, zero, suc}
use mathlib.Core.Path.{◌≡◌, refl, sym, ap, subst}
use mathlib.Core.Bool.{Bool, true, false, beq}
use lib.Pointwise.{pointwise}
use mathlib.Core.List.{List, [], ◌∷◌, ◌++◌}
use mathlib.Core.Logic.{⊎_elim}
use lib.ListN.{get_or}
use Rattle.xpath.specs.Document.{Document}
use Rattle.terms.specs.Row.{Row}
use Rattle.set_selection.specs.declared.memory.Found.{Found}
use Rattle.set_selection.specs.declared.memory.Slot.{Slot}
use Rattle.set_selection.specs.declared.memory.Slot.TheVariants.{Single, Shared, Last}
use Rattle.set_selection.specs.declared.memory.Memory.{Memory}
use Rattle.set_selection.specs.declared.memory.Memories.{Memories}
use Rattle.set_selection.specs.Memories.{slot, Right, Has, Fresh, Noted, Remembers, Remembered}

module _ (P : List Bool → List Bool → Type 0) where
  right_has : (s : Slot) {m out : List Bool} → Right P s → Has s m out → P m out
  right_has Single u h = absurd h
  right_has Shared u h = absurd h
  right_has (Last f) {m} {out} u h =
      subst (λ (a : List Bool). P a out) h.0 (subst (λ (b : List Bool). P f.from.items b) h.1 u)

  has_right : (s : Slot) {m out : List Bool} → P m out → Has s m out → Right P s
  has_right Single u h = tt
  has_right Shared u h = tt
  has_right (Last f) {m} {out} u h =
      subst (λ (a : List Bool). P a f.to.items) (sym h.0) (subst (λ (b : List Bool). P m b) (sym h.1) u)

  empty_right : (s : Slot) → Right (λ from to. ⊥) s → Right P s
  empty_right Single u = tt
  empty_right Shared u = tt
  empty_right (Last f) u = absurd u

-- marks that are alike one by one
pub same_marks : (xs ys : List Bool) → pointwise (λ x y. beq x y) xs ys ≡ true → xs ≡ ys
same_marks [] [] e = refl
same_marks [] (y ∷ ys) e = absurd (cc)
same_marks (x ∷ xs) [] e = absurd (cc)
same_marks (true ∷ xs) (true ∷ ys) e = ap (λ l. true ∷ l) (same_marks xs ys e)
same_marks (false ∷ xs) (false ∷ ys) e = ap (λ l. false ∷ l) (same_marks xs ys e)
same_marks (true ∷ xs) (false ∷ ys) e = absurd (cc)
same_marks (false ∷ xs) (true ∷ ys) e = absurd (cc)

pub has_last : (s : Slot) (f : Found) {m out : List Bool} → s ≡ Last f → f.from.items ≡ m → f.to.items ≡ out → Has s m
    out
has_last s f e a b = rw e (a, b)

pub recalled : (P : ℕ → List Bool → List Bool → Type 0) (m : Memory) (r : ℕ) {from out : List Bool} → Remembers P m →
    Has (slot m r) from out → P r from out
recalled P m r u h = right_has (P r) (slot m r) (u r) h

pub noted : (P : ℕ → List Bool → List Bool → Type 0) (old new : Memory) (r : ℕ) {from out : List Bool} →
    Remembers P old → Noted old new r from out → P r from out → Remembers P new
noted P old new r {from} {out} u n p k =
    ⊎_elim
    (λ e. subst (λ (s : Slot). Right (P k) s) (sym e) (u k))
    (λ w. has_right (P k) (slot new k) (subst (λ (i : ℕ). P i from out) (sym w.0) p) w.1)
    (n k)

pub fresh_remembered : (rs : List Row) (d : Document) (m : Memories) → Fresh m.forward × Fresh m.back × Fresh
    m.holding →
    Remembered rs d m
fresh_remembered rs d m u =
    record {
      forward = λ k. empty_right _ (slot m.forward k) (u.0 k);
      back = λ k. empty_right _ (slot m.back k) (u.1 k);
      holding = λ k. empty_right _ (slot m.holding k) (u.2 k);
    }

-- a slot more
pub right_pushed : (P : List Bool → List Bool → Type 0) (xs : List Slot) (s : Slot) →
    ((k : ℕ) → Right P (get_or xs k Single)) → Right P s → (k : ℕ) → Right P (get_or (xs ++ s ∷ []) k Single)
right_pushed P [] s u v zero = v
right_pushed P [] s u v (suc k) = tt
right_pushed P (x ∷ xs) s u v zero = u 0
right_pushed P (x ∷ xs) s u v (suc k) = right_pushed P xs s (λ j. u (suc j)) v k
