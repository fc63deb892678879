-- Marks written one after the other.
use Prim.Native.Nat.{ℕ, zero, suc, ◌+◌, ◌≤◌, ◌<◌}
use native.Mathlib.Nat.{not-suc-le-zero}
use mathlib.Core.Path.{◌≡◌, refl, sym, ap, subst, ◌∙◌}
use mathlib.Core.Bool.{Bool, false, ◌||◌}
use mathlib.Core.List.{List}
use mathlib.Core.Logic.{inl, inr, ⊎_elim}
use native.Mathlib.Omega.{arith}
use lib.ListN.{length, get_or, set, length-set}
use lib.Seq.{get_or-set_same, get_or-set_other}
use Rattle.common.proofs.Reflect.{eq_or_ne}
use Rattle.set_selection.specs.Sets.{marked, image, Image, Pointwise}

-- the marks before y are g's
pub record DoneBelow (g : ℕ → Bool) (y : ℕ) (out : List Bool) : Type 0 where
  pub each : (k : ℕ) → k < y → marked out k ≡ g k

-- the marks from y on are
pub record DoneFrom (g : ℕ → Bool) (y : ℕ) (out : List Bool) : Type 0 where
  pub each : (k : ℕ) → y ≤ k → k < length out → marked out k ≡ g k

pub done_none : (g : ℕ → Bool) (out : List Bool) → DoneBelow g 0 out
done_none g out = record { each = λ k h. absurd (not-suc-le-zero h) }

pub done_on : {g : ℕ → Bool} {y : ℕ} {out : List Bool} (v : Bool) → y < length out → DoneBelow g y out → v ≡ g y →
    DoneBelow g (y + 1) (set out y v)
done_on {g} {y} {out} v l u e =
    record {
      each = λ k h. ⊎_elim
          (λ q. ap (λ (i : ℕ). get_or (set out y v) i false) q ∙ get_or-set_same out y v false l ∙ e ∙ ap g (sym q))
          (λ ne. get_or-set_other out y k v false ne ∙ u.each k (omega (arith, ne)))
          (eq_or_ne k y);
    }

pub from_on : {g : ℕ → Bool} {y : ℕ} {out : List Bool} (v : Bool) → y < length out → DoneFrom g (suc y) out → v ≡ g y →
    DoneFrom g y (set out y v)
from_on {g} {y} {out} v l u e =
    record {
      each = λ k h i. ⊎_elim
          (λ q. ap (λ (i : ℕ). get_or (set out y v) i false) q ∙ get_or-set_same out y v false l ∙ e ∙ ap g (sym q))
          (λ ne. get_or-set_other out y k v false ne
          ∙ u.each k (omega (arith, ne, h)) (omega (arith, length-set out y v, i)))
          (eq_or_ne k y);
    }

pub image_done : (R : ℕ → ℕ → Bool) (m out : List Bool) (y : ℕ) → DoneBelow (image R m) y out → length out ≤ y →
    length out ≡ length m → Image R m out
image_done R m out y u l size = record { size = size; each = λ k h. u.each k (omega (arith, size, h)) }

pub image_from : (R : ℕ → ℕ → Bool) (m out : List Bool) (y : ℕ) → DoneFrom (image R m) y out → y ≤ 0 →
    length out ≡ length m → Image R m out
image_from R m out y u l size =
    record { size = size; each = λ k h. u.each k (omega arith) (omega (arith, size, h)) }

-- the marks before y are f of the old ones, and the others are the old ones
pub record PointTo (old : List Bool) (f : ℕ → Bool → Bool) (y : ℕ) (out : List Bool) : Type 0 where
  pub size : length out ≡ length old
  pub done : (k : ℕ) → k < y → marked out k ≡ f k (marked old k)
  pub left : (k : ℕ) → y ≤ k → marked out k ≡ marked old k

pub point_none : (old : List Bool) (f : ℕ → Bool → Bool) → PointTo old f 0 old
point_none old f =
    record { size = refl; done = λ k h. absurd (not-suc-le-zero h); left = λ k h. refl }

pub point_on : {old : List Bool} {f : ℕ → Bool → Bool} {y : ℕ} {out : List Bool} (v : Bool) → y < length out →
    PointTo old f y out → v ≡ f y (marked out y) → PointTo old f (y + 1) (set out y v)
point_on {old} {f} {y} {out} v l u e =
    record {
      size = length-set out y v ∙ u.size;
      done = λ k h. ⊎_elim
          (λ q. ap (λ (i : ℕ). get_or (set out y v) i false) q ∙ get_or-set_same out y v false l ∙ e
          ∙ ap (f y) (u.left y (omega arith)) ∙ ap (λ (i : ℕ). f i (marked old i)) (sym q))
          (λ ne. get_or-set_other out y k v false ne ∙ u.done k (omega (arith, ne)))
          (eq_or_ne k y);
      left = λ k h. get_or-set_other out y k v false (λ q. omega arith) ∙ u.left k (omega arith);
    }

pub point_all : {old : List Bool} {f : ℕ → Bool → Bool} {y : ℕ} {out : List Bool} → PointTo old f y out →
    length old ≤ y → Pointwise old out f
point_all u l = record { size = u.size; each = λ k h. u.done k (omega arith) }
