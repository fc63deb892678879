-- Images of sets, changed and put together.
use Prim.Native.Nat.{ℕ, zero, suc, ◌+◌, ◌≤◌, ◌<◌}
use mathlib.Core.Path.{◌≡◌, refl, sym, ap, subst, ◌∙◌}
use mathlib.Core.Bool.{Bool, true, false, not, ◌&&◌, ◌||◌, and-false}
use mathlib.Core.List.{List}
use mathlib.Core.Logic.{inl, inr, ⊎_elim}
use native.Mathlib.Omega.{arith}
use lib.Dec.{T, leb, ltb, eqb}
use lib.ListN.{length, get_or, replicate, length-replicate}
use mir.Facts.{and_yes, yes_and, or_yes, eqb_yes, yes_eqb}
use Rattle.std.specs.Prelude.{Result, Ok, Err, IfOk}
use Rattle.std.proofs.Common.{Vec, Global}
use Rattle.common.specs.Bounded.{any_below, all_below}
use Rattle.common.proofs.Reflect.{tests_equal, any_yes, yes_any, yes_or}
use Rattle.common.proofs.Tests.{any_cong}
use Rattle.set_selection.specs.Sets.{marked, image, Image, MoreImage, NoMarks, Pointwise}
use Rattle.set_selection.proofs.Anys.{subst_T, any_none}

pub no_marks_made : (n : ℕ) → NoMarks (replicate n false)
no_marks_made n = record { none = none n }
  where
    none : (n y : ℕ) → marked (replicate n false) y ≡ false
    none zero y = refl
    none (suc n) zero = refl
    none (suc n) (suc y) = none n y

pub all_marked : (n y : ℕ) → y < n → marked (replicate n true) y ≡ true
all_marked zero y h = absurd (omega arith)
all_marked (suc n) zero h = refl
all_marked (suc n) (suc y) h = all_marked n y (omega arith)

pub image_cong : {R S : ℕ → ℕ → Bool} {m out : List Bool} → Image R m out →
    ((x y : ℕ) → x < length m → y < length m → R x y ≡ S x y) → Image S m out
image_cong {R} {S} {m} {out} u same =
    record {
      size = u.size;
      each = λ y h. u.each y h
          ∙ any_cong (λ x. marked m x && R x y) (λ x. marked m x && S x y) (length m)
          (λ x l. ap (λ (b : Bool). marked m x && b) (same x y l h));
    }

-- nothing is related
pub image_none : (R : ℕ → ℕ → Bool) (m out : List Bool) → NoMarks out → length out ≡ length m →
    ((x y : ℕ) → x < length m → y < length m → R x y ≡ false) → Image R m out
image_none R m out none size unrelated =
    record {
      size = size;
      each = λ y h. none.none y
          ∙ sym (any_none (length m) (λ x. marked m x && R x y) (λ x l. rw (unrelated x y l h) (and-false _)));
    }

-- nodes are left out of an image
pub image_then : {R : ℕ → ℕ → Bool} (f : ℕ → Bool) {m a b : List Bool} → Image R m a →
    Pointwise a b (λ y v. v && f y) → Image (λ x y. R x y && f y) m b
image_then {R} f {m} {a} {b} u p =
    record {
      size = p.size ∙ u.size;
      each = λ y h. p.each y (omega (arith, u.size, h)) ∙ ap (λ (v : Bool). v && f y) (u.each y h) ∙ out y;
    }
  where
    out : (y : ℕ) → (image R m y && f y) ≡ image (λ x y. R x y && f y) m y
    out y =
        tests_equal (image R m y && f y) (image (λ x y. R x y && f y) m y) (
          λ t. let p = and_yes (image R m y) (f y) t in
              let r = any_yes (length m) (λ x. marked m x && R x y) p.0 in
              let q = and_yes (marked m r.0) (R r.0 y) r.2 in
              yes_any (length m) (λ x. marked m x && (R x y && f y)) r.0 r.1
              (yes_and (marked m r.0) (R r.0 y && f y) q.0 (yes_and (R r.0 y) (f y) q.1 p.1)),
          λ t. let r = any_yes (length m) (λ x. marked m x && (R x y && f y)) t in
              let p = and_yes (marked m r.0) (R r.0 y && f y) r.2 in
              let q = and_yes (R r.0 y) (f y) p.1 in
              yes_and (image R m y) (f y)
              (yes_any (length m) (λ x. marked m x && R x y) r.0 r.1 (yes_and (marked m r.0) (R r.0 y) p.0 q.0)) q.1,
        )

-- the image of a set without the nodes left out of it
pub image_kept : {R : ℕ → ℕ → Bool} (f : ℕ → Bool) {m k out : List Bool} → Pointwise m k (λ y v. v && f y) →
    Image R k out → Image (λ x y. f x && R x y) m out
image_kept {R} f {m} {k} {out} p u =
    record {
      size = u.size ∙ p.size;
      each = λ y h. u.each y (omega (arith, p.size, h))
          ∙ ap (λ (n : ℕ). any_below n (λ x. marked k x && R x y)) p.size
          ∙ any_cong (λ x. marked k x && R x y) (λ x. marked m x && (f x && R x y)) (length m)
          (λ x l. ap (λ (b : Bool). b && R x y) (p.each x l) ∙ and_assoc (marked m x) (f x) (R x y));
    }
  where
    and_assoc : (a b c : Bool) → (a && b && c) ≡ (a && (b && c))
    and_assoc true b c = refl
    and_assoc false b c = refl

pub image_self : {m out : List Bool} → out ≡ m → Image (λ x y. eqb x y) m out
image_self {m} {out} e =
    record {
      size = ap (λ (l : List Bool). length l) e;
      each = λ y h. ap (λ (l : List Bool). marked l y) e
          ∙ tests_equal (marked m y) (image (λ x y. eqb x y) m y) (
            λ t. yes_any (length m) (λ x. marked m x && eqb x y) y h
                (yes_and (marked m y) (eqb y y) t (yes_eqb {a = y} {b = y} (omega arith))),
            λ t. let r = any_yes (length m) (λ x. marked m x && eqb x y) t in
                let p = and_yes (marked m r.0) (eqb r.0 y) r.2 in
                let e : r.0 ≡ y = eqb_yes p.1 in subst (λ (z : ℕ). T (marked m z)) e p.0,
          );
    }

-- of two relations: either
pub image_or : {R S : ℕ → ℕ → Bool} {m a b c : List Bool} → Image R m a → Image S m b →
    Pointwise a c (λ y v. v || marked b y) → Image (λ x y. R x y || S x y) m c
image_or {R} {S} {m} {a} {b} {c} u v p =
    record {
      size = p.size ∙ u.size;
      each = λ y h. p.each y (omega (arith, u.size, h)) ∙ ap (λ (t : Bool). t || marked b y) (u.each y h)
          ∙ ap (λ (t : Bool). image R m y || t) (v.each y h) ∙ out y;
    }
  where
    out : (y : ℕ) → (image R m y || image S m y) ≡ image (λ x y. R x y || S x y) m y
    out y =
        tests_equal (image R m y || image S m y) (image (λ x y. R x y || S x y) m y) (
          λ t. ⊎_elim
              (λ s. let r = any_yes (length m) (λ x. marked m x && R x y) s in
              let q = and_yes (marked m r.0) (R r.0 y) r.2 in
              yes_any (length m) (λ x. marked m x && (R x y || S x y)) r.0 r.1
              (yes_and (marked m r.0) (R r.0 y || S r.0 y) q.0 (yes_or (R r.0 y) (S r.0 y) (inl q.1))))
              (λ s. let r = any_yes (length m) (λ x. marked m x && S x y) s in
              let q = and_yes (marked m r.0) (S r.0 y) r.2 in
              yes_any (length m) (λ x. marked m x && (R x y || S x y)) r.0 r.1
              (yes_and (marked m r.0) (R r.0 y || S r.0 y) q.0 (yes_or (R r.0 y) (S r.0 y) (inr q.1))))
              (or_yes (image R m y) (image S m y) t),
          λ t. let r = any_yes (length m) (λ x. marked m x && (R x y || S x y)) t in
              let q = and_yes (marked m r.0) (R r.0 y || S r.0 y) r.2 in
              yes_or (image R m y) (image S m y)
              (⊎_elim
              (λ s. inl (yes_any (length m) (λ x. marked m x && R x y) r.0 r.1
              (yes_and (marked m r.0) (R r.0 y) q.0 s)))
              (λ s. inr (yes_any (length m) (λ x. marked m x && S x y) r.0 r.1
              (yes_and (marked m r.0) (S r.0 y) q.0 s)))
              (or_yes (R r.0 y) (S r.0 y) q.1)),
        )

-- one relation after the other
pub image_on : {R S : ℕ → ℕ → Bool} {m a b : List Bool} → Image R m a → Image S a b →
    Image (λ x y. any_below (length m) (λ z. R x z && S z y)) m b
image_on {R} {S} {m} {a} {b} u v =
    record {
      size = v.size ∙ u.size;
      each = λ y h. v.each y (omega (arith, u.size, h)) ∙ ap (λ (n : ℕ). any_below n (λ z. marked a z && S z y)) u.size
          ∙ any_cong (λ z. marked a z && S z y) (λ z. image R m z && S z y) (length m)
          (λ z l. ap (λ (t : Bool). t && S z y) (u.each z l))
          ∙ out y;
    }
  where
    out : (y : ℕ) → any_below (length m) (λ z. image R m z && S z y)
        ≡ image (λ x y. any_below (length m) (λ z. R x z && S z y)) m y
    out y =
        tests_equal (any_below (length m) (λ z. image R m z && S z y))
        (image (λ x y. any_below (length m) (λ z. R x z && S z y)) m y) (
          λ t. let r = any_yes (length m) (λ z. image R m z && S z y) t in
              let p = and_yes (image R m r.0) (S r.0 y) r.2 in
              let s = any_yes (length m) (λ x. marked m x && R x r.0) p.0 in
              let q = and_yes (marked m s.0) (R s.0 r.0) s.2 in
              yes_any (length m) (λ x. marked m x && any_below (length m) (λ z. R x z && S z y)) s.0 s.1
              (yes_and (marked m s.0) (any_below (length m) (λ z. R s.0 z && S z y)) q.0
              (yes_any (length m) (λ z. R s.0 z && S z y) r.0 r.1 (yes_and (R s.0 r.0) (S r.0 y) q.1 p.1))),
          λ t. let s = any_yes (length m) (λ x. marked m x && any_below (length m) (λ z. R x z && S z y)) t in
              let p = and_yes (marked m s.0) (any_below (length m) (λ z. R s.0 z && S z y)) s.2 in
              let r = any_yes (length m) (λ z. R s.0 z && S z y) p.1 in
              let q = and_yes (R s.0 r.0) (S r.0 y) r.2 in
              yes_any (length m) (λ z. image R m z && S z y) r.0 r.1
              (yes_and (image R m r.0) (S r.0 y)
              (yes_any (length m) (λ x. marked m x && R x r.0) s.0 s.1 (yes_and (marked m s.0) (R s.0 r.0) p.0 q.0))
              q.1),
        )

-- more marks than none
pub image_more : {R : ℕ → ℕ → Bool} {m old new : List Bool} → MoreImage R m old new → NoMarks old →
    length old ≡ length m → Image R m new
image_more {R} {m} u none size =
    record {
      size = u.size ∙ size;
      each = λ y h. u.each y h ∙ ap (λ (b : Bool). b || image R m y) (none.none y);
    }

pub ok_to : {A E : Type 0} {P Q : A → Type 0} (r : Result A E) → IfOk r P → ((v : A) → P v → Q v) → IfOk r Q
ok_to (Ok v) u f = f v u
ok_to (Err e) u f = tt

pub made : {E : Type 0} {P Q : Vec Bool Global → Type 0} (r : Result (Vec Bool Global) E) → IfOk r P →
    ((v : Vec Bool Global) → P v → Q v) → IfOk r Q
made (Ok v) u f = f v u
made (Err e) u f = tt
