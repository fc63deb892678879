-- What a crew gets is in the register's order, each released record once.
use Prim.Native.Nat.{ℕ, zero, suc, ◌<◌}
use mathlib.Core.Path.{◌≡◌, refl, ap, ◌∙◌}
use mathlib.Core.Bool.{Bool, true, false}
use mathlib.Core.List.{List, [], ◌∷◌, map}
use mathlib.Core.Logic.{inl, inr, ⊎_elim}
use native.Mathlib.Omega.{arith}
use lib.Dec.{T, eqb}
use lib.ListN.{length, get_or}
use borrow.Author.Tests.{eqb-true, eqb-false}
use mir.Facts.{eqb_yes, yes_eqb, or_yes}
use Rattle.common.specs.Lists.{any_of, Every}
use Rattle.common.proofs.Reflect.{yes_or}
use Rattle.records.specs.declared.Record.{Record}
use Rattle.records.specs.Records.{empty_record}
use Rattle.records.specs.Releases.{IsReleased, released, Increasing, ShowsInOrder}

-- the places of the released records of a list, one place further each, and with the first place before them
abbrev later : List ℕ → List ℕ
later is = map suc is

later_in_order : (is : List ℕ) → Increasing is → Increasing (later is)
later_in_order [] h = tt
later_in_order (i ∷ []) h = tt
later_in_order (i ∷ j ∷ is) h = (omega (arith, h.0), later_in_order (j ∷ is) h.1)

first_in_order : (is : List ℕ) → Increasing is → Increasing (0 ∷ later is)
first_in_order [] h = tt
first_in_order (i ∷ is) h = (omega arith, later_in_order (i ∷ is) h)

later_has : (is : List ℕ) (i : ℕ) → T (any_of (λ j. eqb j i) is) → T (any_of (λ j. eqb j (suc i)) (later is))
unfolding any_of
later_has [] i t = absurd t
later_has (k ∷ is) i t =
    yes_or (eqb (suc k) (suc i)) (any_of (λ j. eqb j (suc i)) (later is))
    (⊎_elim (λ u. let e : k ≡ i = eqb_yes u in inl (yes_eqb (ap suc e))) (λ u. inr (later_has is i u))
    (or_yes (eqb k i) (any_of (λ j. eqb j i) is) t))

module _ (r : Record) (rs : List Record) (f : ℕ) (fs : List ℕ) where
  later_released : (is : List ℕ) → Every (λ i. (i < length rs) × IsReleased fs i) is
      → Every (λ i. (i < length (r ∷ rs)) × IsReleased (f ∷ fs) i) (later is)
  later_released [] h = tt
  later_released (i ∷ is) h = ((omega (arith, h.0.0), h.0.1), later_released is h.1)

  later_shown : (is : List ℕ)
      → map (λ i. get_or rs i empty_record) is ≡ map (λ i. get_or (r ∷ rs) i empty_record) (later is)
  later_shown [] = refl
  later_shown (i ∷ is) = ap (λ qs. get_or rs i empty_record ∷ qs) (later_shown is)

  -- a record before the others is among those shown where it is released
  with_first : (b : Bool) → eqb f 1 ≡ b → ShowsInOrder rs fs → ShowsInOrder (r ∷ rs) (f ∷ fs)
  unfolding any_of released
  with_first true e w =
      let is-released = eqb-true f 1 e in
      record {
        places = 0 ∷ later w.places;
        in_order = first_in_order w.places w.in_order;
        each = each;
        no_other = ((omega arith, is-released), later_released w.places w.no_other);
        shown = rw e (ap (λ qs. r ∷ qs) (w.shown ∙ later_shown w.places));
      }
    where
      each : (i : ℕ) → i < length (r ∷ rs) → IsReleased (f ∷ fs) i
          → T (any_of (λ j. eqb j i) (0 ∷ later w.places))
      each zero h is = tt
      each (suc i) h is =
          yes_or (eqb 0 (suc i)) (any_of (λ j. eqb j (suc i)) (later w.places))
          (inr (later_has w.places i (w.each i (omega arith) is)))
  with_first false e w =
      record {
        places = later w.places;
        in_order = later_in_order w.places w.in_order;
        each = each;
        no_other = later_released w.places w.no_other;
        shown = rw e (w.shown ∙ later_shown w.places);
      }
    where
      each : (i : ℕ) → i < length (r ∷ rs) → IsReleased (f ∷ fs) i → T (any_of (λ j. eqb j i) (later w.places))
      each zero h is = absurd (eqb-false f 1 e is)
      each (suc i) h is = later_has w.places i (w.each i (omega arith) is)

pub shows_in_order : (rs : List Record) (fs : List ℕ) → ShowsInOrder rs fs
unfolding any_of released
shows_in_order [] fs =
    record { places = []; in_order = tt; each = λ i h is. absurd (omega arith); no_other = tt; shown = refl }
shows_in_order (r ∷ rs) [] =
    record { places = []; in_order = tt; each = λ i h is. absurd (omega (arith, is)); no_other = tt; shown = refl }
shows_in_order (r ∷ rs) (f ∷ fs) = with_first r rs f fs (eqb f 1) refl (shows_in_order rs fs)
