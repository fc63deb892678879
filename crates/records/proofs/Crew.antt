-- What a crew sees: released records are held ones, so the laws of editions are theirs; and they stay released.
use Prim.Native.Nat.{ℕ, zero, suc, ◌+◌, ◌-◌, ◌≤◌, ◌<◌}
use mathlib.Core.Path.{◌≡◌, refl, sym, ap, subst, ◌∙◌}
use mathlib.Core.Bool.{Bool, true, false, cond}
use mathlib.Core.List.{List, [], ◌∷◌}
use native.Mathlib.Omega.{arith}
use lib.Dec.{T, eqb}
use borrow.Author.Tests.{eq-eqb, eqb-true}
use lib.ListN.{length, get_or, set, length-append, length-take, get_or-append}
use Rattle.terms.specs.Row.{Row}
use Rattle.terms.specs.Fields.{held_path}
use Rattle.records.specs.declared.Record.{Record}
use Rattle.records.specs.declared.Records.{Records}
use Rattle.calls.specs.Runs.{next, final}
use Rattle.calls.specs.Above.{passed, own}
use Rattle.calls.proofs.Accepted.{by_accepted}
use Rattle.records.specs.Records.{empty_record, max_records}
use Rattle.records.specs.represent.Held.{size_of, records_in}
use Rattle.records.specs.Register.{Within, EditionsContained}
use Rattle.records.specs.Releases.{released, with_release, IsReleased, OfficeCall, OfficeHoldings, plain_office}
use Rattle.records.specs.Releases.{ShowsReleased, StillReleased, ReleasesStay}

-- each record that a crew gets is one that is held, and released
released_at : (rs : List Record) (fs : List ℕ) (i : ℕ) → i < length (released rs fs)
    → (j : ℕ) × (j < length rs) × IsReleased fs j × (get_or (released rs fs) i empty_record ≡ get_or rs j empty_record)
unfolding released
released_at [] fs i h = absurd (omega arith)
released_at (r ∷ rs) [] i h = absurd (omega arith)
released_at (r ∷ rs) (f ∷ fs) i h = by_test (eqb f 1) refl i h (released_at rs fs)
  where
    by_test : (b : Bool) → eqb f 1 ≡ b → (i : ℕ) → i < length (cond b (r ∷ released rs fs) (released rs fs))
        → ((k : ℕ) → k < length (released rs fs)
        → (j : ℕ) × (j < length rs) × IsReleased fs j
        × (get_or (released rs fs) k empty_record ≡ get_or rs j empty_record))
        → (j : ℕ) × (j < length (r ∷ rs)) × IsReleased (f ∷ fs) j
        × (get_or (cond b (r ∷ released rs fs) (released rs fs)) i empty_record ≡ get_or (r ∷ rs) j empty_record)
    by_test true e zero h later = (0, omega arith, eqb-true f 1 e, refl)
    by_test true e (suc i) h later = let (j, l, is, e) = later i (omega arith) in (suc j, omega arith, is, e)
    by_test false e i h later = let (j, l, is, e) = later i h in (suc j, omega arith, is, e)

-- each record that is held and released is one that a crew gets
at_released : (rs : List Record) (fs : List ℕ) (i : ℕ) → i < length rs → IsReleased fs i
    → (j : ℕ) × (j < length (released rs fs)) × (get_or (released rs fs) j empty_record ≡ get_or rs i empty_record)
unfolding released
at_released [] fs i h is = absurd (omega arith)
at_released (r ∷ rs) [] i h is = absurd (omega (arith, is))
at_released (r ∷ rs) (f ∷ fs) zero h is = rw (eq-eqb f 1 is) (0, omega arith, refl)
at_released (r ∷ rs) (f ∷ fs) (suc i) h is = by_test (eqb f 1) (at_released rs fs i (omega arith) is)
  where
    by_test : (b : Bool)
        → (j : ℕ) × (j < length (released rs fs)) × (get_or (released rs fs) j empty_record ≡ get_or rs i empty_record)
        → (j : ℕ) × (j < length (cond b (r ∷ released rs fs) (released rs fs)))
        × (get_or (cond b (r ∷ released rs fs) (released rs fs)) j empty_record ≡ get_or rs i empty_record)
    by_test true (j, l, e) = (suc j, omega arith, e)
    by_test false there = there

pub shows_released : (rs : List Record) (fs : List ℕ) → ShowsReleased rs fs
shows_released rs fs = record { each = at_released rs fs; no_other = released_at rs fs }

-- a listing of them has room for all
pub released_few : (rs : List Record) (fs : List ℕ) → length (released rs fs) ≤ length rs
unfolding released
released_few [] fs = omega arith
released_few (r ∷ rs) [] = omega arith
released_few (r ∷ rs) (f ∷ fs) = by_test (eqb f 1) (released_few rs fs)
  where
    by_test : (b : Bool) → length (released rs fs) ≤ length rs
        → length (cond b (r ∷ released rs fs) (released rs fs)) ≤ length (r ∷ rs)
    by_test true h = omega arith
    by_test false h = omega arith

pub released_fit : (e : Records) (fs : List ℕ) → length (released (records_in e) fs) ≤ max_records
released_fit e fs = omega (arith, released_few (records_in e) fs, length-take (size_of e) e.held)

-- containment between editions a crew sees
module _ (rows : List Row) (rs : List Record) (fs : List ℕ) (w : EditionsContained rows rs) where
  between : (i j : ℕ) → i < length rs → j < length rs
      → (p q : Record) → p ≡ get_or rs i empty_record → q ≡ get_or rs j empty_record
      → p.series ≡ q.series → p.edition < q.edition → Within rows p.row q.row
  between i j h k p q e f =
      subst (λ p. p.series ≡ q.series → p.edition < q.edition → Within rows p.row q.row) (sym e)
      (subst (λ q. (get_or rs i empty_record).series ≡ q.series → (get_or rs i empty_record).edition < q.edition
      → Within rows (get_or rs i empty_record).row q.row) (sym f) (w.contained i j h k))

  pub crew_contained : EditionsContained rows (released rs fs)
  crew_contained =
      record {
        paths = λ i h.
            let (j, l, is, e) = released_at rs fs i h in
            subst (λ r. T (held_path rows r.row)) (sym e) (w.paths j l);
        contained = λ i j h k.
            let (m, l, is, e) = released_at rs fs i h in
            let (n, o, is, f) = released_at rs fs j k in
            between m n l o _ _ e f;
      }

-- a flag that is set, set again
set_again : (fs : List ℕ) (i : ℕ) → IsReleased fs i → set fs i 1 ≡ fs
set_again [] i e = refl
set_again (f ∷ fs) zero e = ap (λ x. x ∷ fs) (sym e)
set_again (f ∷ fs) (suc i) e = ap (λ xs. f ∷ xs) (set_again fs i e)

pub release_again : (fs : List ℕ) (i : ℕ) → IsReleased fs i → with_release fs (i + 1) ≡ fs
release_again fs i e = let at : i + 1 - 1 ≡ i = omega arith in ap (λ k. set fs k 1) at ∙ set_again fs i e

-- a flag that is set stays set
set_stays : (fs : List ℕ) (k i : ℕ) → IsReleased fs i → IsReleased (set fs k 1) i
set_stays [] k i e = e
set_stays (f ∷ fs) zero zero e = refl
set_stays (f ∷ fs) zero (suc i) e = e
set_stays (f ∷ fs) (suc k) zero e = e
set_stays (f ∷ fs) (suc k) (suc i) e = set_stays fs k i e

module _ (b : OfficeHoldings) (i : ℕ) (h : i < length b.below.beside) (is : IsReleased b.beside i) where
  as_it_was : StillReleased b b i
  as_it_was = record { there = h; same = refl; released = is }

  stays_with : (c : OfficeCall) → StillReleased b (plain_office.with b c) i
  stays_with (passed (passed c)) = record { there = h; same = refl; released = is }
  stays_with (passed (own r)) =
      let rs = b.below.beside in
      record {
        there = omega (arith, length-append rs (r ∷ []));
        same = get_or-append rs (r ∷ []) empty_record i h;
        released = is;
      }
  stays_with (own p) = record { there = h; same = refl; released = set_stays b.beside _ i is }

  stays_after : (c : OfficeCall) → StillReleased b (next plain_office b c) i
  stays_after c =
      by_accepted (λ d. StillReleased b d i) (plain_office.answer b c) (plain_office.with b c) b (λ e. stays_with c)
      as_it_was

pub releases_stay : ReleasesStay
unfolding final
releases_stay b [] i h is = as_it_was b i h is
releases_stay b (c ∷ cs) i h is =
    let s = stays_after b i h is c in
    let t = releases_stay (next plain_office b c) cs i s.there s.released in
    record { there = t.there; same = t.same ∙ s.same; released = t.released }
