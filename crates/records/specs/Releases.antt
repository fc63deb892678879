-- Releases of a register: what the office and a crew see of its records.
use Rattle.std.specs.Prelude.{ℕ, ◌-◌, ◌<◌, ◌≡◌, cond, false, ◌&&◌, List, [], ◌∷◌, leb, eqb, length, get_or, set}
use Rattle.std.specs.Prelude.{replicate, map, T}
use Rattle.common.specs.Lists.{any_of, Every}
use Rattle.records.specs.declared.Record.{Record}
use Rattle.calls.specs.Book.{Answer, answer}
use Rattle.common.specs.Refusals.{no_record}
use Rattle.calls.specs.Runs.{Machine, Seen, shown, final}
use Rattle.calls.specs.Above.{Both, both, Above, Layer, above}
use Rattle.records.specs.Records.{empty_record, max_records, current}
use Rattle.records.specs.Register.{RegisterCall, Holdings, plain_register, empty_register}

-- which records are released: 1 at the place of each that is, as many flags as there can be records
abbrev pub none_released : List ℕ
none_released = replicate max_records 0

abbrev pub IsReleased : List ℕ → (i : ℕ) → Type 0
IsReleased fs i = get_or fs i 0 ≡ 1

-- 27 for a place, from 1, of no record; else 0
unfoldable pub release_answer : List Record → (place : ℕ) → Answer
release_answer rs p = cond (leb 1 p && leb p (length rs)) (answer 0 0) (answer no_record p)

-- the record at that place is released, the others are as they were
abbrev pub with_release : List ℕ → (place : ℕ) → List ℕ
with_release fs p = set fs (p - 1) 1

-- the released records, in the register's order
unfoldable pub released : List Record → List ℕ → List Record
released [] fs = []
released (r ∷ rs) [] = []
released (r ∷ rs) (f ∷ fs) = cond (eqb f 1) (r ∷ released rs fs) (released rs fs)

-- what a crew gets is of the released records alone: a listing of them, without their places, and the current edition
-- of a series, the highest released one, 0 if none
abbrev pub crew_listing : (released : List Record) → List Record
crew_listing rs = rs

abbrev pub crew_current : (released : List Record) → (series : ℕ) → ℕ
crew_current rs s = current rs s

-- the call release beside the register's calls; it bars none of them, so the answer `barred` is never given
abbrev pub plain_releases : Layer Holdings (List ℕ) RegisterCall ℕ
plain_releases =
    record {
      bars = λ b fs c. false;
      barred = answer no_record 0;
      answer = λ b fs p. release_answer b.beside p;
      with = λ b fs p. with_release fs p;
    }

-- the calls of the office: those of the register, and release by a place
abbrev pub OfficeCall : Type 0
OfficeCall = Above RegisterCall ℕ

-- the register with its releases
abbrev pub OfficeHoldings : Type 0
OfficeHoldings = Both Holdings (List ℕ)

abbrev pub plain_office : Machine OfficeHoldings OfficeCall
plain_office = above plain_register plain_releases

abbrev pub empty_office : OfficeHoldings
empty_office = both empty_register none_released

-- what is seen of a call: its answer, and all that is held after it
abbrev pub OfficeSeen : Type 0
OfficeSeen = Seen OfficeHoldings

-- what is seen of calls made in order on a fresh register, and the register after them
abbrev pub office_seen : List OfficeCall → List OfficeSeen
office_seen cs = shown plain_office empty_office cs

abbrev pub office_after : List OfficeCall → OfficeHoldings
office_after cs = final plain_office empty_office cs

-- each released record is among those that a crew gets, and no other is
pub record ShowsReleased (rs : List Record) (fs : List ℕ) : Type 0 where
  pub each : (i : ℕ) → i < length rs → IsReleased fs i
      → (j : ℕ) × (j < length (released rs fs)) × (get_or (released rs fs) j empty_record ≡ get_or rs i empty_record)
  pub no_other : (j : ℕ) → j < length (released rs fs)
      → (i : ℕ) × (i < length rs) × IsReleased fs i
      × (get_or (released rs fs) j empty_record ≡ get_or rs i empty_record)

-- places, each before the next
abbrev pub Increasing : List ℕ → Type 0
Increasing [] = Unit {0}
Increasing (i ∷ []) = Unit {0}
Increasing (i ∷ j ∷ is) = (i < j) × Increasing (j ∷ is)

-- what a crew gets is the records at the places of the released ones, in the register's order, each place once
pub record ShowsInOrder (rs : List Record) (fs : List ℕ) : Type 0 where
  pub places : List ℕ
  pub in_order : Increasing places
  pub each : (i : ℕ) → i < length rs → IsReleased fs i → T (any_of (λ j. eqb j i) places)
  pub no_other : Every (λ i. (i < length rs) × IsReleased fs i) places
  pub shown : released rs fs ≡ map (λ i. get_or rs i empty_record) places

-- record i of b, which is released, is in d at its place, and released
pub record StillReleased (b d : OfficeHoldings) (i : ℕ) : Type 0 where
  pub there : i < length d.below.beside
  pub same : get_or d.below.beside i empty_record ≡ get_or b.below.beside i empty_record
  pub released : IsReleased d.beside i

-- a release is not taken back, by no call
abbrev pub ReleasesStay : Type 0
ReleasesStay = (b : OfficeHoldings) (cs : List OfficeCall) (i : ℕ) → i < length b.below.beside
    → IsReleased b.beside i → StillReleased b (final plain_office b cs) i
