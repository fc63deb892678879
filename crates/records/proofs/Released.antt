-- Releases judged, and a listing of the released records, made from one place to the next.
use Prim.Native.Nat.{ℕ, zero, suc, ◌+◌, ◌-◌, ◌≤◌, ◌<◌, min}
use mathlib.Core.Path.{◌≡◌, refl, sym, ap, subst, ◌∙◌}
use mathlib.Core.Bool.{cond}
use mathlib.Core.List.{List, [], ◌∷◌, ◌++◌, append-nil}
use native.Mathlib.Omega.{arith}
use native.Mathlib.Numerals.{add-one}
use lib.Dec.{eqb}
use lib.ListN.{length, get_or, take, drop, set, replicate, length-append, drop_of_length-le}
use lib.Seq.{drop-cons, append_snoc, set-append_seam, take-append_seam}
use borrow.Author.Tests.{le-leb, lt-leb, eq-eqb, ne_eqb}
use Rattle.calls.specs.Book.{answer}
use Rattle.common.specs.Refusals.{no_record}
use Rattle.records.specs.declared.Record.{Record}
use Rattle.records.specs.declared.Records.{Records}
use Rattle.records.specs.Records.{empty_record, max_records}
use Rattle.records.specs.represent.Held.{records_in, no_records, with_record}
use Rattle.records.specs.Releases.{release_answer, released}
use Rattle.records.specs.represent.Listed.{listed}

-- a release, test by test
module _ (rs : List Record) (n : ℕ) (is-n : n ≡ length rs) (place : ℕ) where
  pub place_0 : place ≡ 0 → answer no_record place ≡ release_answer rs place
  unfolding release_answer
  place_0 e = rw (lt-leb 1 place (omega arith))

  pub past_last : n < place → answer no_record place ≡ release_answer rs place
  unfolding release_answer
  past_last h = rw (le-leb 1 place (omega arith), lt-leb place (length rs) (omega arith))

  pub of_a_record : ¬ (place ≡ 0) → place ≤ n → answer 0 0 ≡ release_answer rs place
  unfolding release_answer
  of_a_record f h = rw (le-leb 1 place (omega arith), le-leb place (length rs) (omega arith))

-- the records of a listing
pub in_listing : (xs : List Record) → length xs ≤ max_records → records_in (listed xs) ≡ xs
in_listing xs h =
    let few : min (length xs) max_records ≡ length xs = omega arith in
    ap (λ k. take k (xs ++ replicate (max_records - length xs) empty_record)) few ∙ take-append_seam xs _

-- a listing with one record more
module _ (xs : List Record) (r : Record) (h : length xs < max_records) where
  few : min (length xs) max_records ≡ length xs
  few = omega arith

  count : length (xs ++ (r ∷ [])) ≡ length xs + 1
  count = length-append xs (r ∷ [])

  abbrev left : ℕ
  left = max_records - length xs - 1

  held_more : set (xs ++ replicate (max_records - length xs) empty_record) (min (length xs) max_records) r
      ≡ (xs ++ (r ∷ [])) ++ replicate (max_records - length (xs ++ (r ∷ []))) empty_record
  held_more =
      let room : max_records - length xs ≡ suc left = omega arith in
      let after : left ≡ max_records - length (xs ++ (r ∷ [])) = omega (arith, count) in
      ap (λ k. set (xs ++ replicate k empty_record) (min (length xs) max_records) r) room
      ∙ ap (λ k. set (xs ++ replicate (suc left) empty_record) k r) few
      ∙ set-append_seam xs empty_record (replicate left empty_record) r
      ∙ sym (append_snoc xs r (replicate left empty_record))
      ∙ ap (λ k. (xs ++ (r ∷ [])) ++ replicate k empty_record) after

  pub listed_more : with_record (listed xs) r ≡ listed (xs ++ (r ∷ []))
  listed_more =
      let counted : min (length xs) max_records + 1 ≡ length (xs ++ (r ∷ [])) = ap (λ k. k + 1) few ∙ sym count in
      λ i. record { held = held_more i; count = counted i }

pub none_listed : no_records ≡ listed []
unfolding no_records
none_listed = refl

module _ (rs : List Record) (flags : List ℕ) where
  -- the released records from place i on
  abbrev from : ℕ → List Record
  from i = released (drop i rs) (drop i flags)

  -- the listing shows the released records before place i
  pub record Shown (shown : Records) (i : ℕ) : Type 0 where
    pub records : List Record
    pub is : shown ≡ listed records
    pub few : length records ≤ i
    pub so_far : records ++ from i ≡ released rs flags

  pub none_shown : (shown : Records) → shown ≡ no_records → Shown shown 0
  none_shown shown e = record { records = []; is = e ∙ none_listed; few = omega arith; so_far = refl }

  pub has_room : (shown : Records) (i : ℕ) → i < max_records → Shown shown i → min shown.count max_records < max_records
  has_room shown i h w =
      let few = w.few in
      subst (λ (s : Records). min s.count max_records < max_records) (sym w.is) (omega arith)

  module _ (shown : Records) (i : ℕ) (h : i < length rs) (g : i < length flags) (w : Shown shown i) where
    from_here : from i ≡ cond (eqb (get_or flags i 0) 1) (get_or rs i empty_record ∷ from (i + 1)) (from (i + 1))
    unfolding released
    from_here =
        ap (λ l. released l (drop i flags)) (drop-cons rs i empty_record h)
        ∙ ap (released (get_or rs i empty_record ∷ drop (suc i) rs)) (drop-cons flags i 0 g)
        ∙ ap (λ k. cond (eqb (get_or flags i 0) 1) (get_or rs i empty_record ∷ released (drop k rs) (drop k flags))
        (released (drop k rs) (drop k flags))) (sym (add-one i))

    pub shown_more : get_or flags i 0 ≡ 1 → i < max_records → (next : Records)
        → next ≡ with_record shown (get_or rs i empty_record) → Shown next (i + 1)
    shown_more f room next e =
        let xs = w.records in
        let r = get_or rs i empty_record in
        let few = w.few in
        let here : from i ≡ r ∷ from (i + 1) = from_here ∙ rw (eq-eqb (get_or flags i 0) 1 f) in
        record {
          records = xs ++ (r ∷ []);
          is = e ∙ ap (λ s. with_record s r) w.is ∙ listed_more xs r (omega arith);
          few = omega (arith, length-append xs (r ∷ []));
          so_far = append_snoc xs r (from (i + 1)) ∙ ap (λ l. xs ++ l) (sym here) ∙ w.so_far;
        }

    pub shown_same : ¬ (get_or flags i 0 ≡ 1) → Shown shown (i + 1)
    shown_same f =
        let few = w.few in
        let here : from i ≡ from (i + 1) = from_here ∙ rw (ne_eqb (get_or flags i 0) 1 f) in
        record {
          records = w.records;
          is = w.is;
          few = omega arith;
          so_far = ap (λ l. w.records ++ l) (sym here) ∙ w.so_far;
        }

  pub all_shown : (shown : Records) (i : ℕ) → length rs ≤ i → Shown shown i → shown ≡ listed (released rs flags)
  unfolding released
  all_shown shown i h w =
      let none : from i ≡ [] = ap (λ l. released l (drop i flags)) (drop_of_length-le rs h) in
      let all = sym (append-nil w.records) ∙ ap (λ l. w.records ++ l) (sym none) ∙ w.so_far in
      w.is ∙ ap listed all

-- where all are released, the listing shows every record
pub every_released : (rs : List Record) (n : ℕ) → length rs ≤ n → released rs (replicate n 1) ≡ rs
unfolding released
every_released [] n h = refl
every_released (r ∷ rs) zero h = absurd (omega arith)
every_released (r ∷ rs) (suc n) h = ap {B = List Record} (λ l. r ∷ l) (every_released rs n (omega arith))
