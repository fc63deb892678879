-- Releases, and what the office and a crew see, by computation.
use Rattle.std.specs.Prelude.{ℕ, refl, List, [], ◌∷◌, ◌++◌, length, take, replicate}
use Rattle.common.specs.Lists.{all_of}
use Rattle.common.specs.values.Expected.{◌is◌, AllRight}
use Rattle.terms.specs.Row.{row}
use Rattle.terms.specs.Fields.{is_path, held_path}
use Rattle.records.specs.declared.Record.{Record}
use Rattle.calls.specs.Book.{step, book, answer}
use Rattle.calls.specs.Runs.{final}
use Rattle.calls.specs.PointCall.{place_of, point_answer, return_answer}
use Rattle.calls.specs.Calls.{point, return}
use Rattle.calls.specs.Above.{both, passed, own}
use Rattle.records.specs.Records.{empty_record, recorded, current, row_of, is_fit_step, record_answer, all_kept}
use Rattle.records.specs.Releases.{none_released, release_answer, with_release, released, crew_listing, crew_current}
use Rattle.records.specs.Releases.{OfficeCall, OfficeHoldings, plain_office}
use Rattle.records.specs.represent.Listed.{listed}
use Rattle.records.specs.values.RecordCases.{many}

-- editions 1, 2 and 3 of series 7, and editions 1 and 2 of series 9 among them
abbrev e1 : Record
e1 = recorded 7 1 0 0

abbrev e2 : Record
e2 = recorded 7 2 1 1

abbrev e3 : Record
e3 = recorded 7 3 2 2

abbrev f1 : Record
f1 = recorded 9 1 0 0

abbrev f2 : Record
f2 = recorded 9 2 1 1

abbrev held : List Record
held = e1 ∷ f1 ∷ e2 ∷ f2 ∷ e3 ∷ []

-- as many records as there can be, each of its own series
abbrev most : List Record
most = many 256

-- the flags after releases of those places, the last one first
unfoldable pub flags_after : List ℕ → List ℕ
flags_after [] = none_released
flags_after (p ∷ ps) = with_release (flags_after ps) p

-- the released records after them
abbrev after : List ℕ → List Record
after ps = released held (flags_after ps)

pub answers :
    AllRight
    -- place 0, each place, a place past the last; where there is no record, place 1
    (release_answer held 0 is answer 27 0
    ∷ release_answer held 1 is answer 0 0
    ∷ release_answer held 5 is answer 0 0
    ∷ release_answer held 6 is answer 27 6
    ∷ release_answer held 65535 is answer 27 65535
    ∷ release_answer [] 1 is answer 27 1
    -- of 256 records the last, and one more
    ∷ release_answer most 256 is answer 0 0
    ∷ release_answer most 257 is answer 27 257
    ∷ [])
unfolding release_answer many
answers = refl

pub listings :
    AllRight
    -- nothing released, one, two in the register's order whichever was released first, one released twice
    (crew_listing (after []) is []
    ∷ crew_listing (after (3 ∷ [])) is (e2 ∷ [])
    ∷ crew_listing (after (1 ∷ 4 ∷ [])) is (e1 ∷ f2 ∷ [])
    ∷ crew_listing (after (4 ∷ 1 ∷ [])) is (e1 ∷ f2 ∷ [])
    ∷ crew_listing (after (3 ∷ 3 ∷ [])) is (e2 ∷ [])
    -- the last one, and all
    ∷ crew_listing (after (5 ∷ [])) is (e3 ∷ [])
    ∷ crew_listing (after (2 ∷ 5 ∷ 1 ∷ 4 ∷ 3 ∷ [])) is held
    -- the last of 256
    ∷ crew_listing (released most (with_release none_released 256)) is (recorded 0 1 0 0 ∷ [])
    ∷ [])
unfolding released flags_after many
listings = refl

-- a listing's count, and its places: the records, and no record after them
pub listing_values :
    AllRight
    ((listed held).count is 5
    ∷ length (listed held).held is 256
    ∷ (listed most).count is 256
    ∷ [])
unfolding many
listing_values = refl

pub listing_places :
    AllRight
    (take 6 (listed held).held is (held ++ (empty_record ∷ []))
    ∷ (listed most).held is most
    ∷ (listed []).held is replicate 256 empty_record
    ∷ [])
unfolding many
listing_places = refl

pub currents :
    AllRight
    -- nothing released, a middle edition only, the highest of two, two series
    (crew_current (after []) 7 is 0
    ∷ crew_current (after (3 ∷ [])) 7 is 2
    ∷ crew_current (after (3 ∷ [])) 9 is 0
    ∷ crew_current (after (5 ∷ 1 ∷ [])) 7 is 3
    ∷ crew_current (after (1 ∷ 2 ∷ [])) 7 is 1
    ∷ crew_current (after (1 ∷ 2 ∷ [])) 9 is 1
    -- the highest, wherever it stands
    ∷ crew_current (released (e3 ∷ e1 ∷ []) (1 ∷ 1 ∷ [])) 7 is 3
    -- the office's is the highest held
    ∷ current held 7 is 3
    ∷ [])
unfolding released current flags_after
currents = refl

-- child::1, child::*, child::node(); row 0 in 1, row 1 in 2
abbrev start : OfficeHoldings
start =
    both (both (book (row 2 1 0 1 ∷ row 2 1 1 0 ∷ row 2 1 2 0 ∷ []) (step 8 0 1 0 0 ∷ step 8 1 2 0 0 ∷ [])) [])
    none_released

-- what a crew sees after calls: releases before and after further records, refused ones, one made twice
abbrev seen_after : List OfficeCall → List Record
seen_after cs = let d = final plain_office start cs in crew_listing (released d.below.beside d.beside)

pub in_turn :
    AllRight
    (seen_after (own 1 ∷ passed (own e1) ∷ []) is []
    ∷ seen_after (passed (own e1) ∷ own 1 ∷ passed (own e2) ∷ []) is (e1 ∷ [])
    ∷ seen_after (passed (own e1) ∷ own 1 ∷ passed (own e2) ∷ passed (own e3) ∷ own 3 ∷ []) is (e1 ∷ e3 ∷ [])
    ∷ seen_after (passed (own e1) ∷ own 1 ∷ own 1 ∷ own 2 ∷ own 0 ∷ []) is (e1 ∷ [])
    ∷ seen_after (passed (own e1) ∷ own 0 ∷ own 2 ∷ passed (own e2) ∷ []) is []
    ∷ seen_after (passed (own e1) ∷ passed (own e2) ∷ passed (own e3) ∷ own 3 ∷ own 1 ∷ own 2 ∷ [])
    is (e1 ∷ e2 ∷ e3 ∷ [])
    -- a return to a point set before the record, which is refused, and to one after it
    ∷ seen_after (passed (own e1) ∷ own 1 ∷ passed (passed (point 1)) ∷ passed (passed (return 1)) ∷ []) is (e1 ∷ [])
    ∷ [])
unfolding
    final released release_answer record_answer current row_of is_fit_step held_path is_path all_kept all_of place_of
    point_answer
    return_answer
in_turn = refl

-- releasing again is accepted
again :
    AllRight (plain_office.answer (final plain_office start (passed (own e1) ∷ own 1 ∷ [])) (own 1) is answer 0 0 ∷ [])
unfolding final release_answer record_answer current row_of is_fit_step held_path is_path
again = refl
