-- Answers of the call record, current editions, and returns that are barred, by computation.
use Rattle.std.specs.Prelude.{ℕ, zero, suc, refl, List, [], ◌∷◌, ◌++◌, take}
use Rattle.common.specs.Lists.{all_of}
use Rattle.common.specs.values.Expected.{◌is◌, AllRight}
use Rattle.terms.specs.Row.{Row, row}
use Rattle.terms.specs.Fields.{is_path, held_path}
use Rattle.records.specs.declared.Record.{Record}
use Rattle.calls.specs.Book as books
use Rattle.calls.specs.Book.{Step, step, Book, book, pointed_book, Answer, answer}
use Rattle.calls.specs.PointCall.{place_of, point_answer, return_answer}
use Rattle.calls.specs.Runs.{next, final}
use Rattle.calls.specs.Calls.{point, return}
use Rattle.calls.specs.Above.{both, passed, own}
use Rattle.calls.specs.values.CallCases as calls
use Rattle.calls.specs.values.CallCases.{seen_from}
use Rattle.records.specs.Records.{recorded, current, row_of, is_fit_step, record_answer, all_kept}
use Rattle.records.specs.Register.{plain_register, empty_register, RegisterCall, Holdings}

-- child::1, child::*, child::node(), true, child::2
abbrev rows : List Row
rows = row 2 1 0 1 ∷ row 2 1 1 0 ∷ row 2 1 2 0 ∷ row 6 0 0 0 ∷ row 2 1 0 2 ∷ []

-- row 0 in 1, row 1 in 2, row 0 in 2, true implies true, row 4 in 1, and row 1 in 0, which no call would hold
abbrev steps : List Step
steps =
    step 8 0 1 0 0 ∷ step 8 1 2 0 0 ∷ step 8 0 2 0 0 ∷ step 2 3 3 0 0 ∷ step 8 4 1 0 0 ∷ step 8 1 0 0 0 ∷ []

-- editions 1 and 2 of series 7, and edition 1 of series 9
abbrev held : List Record
held = recorded 7 1 0 0 ∷ recorded 9 1 4 0 ∷ recorded 7 2 1 1 ∷ []

-- the answer to a record on those records
abbrev answered : (series edition row step : ℕ) → Answer
answered s e r p = record_answer rows steps held (recorded s e r p)

pub recorded_next :
    AllRight
    -- the first edition of a series: of the lowest and the highest number, by any held path
    (answered 0 1 0 0 is answer 0 0
    ∷ answered 65535 1 2 0 is answer 0 0
    -- the next edition of each of two series side by side
    ∷ answered 7 3 2 2 is answer 0 0
    ∷ answered 9 2 1 5 is answer 0 0
    -- where nothing is held; a path of another kind
    ∷ record_answer rows steps [] (recorded 7 1 0 0) is answer 0 0
    ∷ record_answer (rows ++ (row 5 0 3 0 ∷ [])) steps [] (recorded 7 1 5 0) is answer 0 0
    -- by a step that another series has, and by the last step held, to the same row
    ∷ record_answer rows steps (recorded 7 1 0 0 ∷ recorded 7 2 1 1 ∷ recorded 9 1 0 0 ∷ []) (recorded 9 2 1 1)
    is answer 0 0
    ∷ record_answer rows (step 2 0 0 0 0 ∷ []) (recorded 7 1 0 0 ∷ []) (recorded 7 2 0 1) is answer 0 0
    ∷ [])
unfolding record_answer current row_of is_fit_step held_path is_path
recorded_next = refl

pub refused :
    AllRight
    -- 22: a gap, a repeat of the last and of an earlier one, edition 0; of a new series, edition 2 and edition 0
    (answered 7 4 2 2 is answer 22 3
    ∷ answered 7 2 1 1 is answer 22 3
    ∷ answered 7 1 0 0 is answer 22 3
    ∷ answered 7 0 0 0 is answer 22 3
    ∷ answered 9 3 1 5 is answer 22 2
    ∷ answered 8 2 1 1 is answer 22 1
    ∷ answered 8 0 0 0 is answer 22 1
    -- 23, 1: a row that is no path, a row that is not held
    ∷ answered 8 1 3 0 is answer 23 1
    ∷ answered 8 1 5 0 is answer 23 1
    ∷ answered 7 3 3 4 is answer 23 1
    -- 23, 2: step not 0 for edition 1; for a later one step 0, and one that is not held
    ∷ answered 8 1 0 1 is answer 23 2
    ∷ answered 7 3 2 0 is answer 23 2
    ∷ answered 7 3 2 7 is answer 23 2
    -- where a step that is not held would read as one from row 0 to row 0, or as the first
    ∷ record_answer rows steps (recorded 7 1 0 0 ∷ []) (recorded 7 2 1 0) is answer 23 2
    ∷ record_answer rows steps (recorded 7 1 0 0 ∷ []) (recorded 7 2 0 7) is answer 23 2
    ∷ record_answer rows steps (recorded 7 1 0 0 ∷ []) (recorded 7 2 0 0) is answer 23 2
    ∷ record_answer rows [] (recorded 7 1 0 0 ∷ []) (recorded 7 2 0 0) is answer 23 2
    -- for edition 1, a step from its row to itself
    ∷ record_answer rows (step 2 0 0 0 0 ∷ []) [] (recorded 7 1 0 1) is answer 23 2
    -- a step from an earlier edition's row, from another series', of an earlier edition, to another row, of qualifiers,
    -- the reverse of the last one, of another series
    ∷ answered 7 3 2 3 is answer 23 2
    ∷ answered 7 3 1 5 is answer 23 2
    ∷ answered 7 3 1 1 is answer 23 2
    ∷ answered 7 3 0 2 is answer 23 2
    ∷ answered 7 3 2 4 is answer 23 2
    ∷ answered 7 3 0 1 is answer 23 2
    ∷ answered 9 2 1 1 is answer 23 2
    -- the containment the other way round, of the rows that it needs
    ∷ record_answer rows steps (recorded 7 1 0 0 ∷ []) (recorded 7 2 1 6) is answer 23 2
    -- 22 before both places of 23, and 1 before 2
    ∷ answered 7 4 3 0 is answer 22 3
    ∷ answered 7 4 2 0 is answer 22 3
    ∷ answered 7 3 3 0 is answer 23 1
    ∷ [])
unfolding record_answer current row_of is_fit_step held_path is_path
refused = refl

-- n records, each of its own series
unfoldable pub many : ℕ → List Record
many zero = []
many (suc n) = recorded n 1 0 0 ∷ many n

-- the first n editions of series 7, the last one first, all of one row
unfoldable pub editions : ℕ → List Record
editions zero = []
editions (suc n) = recorded 7 (suc n) 0 1 ∷ editions n

-- the answer to an edition of series 7, from row 0 to row 0, where n are held
abbrev edition : (n e : ℕ) → Answer
edition n e = record_answer rows (step 2 0 0 0 0 ∷ []) (editions n) (recorded 7 e 0 1)

-- the answer where n records are held
abbrev after : (n : ℕ) → Record → Answer
after n r = record_answer rows steps (many n) r

pub full :
    AllRight
    -- the 256th record is accepted, the 257th is refused
    (after 255 (recorded 300 1 0 0) is answer 0 0
    ∷ after 256 (recorded 300 1 0 0) is answer 24 0
    ∷ after 256 (recorded 5 2 1 1) is answer 24 0
    -- 22 and both places of 23 before 24
    ∷ after 256 (recorded 300 2 0 0) is answer 22 1
    ∷ after 256 (recorded 300 1 3 0) is answer 23 1
    ∷ after 256 (recorded 300 1 0 1) is answer 23 2
    -- 256 editions of one series
    ∷ edition 255 256 is answer 0 0
    ∷ edition 256 256 is answer 22 257
    ∷ edition 256 257 is answer 24 0
    ∷ [])
unfolding record_answer current row_of is_fit_step held_path is_path many editions
full = refl

pub currents :
    AllRight
    (current held 7 is 2
    ∷ current held 9 is 1
    ∷ current held 8 is 0
    ∷ current [] 7 is 0
    -- the highest, wherever it stands
    ∷ current (recorded 7 3 0 0 ∷ held) 7 is 3
    ∷ current (recorded 7 9 0 0 ∷ held) 7 is 9
    ∷ current (editions 256) 7 is 256
    ∷ current (many 256) 255 is 1
    ∷ current (many 256) 0 is 1
    ∷ [])
unfolding current many editions
currents = refl

-- points of 0 rows and 0 steps, of 1 row, of 2 rows and no step, of 5 rows and a step, and of all
abbrev pointed : Book
pointed =
    pointed_book rows steps
    (books.point 1 [] []
    ∷ books.point 2 (take 1 rows) []
    ∷ books.point 3 (take 2 rows) []
    ∷ books.point 4 rows (take 1 steps)
    ∷ books.point 5 rows steps
    ∷ [])

-- the answer of a return where those records are held
abbrev returned : List Record → (name : ℕ) → Answer
returned rs n = plain_register.answer (both pointed rs) (passed (return n))

pub returns :
    AllRight
    -- no such point comes before 24
    (returned held 6 is answer 20 6
    ∷ returned held 0 is answer 20 0
    -- a row in use, a step in use, both, none
    ∷ returned (recorded 7 1 0 0 ∷ []) 1 is answer 24 0
    ∷ returned (recorded 7 1 0 0 ∷ []) 2 is answer 0 0
    ∷ returned (recorded 7 1 0 0 ∷ recorded 7 2 1 1 ∷ []) 2 is answer 24 0
    ∷ returned (recorded 7 1 0 0 ∷ recorded 7 2 1 1 ∷ []) 3 is answer 24 0
    ∷ returned (recorded 7 1 0 0 ∷ recorded 7 2 1 1 ∷ []) 4 is answer 0 0
    ∷ returned (recorded 7 1 0 0 ∷ recorded 7 2 1 1 ∷ recorded 7 3 2 2 ∷ []) 4 is answer 24 0
    -- a step of an edition that is neither the first nor the current one
    ∷ returned (recorded 7 1 0 0 ∷ recorded 7 2 1 2 ∷ recorded 7 3 2 1 ∷ []) 4 is answer 24 0
    ∷ returned held 3 is answer 24 0
    ∷ returned held 4 is answer 0 0
    ∷ returned held 5 is answer 0 0
    ∷ returned [] 1 is answer 0 0
    -- setting a point is never barred
    ∷ plain_register.answer (both pointed held) (passed (point 6)) is answer 0 0
    ∷ [])
unfolding all_kept all_of return_answer point_answer place_of
returns = refl

-- what a call leaves where those records are held
abbrev leaves : RegisterCall → Holdings
leaves c = next plain_register (both pointed held) c

-- an accepted record goes to the end, a refused record or return leaves all as it was, an accepted return every record
pub left :
    AllRight
    (leaves (own (recorded 7 3 2 2)) is both pointed (held ++ (recorded 7 3 2 2 ∷ []))
    ∷ leaves (own (recorded 7 4 2 2)) is both pointed held
    ∷ leaves (passed (return 3)) is both pointed held
    ∷ leaves (passed (return 5)) is both pointed held
    ∷ leaves (passed (return 4))
    is both (pointed_book rows (take 1 steps) (take 4 pointed.points)) held
    ∷ [])
unfolding record_answer current row_of is_fit_step held_path is_path all_kept all_of return_answer place_of
left = refl

-- on a fresh register: two rows, a step from one to the other, and two editions of a series
pub from_fresh :
    AllRight
    (final plain_register empty_register
    (passed (calls.term 2 1 0 1) ∷ passed (calls.term 2 1 1 0) ∷ passed (calls.step 8 0 1 0 0)
    ∷ own (recorded 7 1 0 0) ∷ own (recorded 7 2 1 1) ∷ [])
    is both (book (row 2 1 0 1 ∷ row 2 1 1 0 ∷ []) (step 8 0 1 0 0 ∷ []))
    (recorded 7 1 0 0 ∷ recorded 7 2 1 1 ∷ [])
    ∷ [])
unfolding final seen_from record_answer current row_of is_fit_step
from_fresh = refl
