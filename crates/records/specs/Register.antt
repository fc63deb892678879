-- The plain register: a plain book with records beside it, and what is asked of it.
use Rattle.std.specs.Prelude.{ℕ, ◌<◌, ◌≡◌, Bool, false, not, List, [], ◌∷◌, ◌++◌, T, length, get_or}
use Rattle.xpath.specs.Document.{Document, well_formed}
use Rattle.xpath.specs.Meaning.{selects}
use Rattle.terms.specs.Row.{Row}
use Rattle.terms.specs.Fields.{held_path}
use Rattle.terms.specs.Terms.{path_at}
use Rattle.records.specs.declared.Record.{Record}
use Rattle.calls.specs.Book.{no_point, Book, empty_book, answer}
use Rattle.common.specs.Refusals.{full_or_in_use}
use Rattle.calls.specs.PointCall.{point_names, place_of}
use Rattle.calls.specs.Runs.{Machine}
use Rattle.calls.specs.Calls.{Call, term, step, text, point, return, plain_book}
use Rattle.calls.specs.Above.{Both, both, Above, Layer, above}
use Rattle.records.specs.Records.{empty_record, record_answer, all_kept}

-- a return to a point that would drop a row or step in use
abbrev pub drops_in_use : Book → List Record → Call → Bool
drops_in_use b rs (term r) = false
drops_in_use b rs (step p) = false
drops_in_use b rs (text names t) = false
drops_in_use b rs (point n) = false
drops_in_use b rs (return n) =
    let p = get_or b.points (place_of (point_names b.points) n) no_point in
    not (all_kept (length p.rows) (length p.steps) rs)

-- the call record beside the book's calls; where no refusal applies, the record goes to the end of its list
abbrev pub plain_records : Layer Book (List Record) Call Record
plain_records =
    record {
      bars = drops_in_use;
      barred = answer full_or_in_use 0;
      answer = λ b rs r. record_answer b.rows b.steps rs r;
      with = λ b rs r. rs ++ (r ∷ []);
    }

-- the calls of a register: those of its session, and record
abbrev pub RegisterCall : Type 0
RegisterCall = Above Call Record

-- what a register holds: the book below, and the records beside it in the order of recording
abbrev pub Holdings : Type 0
Holdings = Both Book (List Record)

abbrev pub plain_register : Machine Holdings RegisterCall
plain_register = above plain_book plain_records

abbrev pub empty_register : Holdings
empty_register = both empty_book []

-- the path in row p is contained in that in row q: on every document of any size, from every node, each node that p's
-- selects, q's selects
unfoldable pub Within : List Row → (p q : ℕ) → Type 0
Within rows p q = (d : Document) → T (well_formed d) → (x : ℕ) → x < length d
    → (y : ℕ) → T (selects d (path_at rows p) x y) → T (selects d (path_at rows q) x y)

-- records whose paths are those of these rows
pub record EditionsContained (rows : List Row) (rs : List Record) : Type 0 where
  pub paths : (i : ℕ) → i < length rs → T (held_path rows (get_or rs i empty_record).row)
  -- if two editions of one series are held, the older path's nodes are among the newer's
  pub contained : (i j : ℕ) → i < length rs → j < length rs
      → (get_or rs i empty_record).series ≡ (get_or rs j empty_record).series
      → (get_or rs i empty_record).edition < (get_or rs j empty_record).edition
      → Within rows (get_or rs i empty_record).row (get_or rs j empty_record).row
