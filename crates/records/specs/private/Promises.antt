-- What the functions promise that record and release.
use Rattle.std.specs.Prelude.{ℕ, ◌≡◌, cond, List, replicate}
use Rattle.terms.specs.Row.{Row}
use Rattle.calls.specs.Book.{Step, accepted}
use Rattle.calls.specs.represent.Answers.{DoneOrRefusal, done_answer_of}
use Rattle.records.specs.declared.Record.{Record}
use Rattle.records.specs.declared.Records.{Records}
use Rattle.records.specs.declared.Releases.{Releases}
use Rattle.records.specs.Records.{max_records, record_answer}
use Rattle.records.specs.Releases.{release_answer, with_release}
use Rattle.records.specs.represent.Held.{records_in, with_record}
use Rattle.records.specs.represent.Listed.{flagged}

-- a record call where the rows and steps are held, and the records e: the answer t, and the records d left
pub record RecordMade (rows : List Row) (ps : List Step) (e : Records) (r : Record) (t : DoneOrRefusal) (d : Records)
    : Type 0 where
  pub answer : done_answer_of t ≡ record_answer rows ps (records_in e) r
  pub left : d ≡ cond (accepted (record_answer rows ps (records_in e) r)) (with_record e r) e

-- as if every record were released: the office's listing
unfoldable pub all_releases : Releases
all_releases = flagged (replicate max_records 1)

-- a release where the records rs are held, and the releases e: the answer t, and the releases d left
pub record ReleaseMade (rs : List Record) (e : Releases) (place : ℕ) (t : DoneOrRefusal) (d : Releases) : Type 0 where
  pub answer : done_answer_of t ≡ release_answer rs place
  pub left : d ≡ cond (accepted (release_answer rs place)) (flagged (with_release e.flags place)) e
