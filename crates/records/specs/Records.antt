-- The records of a register, editions of series, and the call record.
use Rattle.std.specs.Prelude.{ℕ, ◌+◌, Bool, cond, not, ◌&&◌, List, [], ◌∷◌, leb, ltb, eqb, length}
use Rattle.common.specs.Lists.{all_of}
use Rattle.terms.specs.Row.{Row}
use Rattle.terms.specs.Fields.{held_path}
use Rattle.records.specs.declared.Record.{Record}
use Rattle.calls.specs.Book.{Step, Answer, answer}
use Rattle.calls.specs.StepCall.{step_numbered}
use Rattle.common.specs.Refusals.{not_next, bad_record, full_or_in_use}

-- a record: a series, an edition from 1, a path row and a step
abbrev pub recorded : (series edition row step : ℕ) → Record
recorded s e r p = record { series = s; edition = e; row = r; step = p }

abbrev pub empty_record : Record
empty_record = recorded 0 0 0 0

abbrev pub max_records : ℕ
max_records = 256

-- the current edition of a series: its highest, 0 if it has none
unfoldable pub current : List Record → (series : ℕ) → ℕ
current [] s = 0
current (r ∷ rs) s = cond (eqb r.series s && ltb (current rs s) r.edition) r.edition (current rs s)

-- the row of an edition of a series, 0 if it is not held
unfoldable pub row_of : List Record → (series edition : ℕ) → ℕ
row_of [] s e = 0
row_of (r ∷ rs) s e = cond (eqb r.series s && eqb r.edition e) r.row (row_of rs s e)

-- edition 1 has step 0; the step of another is held and says that the previous edition's row is contained in its own
unfoldable pub is_fit_step : List Step → (previous : ℕ) → Record → Bool
is_fit_step ps previous r =
    cond (eqb r.edition 1) (eqb r.step 0)
    ((leb 1 r.step && leb r.step (length ps))
    && (eqb (step_numbered ps r.step).left previous && eqb (step_numbered ps r.step).right r.row))

-- the first refusal that applies, in the order 22, 23, 24; else 0
unfoldable pub record_answer : List Row → List Step → List Record → Record → Answer
record_answer rows ps rs r =
    let highest = current rs r.series in
    cond (not (eqb r.edition (highest + 1))) (answer not_next (highest + 1))
    (cond (not (held_path rows r.row)) (answer bad_record 1)
    (cond (not (is_fit_step ps (row_of rs r.series highest) r)) (answer bad_record 2)
    (cond (leb max_records (length rs)) (answer full_or_in_use 0)
    (answer 0 0))))

-- every row and every step in use is among the first n rows and m steps
unfoldable pub all_kept : (n m : ℕ) → List Record → Bool
all_kept n m rs = all_of (λ r. ltb r.row n && leb r.step m) rs
