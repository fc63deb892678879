-- What the functions that read is made of promise each other.
use Rattle.std.specs.Prelude.{ℕ, ◌≤◌, ◌≡◌, List, length, drop, Result, Ok, Err, IfOk, OnOk}
use Rattle.common.specs.declared.refusal.Refusal.TheVariants.{WrongForm}
use Rattle.common.specs.represent.Refusal.{refusal_number}
use Rattle.lines.specs.Line.{lines}
use Rattle.session.specs.declared.session.Session.{Session}
use Rattle.session.specs.declared.read.RowsEnd.{RowsEnd}
use Rattle.calls.specs.declared.answer.LineRefusal.{LineRefusal}
use Rattle.calls.specs.Book.{max_steps, answer}
use Rattle.session.specs.View.{no_points, fresh_session}
use Rattle.calls.specs.Promises.{row_step_answer}
use Rattle.session.specs.Reading.{Reading, refused_at, steps_read, rows_read, reading}

-- the session of n rows with the numbers xs, and m steps with the numbers ys, without points
abbrev pub holding : (xs : List ℕ) (n : ℕ) (ys : List ℕ) (m : ℕ) → Session
holding xs n ys m =
    record { rows = xs; row_count = n; steps = ys; step_count = m; points = no_points; point_count = 0 }

abbrev pub wrong_form_at : ℕ → LineRefusal
wrong_form_at line = record { refusal = WrongForm; line = line }

-- the reading of a bundle with a refused line
abbrev pub refused_by : LineRefusal → Reading
refused_by e = refused_at (refusal_number e.refusal) e.line

-- what is still to be read after the term lines, which left n rows with the numbers xs
abbrev pub after_rows : List ℕ → (xs : List ℕ) (n : ℕ) → Result RowsEnd LineRefusal → Reading
after_rows bytes xs n (Ok end) = steps_read row_step_answer (holding xs n fresh_session.steps 0) end.line
    (lines (drop end.at bytes))
after_rows bytes xs n (Err e) = refused_by e

-- the term lines from line 2 on, which starts at `start`, on the numbers xs, which become ys, of n rows
pub record RowsReadMet (bytes : List ℕ) (start : ℕ) (xs ys : List ℕ) (n : ℕ)
    (t : Result RowsEnd LineRefusal) : Type 0 where
  pub reading : after_rows bytes ys n t ≡ rows_read row_step_answer (holding xs 0 fresh_session.steps 0) 2
      (lines (drop start bytes))
  pub bounds : IfOk t (λ end. (end.line ≤ end.at) × (end.at ≤ length bytes))

-- the reading after the step lines, which left the numbers ys
abbrev pub after_steps : (xs : List ℕ) (n : ℕ) (ys : List ℕ) → Result ℕ LineRefusal → Reading
after_steps xs n ys (Ok m) = record { answer = answer 0 m; session = holding xs n ys m }
after_steps xs n ys (Err e) = refused_by e

-- the step lines from line `first` on, which starts at `start`, on n rows with the numbers xs and the numbers ys, which
-- become zs
pub record StepsReadMet (bytes : List ℕ) (start first : ℕ) (xs : List ℕ) (n : ℕ) (ys zs : List ℕ)
    (t : Result ℕ LineRefusal) : Type 0 where
  pub reading : after_steps xs n zs t ≡ steps_read row_step_answer (holding xs n ys 0) first (lines (drop start bytes))
  pub bounds : IfOk t (λ m. m ≤ max_steps)

-- the reading after all lines, which left the session s
abbrev pub after_calls : (s : Session) → Result (Unit {0}) LineRefusal → Reading
after_calls s (Ok u) = record { answer = answer 0 s.step_count; session = s }
after_calls s (Err e) = refused_by e

-- the lines of a whole bundle, whose calls left the session s
pub record CallsReadMet (bytes : List ℕ) (s : Session) (t : Result (Unit {0}) LineRefusal) : Type 0 where
  pub told : after_calls s t ≡ reading bytes
  pub bounds : OnOk t (s.step_count ≤ max_steps)
