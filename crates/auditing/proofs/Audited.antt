-- From the call read to what audit prints.
use Prim.Native.Nat.{ℕ, ◌≤◌, ◌<◌}
use mathlib.Core.Path.{◌≡◌, sym, ap, ◌∙◌}
use mathlib.Core.Bool.{cond}
use mathlib.Core.List.{List}
use lib.ListN.{length}
use borrow.Author.Tests.{lt-ltb, le-ltb}
use Rattle.std.specs.Prelude.{is_ok}
use Rattle.common.specs.Limits.{max_bytes}
use Rattle.matching.specs.represent.Sides.{Sides}
use Rattle.session.specs.represent.Results.{ReadResult}
use Rattle.calls.specs.Book.{accepted}
use Rattle.calls.specs.StepCall.{step_numbered}
use Rattle.session.specs.View.{view}
use Rattle.calls.specs.Promises.{sides_of}
use Rattle.common.specs.Refusals.{wrong_form}
use Rattle.session.specs.Reading.{reading}
use Rattle.session.specs.ReadCall.{read_answer_of, reading_of, ReadMet}
use Rattle.auditing.specs.Audit.{report_by, unread, read_report, report}

module _ (bytes : List ℕ) where
  pub too_long : max_bytes < length bytes → unread ≡ report bytes
  unfolding report
  too_long h = rw (lt-ltb max_bytes (length bytes) h)

  met_reading : (t : ReadResult) → ReadMet bytes t → reading_of t ≡ reading bytes
  met_reading t m = λ i. record { answer = m.answer i; session = m.session i }

  -- what is printed of a result that read gives
  module _ (short : length bytes ≤ max_bytes) (t : ReadResult) (met : ReadMet bytes t) where
    pub reported : (number line steps : ℕ) (last : Sides) → number ≡ (read_answer_of t.answer).number
        → line ≡ cond (is_ok t.answer) 0 (read_answer_of t.answer).value → steps ≡ length (view t.session).steps
        → last ≡ sides_of (step_numbered (view t.session).steps (length (view t.session).steps))
        → report_by number line steps last.left last.right ≡ report bytes
    unfolding report sides_of
    reported number line steps last is_number is_line_lem is-steps is_last =
        let held : is_ok t.answer ≡ accepted (read_answer_of t.answer) = met.variant ∙ ap accepted (sym met.answer) in
        rw (is_line_lem, held, is_number, is-steps, is_last, le-ltb max_bytes (length bytes) short)
        (ap read_report (met_reading t met))
