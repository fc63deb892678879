-- What the program audit prints of a bundle.
use Rattle.std.specs.Prelude.{ℕ, cond, List, ltb, length}
use Rattle.common.specs.Limits.{max_bytes}
use Rattle.auditing.specs.declared.Report.{Report}
use Rattle.calls.specs.Book.{accepted}
use Rattle.calls.specs.StepCall.{step_numbered}
use Rattle.session.specs.View.{view}
use Rattle.common.specs.Refusals.{wrong_form}
use Rattle.session.specs.Reading.{Reading, reading}

-- answer, refused line or 0, steps held, the rows of the last step or zeros
abbrev pub report_by : (answer line steps left right : ℕ) → Report
report_by answer line steps left right =
    record {
      answer = answer;
      line = line;
      steps = steps;
      left = left;
      right = right;
    }

abbrev pub read_report : Reading → Report
read_report r =
    let held = (view r.session).steps in
    let last = step_numbered held (length held) in
    report_by r.answer.number (cond (accepted r.answer) 0 r.answer.value) (length held) last.left
    last.right

-- what is printed where no bundle was read: the bytes are too many, or their reading failed
abbrev pub unread : Report
unread = report_by wrong_form 0 0 0 0

unfoldable pub report : List ℕ → Report
report bytes = cond (ltb max_bytes (length bytes)) unread (read_report (reading bytes))
