-- `read_steps` meets its contract. The loop's invariant:
-- the reading is what is left to read from `at` on, on the steps held now, and what is noted is so.
use Prim.Native.Nat.{◌*◌, ◌-◌, ◌≤◌}
use mathlib.Core.Path.{◌≡◌}
use lib.ListN.{length, drop}
use Rattle.lines.specs.Line.{lines}
use Rattle.terms.specs.Row.{max_rows}
use Rattle.matching.specs.private.RowWayBack.{Noted}
use Rattle.calls.specs.Book.{max_steps}
use Rattle.calls.specs.represent.Tables.{step_width, first_rows}
use Rattle.calls.specs.Promises.{row_step_answer}
use Rattle.session.specs.Reading.{steps_read}
use Rattle.session.specs.private.Parts.{holding}
use Rattle.session.proofs.read.read_steps.Given as goal

abbrev pub invariant-loop-at : goal.invariant-loop-at
invariant-loop-at l = (l.m ≤ max_steps) × (length l.steps ≡ step_width * max_steps) × (l.line ≤ l.at)
    × (l.at ≤ length l.bytes)
    × (steps_read row_step_answer (holding l.rows.numbers l.rows.count l.initial.steps 0) l.fn.first.line
    (lines (drop l.fn.first.at l.bytes))
    ≡ steps_read row_step_answer
    (holding l.rows.numbers l.rows.count l.steps l.m) l.line (lines (drop l.at l.bytes)))
    × Noted (first_rows l.rows.count l.rows.numbers) l.noted × (length l.noted ≡ max_rows)

abbrev pub decreases-loop-at : goal.decreases-loop-at
decreases-loop-at l = length l.bytes - l.at
