-- `read_rows` meets its contract. The loop's invariant: the reading is what is left to read from `at` on, on the rows
-- held now.
use Prim.Native.Nat.{◌-◌, ◌≤◌}
use mathlib.Core.Path.{◌≡◌}
use lib.ListN.{length, drop}
use Rattle.lines.specs.Line.{lines}
use Rattle.session.specs.View.{fresh_session}
use Rattle.calls.specs.Promises.{row_step_answer}
use Rattle.session.specs.Reading.{rows_read}
use Rattle.session.specs.private.Parts.{holding}
use Rattle.session.proofs.read.read_rows.Given as goal

abbrev pub invariant-loop-at : goal.invariant-loop-at
invariant-loop-at l = (l.line ≤ l.at) × (l.at ≤ length l.bytes)
    × (rows_read row_step_answer (holding l.initial.rows.numbers 0 fresh_session.steps 0) 2
    (lines (drop l.start l.bytes))
    ≡ rows_read row_step_answer (holding l.rows.numbers l.rows.count fresh_session.steps 0) l.line
    (lines (drop l.at l.bytes)))

abbrev pub decreases-loop-at : goal.decreases-loop-at
decreases-loop-at l = length l.bytes - l.at
