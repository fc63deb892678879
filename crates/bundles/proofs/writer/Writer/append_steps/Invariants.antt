-- `Writer::append_steps` meets its contract: the lines left make all of them with those that are put.
use mathlib.Core.Path.{◌≡◌}
use lib.ListN.{drop}
use Rattle.calls.specs.represent.Tables.{steps_of}
use Rattle.bundles.specs.Bundle.{steps_text}
use Rattle.bundles.proofs.Putting.{Rest}
use Rattle.bundles.proofs.writer.Writer.append_steps.Given as goal

abbrev pub invariant-loop-numbers : goal.invariant-loop-numbers
invariant-loop-numbers l =
    (l.self.out.ghost_name ≡ l.initial.self.out.ghost_name)
    × Rest l.initial.self.out.now l.initial.self.at (steps_text (steps_of l.steps)) l.self.out.now l.self.at
    (steps_text (drop l.numbers-index (steps_of l.steps)))
