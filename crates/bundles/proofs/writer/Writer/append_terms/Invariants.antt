-- `Writer::append_terms` meets its contract: the lines left make all of them with those that are put.
use mathlib.Core.Path.{◌≡◌}
use lib.ListN.{drop}
use Rattle.terms.specs.Row.{table_of}
use Rattle.bundles.specs.Bundle.{rows_text}
use Rattle.bundles.proofs.Putting.{Rest}
use Rattle.bundles.proofs.writer.Writer.append_terms.Given as goal

abbrev pub invariant-loop-numbers : goal.invariant-loop-numbers
invariant-loop-numbers l =
    (l.self.out.ghost_name ≡ l.initial.self.out.ghost_name)
    × Rest l.initial.self.out.now l.initial.self.at (rows_text (table_of l.rows)) l.self.out.now l.self.at
    (rows_text (drop l.numbers-index (table_of l.rows)))
