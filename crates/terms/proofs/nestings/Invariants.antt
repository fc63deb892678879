-- `nestings`. The invariant: the table's first i numbers are the nestings of the first i rows.
use mathlib.Core.Path.{◌≡◌}
use lib.ListN.{length, take}
use Rattle.terms.specs.Row.{table_of, max_rows}
use Rattle.terms.specs.Nesting.{nestings}
use Rattle.terms.proofs.nestings.Given as goal

abbrev pub invariant-loop-i : goal.invariant-loop-i
invariant-loop-i l = (length l.table ≡ max_rows)
    × (take l.i l.table ≡ nestings (take l.i (table_of l.rows)))
