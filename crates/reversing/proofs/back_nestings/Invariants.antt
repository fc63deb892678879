-- `back_nestings` meets its contract. The invariant: the table's first i numbers are the nestings of the ways back of
-- the first i rows.
use mathlib.Core.Path.{◌≡◌}
use mathlib.Core.List.{[]}
use lib.ListN.{length, take}
use Rattle.terms.specs.Row.{table_of, max_rows, entries_from}
use Rattle.reversing.specs.private.RowsBack.{nesting_after}
use Rattle.reversing.proofs.back_nestings.Given as goal

abbrev pub invariant-loop-i : goal.invariant-loop-i
invariant-loop-i l = (length l.table ≡ max_rows)
    × (take l.i l.table ≡ entries_from (nesting_after (table_of l.rows)) [] (take l.i (table_of l.rows)))
