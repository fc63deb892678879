-- `terms_length` meets its contract: the length of the lines that are left makes the whole with what is counted.
use Prim.Native.Nat.{◌+◌, ◌*◌, ◌≤◌}
use mathlib.Core.Path.{◌≡◌}
use lib.ListN.{length, drop}
use Rattle.terms.specs.Row.{table_of}
use Rattle.bundles.specs.Bundle.{rows_text}
use Rattle.bundles.proofs.terms_length.Given as goal

abbrev pub invariant-loop-numbers : goal.invariant-loop-numbers
invariant-loop-numbers l =
    (l.size + length (rows_text (drop l.numbers-index (table_of l.rows))) ≡ length (rows_text (table_of l.rows)))
    × (l.size ≤ 24 * l.numbers-index)
