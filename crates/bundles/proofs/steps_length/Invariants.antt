-- `steps_length` meets its contract: the length of the lines that are left makes the whole with what is counted.
use Prim.Native.Nat.{◌+◌, ◌*◌, ◌≤◌}
use mathlib.Core.Path.{◌≡◌}
use lib.ListN.{length, drop}
use Rattle.calls.specs.represent.Tables.{steps_of}
use Rattle.bundles.specs.Bundle.{steps_text}
use Rattle.bundles.proofs.steps_length.Given as goal

abbrev pub invariant-loop-numbers : goal.invariant-loop-numbers
invariant-loop-numbers l =
    (l.size + length (steps_text (drop l.numbers-index (steps_of l.steps))) ≡ length (steps_text (steps_of l.steps)))
    × (l.size ≤ 30 * l.numbers-index)
