-- `listed` meets its contract. The loop's invariant: the line has the numbers so far and goes on at `from`.
use mathlib.Core.Path.{◌≡◌}
use lib.ListN.{length}
use Rattle.script.specs.private.CommandRead.{items}
use Rattle.script.proofs.Numbers.{SoFar}
use Rattle.script.proofs.listed.Given as goal

abbrev pub invariant-loop : goal.invariant-loop
invariant-loop g l = (length (items l.numbers) ≡ l.counter) × SoFar l.bytes l.at l.from (items l.numbers)
