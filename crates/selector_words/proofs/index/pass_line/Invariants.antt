-- `pass_line` meets its contract.
use Prim.Native.Nat.{◌-◌, ◌≤◌}
use lib.ListN.{length}
use Rattle.selector_words.proofs.Indexed.{LineLeft}
use Rattle.selector_words.proofs.index.pass_line.Given as goal

abbrev pub invariant-loop-signed : goal.invariant-loop-signed
invariant-loop-signed l = LineLeft l.list l.at l.i l.signed × (l.at ≤ l.i) × (l.i ≤ length l.list)

abbrev pub decreases-loop-signed : goal.decreases-loop-signed
decreases-loop-signed l = length l.list - l.i
