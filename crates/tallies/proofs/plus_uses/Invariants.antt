-- `plus_uses` meets its contract. The loop's invariant: the uses of the first i rules are added.
use Rattle.session.specs.View.{view}
use Rattle.tallies.proofs.Lined.{AddedTo}
use Rattle.tallies.proofs.plus_uses.Given as goal

abbrev pub invariant-loop-i : goal.invariant-loop-i
invariant-loop-i l = AddedTo l.fn.uses (view l.session).steps l.i l.count-items
