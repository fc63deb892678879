-- `new` meets its contract: nothing is found so far.
use Rattle.std.proofs.Common.{rules}
use Rattle.set_selection.proofs.Noting.{right_pushed}
use Rattle.set_selection.proofs.memory.Memory.new.Goals as goal

pub loop-count-init : goal.loop-count-init
loop-count-init c = λ k. rw c.new-slots.ensures.items tt

pub loop-count-preserved : goal.loop-count-preserved
loop-count-preserved c =
    rw c.in_ok-push.ensures.items (right_pushed _ _ _ c.loop-count.invariant c.with_uses.ensures)

pub returns : goal.returns
returns c = c.loop-count.invariant
