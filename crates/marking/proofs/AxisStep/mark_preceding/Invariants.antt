-- `mark_preceding` meets its contract.
use Rattle.std.proofs.Common.{◌&&◌, leb, length, get_or}
use Rattle.common.specs.represent.Numbers.{axis_number}
use Rattle.xpath.specs.private.Checked.{doc}
use Rattle.marking.specs.private.Added.{Added, candidate}
use Rattle.marking.proofs.Added.{between}
use Rattle.marking.proofs.AxisStep.mark_preceding.Given as goal

abbrev pub invariant-loop-y : goal.invariant-loop-y
invariant-loop-y g l = Added (length (doc l.self.document)) l.initial.out l.out
    (between 0 l.y (λ k. leb (get_or l.self.document.ends.now k 0) l.self.x
    && candidate (axis_number l.self.axis) (g.T.NodeSet.has l.self.test) (doc l.self.document) k))
