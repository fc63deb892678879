-- `mark_range` meets its contract.
use Rattle.std.proofs.Common.{length}
use Rattle.common.specs.represent.Numbers.{axis_number}
use Rattle.xpath.specs.private.Checked.{doc}
use Rattle.marking.specs.private.Added.{Added, candidate}
use Rattle.marking.proofs.Added.{between}
use Rattle.marking.proofs.AxisStep.mark_range.Given as goal

abbrev pub invariant-loop-y : goal.invariant-loop-y
invariant-loop-y g l = Added (length (doc l.self.document)) l.initial.out l.out
    (between l.lo l.y (candidate (axis_number l.self.axis) (g.T.NodeSet.has l.self.test) (doc l.self.document)))
