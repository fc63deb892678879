-- `mark_children` meets its contract: the end of a child's subtree is the next child.
use Rattle.std.proofs.Common.{◌-◌, get_or}
use Rattle.common.specs.represent.Numbers.{axis_number}
use Rattle.xpath.specs.private.Checked.{doc}
use Rattle.marking.specs.private.Added.{candidate}
use Rattle.marking.proofs.Walks.{ChildrenBelow}
use Rattle.marking.proofs.AxisStep.mark_children.Given as goal

abbrev pub invariant-loop-y : goal.invariant-loop-y
invariant-loop-y g l = ChildrenBelow (doc l.self.document) l.self.document.ends.now
    (candidate (axis_number l.self.axis) (g.T.NodeSet.has l.self.test) (doc l.self.document)) l.p l.lo l.hi l.y
    l.initial.out l.out

abbrev pub decreases-loop-y : goal.decreases-loop-y
decreases-loop-y g l = get_or l.self.document.ends.now l.p 0 - l.y
