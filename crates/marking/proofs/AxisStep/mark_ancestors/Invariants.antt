-- `mark_ancestors` meets its contract: the climb goes from each ancestor to the next.
use Rattle.xpath.specs.private.Checked.{doc}
use Rattle.xpath.specs.private.Tests.{picks}
use Rattle.marking.proofs.Walks.{AncestorsFrom}
use Rattle.marking.proofs.AxisStep.mark_ancestors.Given as goal

abbrev pub invariant-loop-at : goal.invariant-loop-at
invariant-loop-at g l =
    AncestorsFrom (doc l.self.document) (picks (g.T.NodeSet.has l.self.test) (doc l.self.document)) l.self.x l.at
    l.initial.out l.out

abbrev pub decreases-loop-at : goal.decreases-loop-at
decreases-loop-at g l = l.at
