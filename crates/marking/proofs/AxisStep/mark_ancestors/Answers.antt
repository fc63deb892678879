-- `mark_ancestors` meets its contract: the climb goes from each ancestor to the next.
use Rattle.std.proofs.Common.{arith}
use Rattle.marking.proofs.Walks.{ancestors_start, ancestors_at, ancestors_less, ancestors_within, ancestors_on}
use Rattle.marking.proofs.Walks.{ancestors_end}
use Rattle.marking.proofs.AxisStep.mark_ancestors.Goals as goal

pub loop-at-init : goal.loop-at-init
loop-at-init g c =
    let s = c.args.self.now in
    ancestors_start _ s.document.prepared.formed _ _ s.node _

pub parent_of-at-requires : goal.parent_of-at-requires
parent_of-at-requires g c =
    let s = c.args.self.now in
    ancestors_at _ s.document.prepared.formed _ _ s.node _ _ _ c.loop-at.invariant

pub mark_node-requires : goal.mark_node-requires
mark_node-requires g c =
    let s = c.args.self.now in
    let within = ancestors_within _ s.document.prepared.formed _ _ s.node _ _ _ _ c.loop-at.invariant
    (omega arith) c.parent_of-at.ensures in
    omega (arith, within)

pub loop-at-smaller : goal.loop-at-smaller
loop-at-smaller g c =
    let s = c.args.self.now in
    ancestors_less _ s.document.prepared.formed _ _ s.node _ _ _ _ c.loop-at.invariant
    (omega arith) c.parent_of-at.ensures

pub loop-at-preserved : goal.loop-at-preserved
loop-at-preserved g c =
    let s = c.args.self.now in
    ancestors_on _ s.document.prepared.formed _ _ s.node _ _ _ _ c.loop-at.invariant
    (omega arith) c.parent_of-at.ensures c.mark_node.ensures

pub returns : goal.returns
returns g c =
    let s = c.args.self.now in
    ancestors_end _ s.document.prepared.formed _ _ s.node _ _ _ c.loop-at.invariant (omega arith)
