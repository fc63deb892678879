-- `mark_children` meets its contract: the end of a child's subtree is the next child.
use Rattle.std.proofs.Common.{sym, ◌∙◌, arith}
use Rattle.marking.proofs.Walks.{at_child, children_start}
use Rattle.marking.proofs.AxisStep.mark_children.Goals as goal

pub loop-y-init : goal.loop-y-init
loop-y-init g c = children_start _ _ c.args.self.now.document.prepared _ _ _ _ c.requires.children_from _

pub loop-y-preserved-then-is_candidate : goal.loop-y-preserved-then-is_candidate
loop-y-preserved-then-is_candidate g c =
    let r = c.args.self.now.document.prepared in
    let h = at_child _ _ r _ _ _ _ c.requires.children_from _ _ _ _ c.loop-y.invariant (omega arith)
    c.end-next.ensures
    (omega (arith, r.few)) in
    h.marked (sym c.is_candidate.ensures ∙ c.if-is_candidate.true)

pub loop-y-preserved : goal.loop-y-preserved
loop-y-preserved g c =
    let r = c.args.self.now.document.prepared in
    let h = at_child _ _ r _ _ _ _ c.requires.children_from _ _ _ _ c.loop-y.invariant (omega arith)
    c.end-next.ensures
    (omega (arith, r.few)) in
    h.left (sym c.is_candidate.ensures ∙ c.if-is_candidate.false)
