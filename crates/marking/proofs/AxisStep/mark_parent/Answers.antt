-- `mark_parent` meets its contract.
use Rattle.std.proofs.Common.{arith}
use native.Mathlib.Nat.{pos_of_ne-zero}
use Rattle.xpath.proofs.Tree.{parent_smaller}
use Rattle.marking.proofs.Steps.{parent_marked, root_parent}
use Rattle.marking.proofs.AxisStep.mark_parent.Goals as goal

pub mark_node-requires : goal.mark_node-requires
mark_node-requires g c =
    let r = c.args.self.now.document.prepared in
    let s = parent_smaller _ r.formed c.args.self.now.x c.args.self.now.node (pos_of_ne-zero c.if-self-ne0.true) in
    omega (arith, c.parent_of.ensures, r.few, c.args.self.now.node)

pub returns-then-self-ne0 : goal.returns-then-self-ne0
returns-then-self-ne0 g c =
    parent_marked _ _ c.args.self.now.document.prepared _ _ c.args.self.now.node _ (pos_of_ne-zero c.if-self-ne0.true)
    c.parent_of.ensures c.mark_node.ensures

pub returns-else-self-ne0 : goal.returns-else-self-ne0
returns-else-self-ne0 g c =
    root_parent _ _ c.args.self.now.document.prepared _ _ c.args.self.now.node c.if-self-ne0.false
