-- `later_row_ok` meets its contract: it closes what `is_placed` closes.
use Rattle.std.proofs.Common.{add-one, arith}
use Rattle.xpath.proofs.Rows.{placed_below, row_closed}
use Rattle.xpath.proofs.document.later_row_ok.Goals as goal

pub whole_node-requires : goal.whole_node-requires
whole_node-requires c = omega (arith, placed_below _ _ _ _ _ _ c.is_placed.ensures c.if-is_placed.true)

pub returns-then-not-is_attribute-clause-ends_after : goal.returns-then-not-is_attribute-clause-ends_after
returns-then-not-is_attribute-clause-ends_after c =
    row_closed _ _ _ _ _ _ _ (add-one _) c.parent_of-parent.ensures c.is_placed.ensures

pub returns-else-not-is_attribute-clause-ends_after : goal.returns-else-not-is_attribute-clause-ends_after
returns-else-not-is_attribute-clause-ends_after c =
    row_closed _ _ _ _ _ _ _ (add-one _) c.parent_of-parent.ensures c.is_placed.ensures

pub returns-else-kind_and_name_ok-clause-ends_after : goal.returns-else-kind_and_name_ok-clause-ends_after
returns-else-kind_and_name_ok-clause-ends_after c =
    row_closed _ _ _ _ _ _ _ (add-one _) c.parent_of-parent.ensures c.is_placed.ensures
