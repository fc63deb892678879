-- `later_row_ok` meets its contract: it closes what `is_placed` closes.
use Rattle.std.proofs.Common.{add-one, arith}
use Rattle.xpath.proofs.Rows.{row_closed}
use Rattle.documents.proofs.unchecked.Unchecked.later_row_ok.Goals as goal

pub returns-then-kind-ne-ATTRIBUTE-clause-ends_after : goal.returns-then-kind-ne-ATTRIBUTE-clause-ends_after
returns-then-kind-ne-ATTRIBUTE-clause-ends_after c =
    row_closed _ _ _ _ _ _ _ (add-one _) c.parent_at-parent.ensures c.is_placed.ensures

pub returns-else-kind-ne-ATTRIBUTE-clause-ends_after : goal.returns-else-kind-ne-ATTRIBUTE-clause-ends_after
returns-else-kind-ne-ATTRIBUTE-clause-ends_after c =
    row_closed _ _ _ _ _ _ _ (add-one _) c.parent_at-parent.ensures c.is_placed.ensures

pub returns-else-kind_and_name_ok-clause-ends_after : goal.returns-else-kind_and_name_ok-clause-ends_after
returns-else-kind_and_name_ok-clause-ends_after c =
    row_closed _ _ _ _ _ _ _ (add-one _) c.parent_at-parent.ensures c.is_placed.ensures
