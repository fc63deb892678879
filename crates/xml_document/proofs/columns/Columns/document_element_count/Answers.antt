use Rattle.std.proofs.Common.{arith, sym, ◌∙◌, add-one}
use Rattle.xml_document.proofs.Passing.{count_start, count_next}
use Rattle.xml_document.proofs.columns.Columns.document_element_count.Goals as goal
use Rattle.xml_document.proofs.columns.Columns.document_element_count.Goals.{then-is_one, else-is_one}

pub loop-n-init : goal.loop-n-init
loop-n-init c = count_start _

pub loop-n-preserved : goal.loop-n-preserved
loop-n-preserved c =
    elim c.if-is_one.branch [
      | then-is_one w ↦
          count_next _ _ _ _ _ _ _ _ c.loop-n.invariant c.row-row.ensures.kind c.row-row.ensures.parent
          (sym c.is_document_element-is_one.ensures ∙ w.if-is_one.true) (add-one _) w.count-is
      | else-is_one w ↦
          count_next _ _ _ _ _ _ _ _ c.loop-n.invariant c.row-row.ensures.kind c.row-row.ensures.parent
          (sym c.is_document_element-is_one.ensures ∙ w.if-is_one.false) (add-one _) (omega (arith, w.count-is))
    ]

pub overflow_add-count : goal.overflow_add-count
overflow_add-count c = omega (arith, c.loop-n.invariant.within, c.loop-n-test.true)
