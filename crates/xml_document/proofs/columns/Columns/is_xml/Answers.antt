use Rattle.std.proofs.Common.{arith}
use borrow.Author.Tests.{eqb-true}
use Rattle.xml_document.proofs.Passing.{are_xml}
use Rattle.xml_document.proofs.columns.Columns.is_xml.Goals as goal

pub returns : goal.returns
returns c =
    let rows = c.are_rows_ok-rows.ensures c.if-not-rows.false in
    let some = rows.some in
    λ e. are_xml _ _ _ (omega arith) rows.all c.document_element_count.ensures (eqb-true _ _ e)
