use Rattle.xml_document.specs.private.Checks.{RowsOk}
use Rattle.xml_document.proofs.columns.Columns.are_rows_ok.Given as goal

abbrev pub invariant-loop-n : goal.invariant-loop-n
invariant-loop-n l = RowsOk l.self l.n
