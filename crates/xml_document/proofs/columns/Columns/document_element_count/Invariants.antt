use Rattle.xml_document.specs.private.Checks.{Counts}
use Rattle.xml_document.proofs.columns.Columns.document_element_count.Given as goal

abbrev pub invariant-loop-n : goal.invariant-loop-n
invariant-loop-n l = Counts l.self l.n l.count
