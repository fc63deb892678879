use Rattle.xml_numbers.proofs.Laws.{Filled}
use Rattle.xml_numbers.proofs.rows.column.Given as goal

abbrev pub invariant-loop-row : goal.invariant-loop-row
invariant-loop-row l = Filled l.document l.numbering l.column.items l.row
