use Rattle.xml_numbers.proofs.Laws.{Listed}
use Rattle.xml_numbers.proofs.rows.numbers_by.Given as goal

abbrev pub invariant-loop-index : goal.invariant-loop-index
invariant-loop-index l = Listed l.names.list.now l.table l.numbers.items l.index
