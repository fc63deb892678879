-- `first_bad_row` meets its contract: the rows passed are as they must be.
use Rattle.std.proofs.Common.{min, length}
use Rattle.xpath.specs.Document.{document_of}
use Rattle.xpath.proofs.Rows.{Passed}
use Rattle.xpath.proofs.document.first_bad_row.Given as goal

abbrev pub invariant-loop-i : goal.invariant-loop-i
invariant-loop-i l = Passed l.d l.initial.ends (min l.i (length (document_of l.d))) l.ends
