-- The place stays within the numbers.
use Rattle.std.proofs.Common.{◌≤◌}
use Rattle.document_marks.proofs.numbers_of.Given as goal

abbrev pub invariant-loop-b : goal.invariant-loop-b
invariant-loop-b l = l.place ≤ 2
