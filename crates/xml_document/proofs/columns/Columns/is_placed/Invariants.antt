use Rattle.std.proofs.Common.{◌<◌, length}
use Rattle.xml_document.proofs.Passing.{Carries}
use Rattle.xml_document.proofs.columns.Columns.is_placed.Given as goal

abbrev pub invariant-loop-at : goal.invariant-loop-at
invariant-loop-at l = (l.at < length l.self.kinds.now) × Carries l.self l.parent l.n l.at

abbrev pub decreases-loop-at : goal.decreases-loop-at
decreases-loop-at l = l.at
