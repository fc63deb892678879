-- `climb_toward` meets its contract: what is left of the climb has the rest of its parents to take.
use Rattle.xpath.specs.Document.{document_of}
use Rattle.xpath.proofs.Climbing.{OnWay}
use Rattle.xpath.proofs.document.climb_toward.Given as goal

abbrev pub invariant-loop-at : goal.invariant-loop-at
invariant-loop-at l = OnWay (document_of l.d) l.x l.y l.end l.initial.ends l.at l.parents l.ends

abbrev pub decreases-loop-at : goal.decreases-loop-at
decreases-loop-at l = l.at
