-- `climb_toward` meets its contract: it has come some parents up.
use Prim.Native.Nat.{ℕ}
use Rattle.documents.specs.Checks.{listed}
use Rattle.xpath.proofs.Climbing.{OnWay}
use Rattle.documents.proofs.unchecked.Unchecked.climb_toward.Given as goal

abbrev pub invariant-loop-at : goal.invariant-loop-at
invariant-loop-at l = (k : ℕ) × OnWay (listed l.self) l.x l.y l.end l.initial.ends l.at k l.ends

abbrev pub decreases-loop-at : goal.decreases-loop-at
decreases-loop-at l = l.at
