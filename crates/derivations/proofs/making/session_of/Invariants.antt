-- The session stays one that calls lead to.
use Rattle.derivations.specs.Derived.{IsMade}
use Rattle.derivations.proofs.making.session_of.Given as goal

abbrev pub invariant-loop-is_needed : goal.invariant-loop-is_needed
invariant-loop-is_needed l = IsMade l.session

abbrev pub invariant-loop-s : goal.invariant-loop-s
invariant-loop-s l = IsMade l.session
