-- `is_included` meets its contract.
use Rattle.std.proofs.Common.{◌≡◌, ◌||◌, not}
use Rattle.common.specs.Bounded.{all_below}
use Rattle.set_selection.specs.Sets.{marked}
use Rattle.set_selection.proofs.evaluation.is_included.Given as goal

abbrev pub invariant-loop-y : goal.invariant-loop-y
invariant-loop-y l = l.included ≡ all_below l.y (λ y. not (marked l.a y) || marked l.b y)
