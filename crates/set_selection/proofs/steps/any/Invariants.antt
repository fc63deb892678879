-- `any` meets its contract.
use Rattle.std.proofs.Common.{◌≡◌}
use Rattle.common.specs.Bounded.{any_below}
use Rattle.set_selection.specs.Sets.{marked}
use Rattle.set_selection.proofs.steps.any.Given as goal

abbrev pub invariant-loop-mark : goal.invariant-loop-mark
invariant-loop-mark l = l.found ≡ any_below l.mark-index (marked l.marks)
