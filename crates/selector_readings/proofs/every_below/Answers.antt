-- `every_below` meets its contract.
use Rattle.selector_readings.proofs.Built.{below_grown}
use Rattle.selector_readings.proofs.every_below.Goals as goal

pub returns : goal.returns
returns c =
    below_grown _ _ _ _ _ _ (rw c.step_row-row.ensures at c.put-step.ensures) (rw c.into.ensures at c.join.ensures)
