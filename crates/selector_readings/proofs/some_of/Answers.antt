-- `some_of` meets its contract.
use Rattle.selector_readings.proofs.Built.{some_grown}
use Rattle.selector_readings.proofs.some_of.Goals as goal

pub returns : goal.returns
returns c =
    some_grown _ _ _ _ _ _ _ _ (rw c.into.ensures at c.put_leaf-void.ensures)
    (rw c.into-2.ensures at c.join-inclusion.ensures)
    c.put_over.ensures
