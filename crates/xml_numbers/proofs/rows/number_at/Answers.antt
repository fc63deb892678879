-- `number_at` meets its contract.
use Rattle.xml_numbers.proofs.rows.number_at.Goals as goal

pub returns : goal.returns
returns c = rw (c.as_slice-names.ensures.value, c.as_slice-namespaces.ensures.value) at c.number_by.ensures
