-- `new` meets its contract.
use Rattle.std.proofs.Common.{refl}
use Rattle.documents.specs.Columns.{rows_of}
use Rattle.documents.proofs.rows.Rows.new.Goals as goal

pub returns : goal.returns
unfolding rows_of
returns c = rw c.new.ensures.items refl
