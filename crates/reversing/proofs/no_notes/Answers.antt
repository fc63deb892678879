-- `no_notes` meets its contract: nothing is noted.
use Rattle.terms.specs.Row.{max_rows}
use Rattle.reversing.proofs.RowsPut.{none_noted}
use Rattle.reversing.proofs.no_notes.Goals as goal

pub returns : goal.returns
returns c rs ss = none_noted rs ss max_rows
