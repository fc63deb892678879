-- Nothing is noted.
use Rattle.terms.specs.Row.{max_rows}
use Rattle.matching.proofs.RowWayBack.{none_noted}
use Rattle.matching.proofs.no_notes.Goals as goal

pub returns : goal.returns
returns c rs = none_noted rs max_rows
