-- `name_at` meets its contract.
use Rattle.lines.proofs.Walk.{name_met}
use Rattle.lines.proofs.names.name_at.Goals as goal

pub returns : goal.returns
returns c = name_met _ _ _ c.line_end-end.ensures _ c.line_start-start.ensures
