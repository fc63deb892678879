-- `next_line` meets its contract.
use Rattle.lines.proofs.Walk.{next_after, no_next}
use Rattle.lines.proofs.names.next_line.Goals as goal

pub returns-then-end-list : goal.returns-then-end-list
returns-then-end-list c = next_after _ _ _ c.line_end-end.ensures c.if-end-list.true

pub returns-else-end-list : goal.returns-else-end-list
returns-else-end-list c = no_next _ _ _ c.line_end-end.ensures c.if-end-list.false
