-- `left_next` meets its contract.
use Rattle.bundles.proofs.LentTables.{next_line, same_line}
use Rattle.bundles.proofs.lent_tables.left_next.Goals as goal

pub returns-then-left-eq0 : goal.returns-then-left-eq0
returns-then-left-eq0 c = next_line c.args.width c.args.left c.if-left-eq0.true

pub returns-else-left-eq0 : goal.returns-else-left-eq0
returns-else-left-eq0 c = same_line c.args.width c.args.left c.if-left-eq0.false
