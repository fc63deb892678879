-- `byte_after` meets its contract.
use Rattle.bundles.proofs.LentTables.{byte_last, byte_other}
use Rattle.bundles.proofs.lent_tables.byte_after.Goals as goal

pub returns-then-left-eq0 : goal.returns-then-left-eq0
returns-then-left-eq0 c = byte_last c.args.left c.if-left-eq0.true

pub returns-else-left-eq0 : goal.returns-else-left-eq0
returns-else-left-eq0 c = byte_other c.args.left c.if-left-eq0.false
