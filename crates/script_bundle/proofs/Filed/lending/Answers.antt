-- `Filed::lending` meets its contract.
use Rattle.script_bundle.proofs.CallLaws.{lent, not_lent}
use Rattle.script_bundle.proofs.Filed.lending.Goals as goal

pub returns-then-rest-gt-MAX_BYTES : goal.returns-then-rest-gt-MAX_BYTES
returns-then-rest-gt-MAX_BYTES c = not_lent c.args.self.now c.args.rest c.if-rest-gt-MAX_BYTES.true

pub returns : goal.returns
returns c = lent c.args.self.now c.args.rest _
