-- `put_step` meets its contract.
use Rattle.selector_readings.proofs.Built.{step_put}
use Rattle.selector_readings.specs.private.Build.{stands}
use Rattle.selector_readings.proofs.put_step.Goals as goal

pub returns : goal.returns
returns c =
    step_put _ c.args.unlisted c.args.rows.now (stands c.args.from) c.args.at _ c.put-step.result _
    c.or-missing.ensures c.put-step.ensures
