-- `Filed::line` meets its contract.
use mathlib.Core.Path.{subst}
use Rattle.common.proofs.Results.{none_by_ok_or}
use Rattle.common.specs.declared.refusal.Refusal.TheVariants as refusals
use Rattle.common.proofs.Errors.{err_is}
use Rattle.script.specs.Command.{command_of}
use Rattle.script.specs.private.CommandRead.{CallRead}
use Rattle.script_bundle.proofs.LineLaws.{line_not_read, line_read}
use Rattle.script_bundle.proofs.Filed.line.Goals as goal

pub returns-in_err-read : goal.returns-in_err-read
returns-in_err-read c =
    let a = c.args in
    let no = none_by_ok_or c.call_at.result refusals.WrongForm _ c.in_err-read.ensures.value in
    rw (err_is c.from_residual.result c.from_residual.ensures.1, no.1)
    (line_not_read a.self.now a.line.now (subst (CallRead command_of a.line.now 0) no.0 c.call_at.ensures))

pub returns : goal.returns
returns c =
    let a = c.args in
    let met = subst (CallRead command_of a.line.now 0) c.in_ok-read.ensures.ok_part c.call_at.ensures in
    line_read a.self.now a.line.now c.in_ok-read.read.command met.line _ c.rest_at.ensures _ _ c.command.ensures
