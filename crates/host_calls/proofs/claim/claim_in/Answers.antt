-- `claim_in` meets its contract: the bundle or either selector may be refused, and then the claim.
use Rattle.common.proofs.Errors.{err_is}
use Rattle.host_calls.proofs.Judged.{bundle_refused, old_refused, new_refused, claim_told}
use Rattle.host_calls.proofs.claim.claim_in.Goals as goal

pub returns-in_err-map_err : goal.returns-in_err-map_err
returns-in_err-map_err c =
    rw (err_is c.from_residual.result c.from_residual.ensures.1)
    (bundle_refused _ _ _ _ _ c.read-read.ensures.met _ c.in_err-map_err.ensures.cases)

pub returns-in_err-left : goal.returns-in_err-left
returns-in_err-left c =
    rw (err_is c.from_residual-in_err-left.result c.from_residual-in_err-left.ensures.1)
    (old_refused _ _ _ _ _ c.read-read.ensures.met _ c.in_ok-map_err.ensures.cases
    c.text-first.result _ c.text-first.ensures.met _ c.in_err-left.ensures.cases)

pub returns-in_err-right : goal.returns-in_err-right
returns-in_err-right c =
    rw (err_is c.from_residual-in_err-right.result c.from_residual-in_err-right.ensures.1)
    (new_refused _ _ _ _ _ c.read-read.ensures.met _ c.in_ok-map_err.ensures.cases
    c.text-first.result _ c.text-first.ensures.met _ c.in_ok-left.ensures.cases
    c.text-second.result _ c.text-second.ensures.met _ c.in_err-right.ensures.cases)

pub returns : goal.returns
returns c =
    rw c.ok_or.ensures.value
    (claim_told _ _ _ _ _ c.read-read.ensures.met _ c.in_ok-map_err.ensures.cases
    c.text-first.result _ c.text-first.ensures.met _ c.in_ok-left.ensures.cases
    c.text-second.result _ c.text-second.ensures.met _ c.in_ok-right.ensures.cases _ c.step_saying-step.ensures)
