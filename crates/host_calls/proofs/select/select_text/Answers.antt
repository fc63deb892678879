-- `select_text` meets its contract.
use Rattle.common.proofs.Errors.{err_is}
use Rattle.host_calls.proofs.Judged.{select_refused, select_accepted}
use Rattle.host_calls.proofs.select.select_text.Goals as goal

pub returns-in_err-row : goal.returns-in_err-row
returns-in_err-row c =
    rw (err_is c.from_residual.result c.from_residual.ensures.1)
    (select_refused _ _ _ _ _ _ _ c.new-session.ensures _ _ c.text.ensures.met _ c.in_err-row.was)

pub returns : goal.returns
returns c =
    select_accepted _ _ _ _ _ _ _ c.new-session.ensures _ _ c.text.ensures.met _ c.in_ok-row.was _ _ c.select.ensures
