-- `file` meets its contract.
use Rattle.common.proofs.Errors.{err_is}
use Rattle.script_bundle.proofs.CallLaws.{file_refused, file_written}
use Rattle.script_bundle.proofs.file.Goals as goal

pub returns-in_err-make_lines : goal.returns-in_err-make_lines
returns-in_err-make_lines c =
    let a = c.args in
    rw (err_is c.from_residual.result c.from_residual.ensures.1)
    (file_refused a.script.now a.out.now _ c.make_lines.new.filed.session c.in_err-make_lines.ensures)

pub returns-in_err-length : goal.returns-in_err-length
returns-in_err-length c =
    let a = c.args in
    let exit = c.from_residual-in_err-length in
    rw (err_is exit.result exit.ensures.1)
    (file_written a.script.now a.out.now _ c.in_ok-make_lines.ensures _ _ c.in_err-length.ensures)

pub returns : goal.returns
returns c =
    let a = c.args in
    file_written a.script.now a.out.now _ c.in_ok-make_lines.ensures _ _ c.in_ok-length.ensures
