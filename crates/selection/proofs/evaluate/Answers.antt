-- `selection::evaluate` meets its contract, test by test.
use native.Mathlib.Omega.{arith}
use mathlib.Core.Path.{◌≡◌, refl}
use Rattle.std.specs.Prelude.{Err}
use Rattle.common.proofs.Errors.{err_is}
use Rattle.selection.specs.declared.EvaluationError.TheVariants.{LimitPassed}
use Rattle.selection.proofs.Outcome.{too_short, passed, copied}
use Rattle.selection.proofs.evaluate.Goals as goal

pub returns-then-marks-n : goal.returns-then-marks-n
returns-then-marks-n c = too_short _ _ _ _ _ _ c.args.document.prepared.few (omega arith)

pub returns-in_err-visits : goal.returns-in_err-visits
returns-in_err-visits c =
    let z = c.in_err-visits.ensures in
    let v = rw z.ok_part at z.value in
    let e : c.from_residual.result ≡ Err LimitPassed = cc (err_is c.from_residual.result c.from_residual.ensures.1) in
    rw e
    (passed _ _ _ _ _ _ c.args.document.prepared.few (omega (arith, c.node_count-n.ensures)) _ c.row_count.ensures
    (rw z.ok_part at c.eval_path.ensures))

pub returns : goal.returns
returns c =
    let z = c.in_ok-visits.ensures in
    rw c.copy_from_slice.ensures.after
    (copied _ _ _ _ _ _ c.args.document.prepared.few (omega (arith, c.node_count-n.ensures)) _ c.row_count.ensures
    _ (rw z.ok_part at c.eval_path.ensures) _ _ c.node_count-n.ensures refl)
