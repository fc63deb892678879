-- `selection` meets its contract.
use mathlib.Core.Path.{refl}
use Rattle.script.specs.declared.words.Word.TheVariants.{Select}
use Rattle.script.specs.Words.{Selection}
use Rattle.script.specs.Words.{shape_of}
use Rattle.script.proofs.Calls.{no_numbers_call, numbers_call}
use Rattle.script.proofs.Selects.{no_row, no_context, no_limit, no_marks, all_four}
use Rattle.script.proofs.selection.Goals as goal

pub returns-in_err-row : goal.returns-in_err-row
unfolding shape_of
returns-in_err-row c =
    let a = c.args in
    rw c.from_residual.ensures
    (no_numbers_call Select Selection refl a.bytes.now a.at (no_row a.bytes.now a.at c.in_err-row.ensures))

pub returns-in_err-context : goal.returns-in_err-context
unfolding shape_of
returns-in_err-context c =
    let a = c.args in
    rw c.from_residual-in_err-context.ensures
    (no_numbers_call Select Selection refl a.bytes.now a.at
    (no_context a.bytes.now a.at _ _ c.in_ok-row.ensures c.in_err-context.ensures))

pub returns-in_err-limit : goal.returns-in_err-limit
unfolding shape_of
returns-in_err-limit c =
    let a = c.args in
    rw c.from_residual-in_err-limit.ensures
    (no_numbers_call Select Selection refl a.bytes.now a.at
    (no_limit a.bytes.now a.at _ _ c.in_ok-row.ensures _ _ c.in_ok-context.ensures c.in_err-limit.ensures))

pub returns-in_err-marks : goal.returns-in_err-marks
unfolding shape_of
returns-in_err-marks c =
    let a = c.args in
    rw c.from_residual-in_err-marks.ensures
    (no_numbers_call Select Selection refl a.bytes.now a.at
    (no_marks a.bytes.now a.at _ _ c.in_ok-row.ensures _ _ c.in_ok-context.ensures _ _ c.in_ok-limit.ensures
    c.in_err-marks.ensures))

pub returns : goal.returns
unfolding shape_of
returns c =
    let a = c.args in
    let m = all_four a.bytes.now a.at _ _ c.in_ok-row.ensures _ _ c.in_ok-context.ensures _ _ c.in_ok-limit.ensures
    _ _ c.in_ok-marks.ensures in
    numbers_call Select Selection refl a.bytes.now a.at _ _ m _ refl
