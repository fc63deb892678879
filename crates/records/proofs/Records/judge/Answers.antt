-- `Records::judge` meets its contract.
use mathlib.Core.Path.{sym, ◌∙◌}
use native.Mathlib.Omega.{arith}
use borrow.Author.Tests.{not-true, not-false}
use Rattle.records.proofs.Judged.{not_the_next, no_path, no_fit, all_full, is_recorded}
use Rattle.records.proofs.Records.judge.Goals as goal

pub returns-then-from-due : goal.returns-then-from-due
returns-then-from-due c =
    not_the_next _ _ _ c.args.given c.from-due.result (c.from-due.ensures ∙ c.current-highest.ensures)
    (λ e. c.if-from-due.true (omega arith))

pub returns-then-not-is_held_path : goal.returns-then-not-is_held_path
returns-then-not-is_held_path c =
    no_path _ _ _ _ _ c.current-highest.ensures (omega arith)
    (sym c.is_held_path.ensures ∙ not-true _ c.if-not-is_held_path.true-raw)

pub returns-then-not-is_fit_step : goal.returns-then-not-is_fit_step
returns-then-not-is_fit_step c =
    no_fit _ _ _ _ _ c.current-highest.ensures (omega arith)
    (sym c.is_held_path.ensures ∙ not-false _ c.if-not-is_held_path.false-raw)
    _ c.row_of-previous.ensures
    (sym c.is_fit_step.ensures ∙ not-true _ c.if-not-is_fit_step.true-raw)

pub returns-then-is_full : goal.returns-then-is_full
returns-then-is_full c =
    all_full _ _ _ _ _ c.current-highest.ensures (omega arith)
    (sym c.is_held_path.ensures ∙ not-false _ c.if-not-is_held_path.false-raw)
    _ c.row_of-previous.ensures
    (sym c.is_fit_step.ensures ∙ not-false _ c.if-not-is_fit_step.false-raw)
    _ c.is_full.ensures c.if-is_full.true

pub returns : goal.returns
returns c =
    is_recorded _ _ _ _ _ c.current-highest.ensures (omega arith)
    (sym c.is_held_path.ensures ∙ not-false _ c.if-not-is_held_path.false-raw)
    _ c.row_of-previous.ensures
    (sym c.is_fit_step.ensures ∙ not-false _ c.if-not-is_fit_step.false-raw)
    _ c.is_full.ensures c.if-is_full.false
