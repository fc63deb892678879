-- `read_in` meets its contract: one law for each answer.
use native.Mathlib.Omega.{arith}
use borrow.Author.Tests.{not-true, not-false}
use Rattle.common.proofs.Errors.{err_is}
use Rattle.selector_reader.proofs.TextLaws.{text_failed, text_longer, text_unlisted, text_deep, text_full, text_held}
use Rattle.selector_reader.proofs.read_in.Goals as goal

pub returns-in_err-got : goal.returns-in_err-got
returns-in_err-got c =
    rw (err_is c.from_residual.result c.from_residual.ensures.1)
    (text_failed _ _ _ _ c.requires.sized _ _ c.nothing_read-start.ensures c.read_union.result c.read_union.ensures
    _ c.in_err-got.ensures.cases)

pub returns-then-got-selector : goal.returns-then-got-selector
returns-then-got-selector c =
    text_longer _ _ _ _ c.requires.sized _ _ c.nothing_read-start.ensures c.read_union.result c.read_union.ensures
    _ c.in_ok-got.ensures.cases (omega (arith, c.if-got-selector.true))

pub returns-in-Some : goal.returns-in-Some
returns-in-Some c =
    text_unlisted _ _ _ _ c.requires.sized _ _ c.nothing_read-start.ensures c.read_union.result c.read_union.ensures
    _ c.in_ok-got.ensures.cases (omega (arith, c.if-got-selector.false)) c.in-Some.place c.in-Some.is

pub returns-then-got-gt-MAX_NESTING : goal.returns-then-got-gt-MAX_NESTING
returns-then-got-gt-MAX_NESTING c =
    text_deep _ _ _ _ c.requires.sized _ _ c.nothing_read-start.ensures c.read_union.result c.read_union.ensures
    _ c.in_ok-got.ensures.cases (omega (arith, c.if-got-selector.false)) c.in_default.is
    (omega (arith, c.if-got-gt-MAX_NESTING.true))

pub returns-then-not-got : goal.returns-then-not-got
returns-then-not-got c =
    text_full _ _ _ _ c.requires.sized _ _ c.nothing_read-start.ensures c.read_union.result c.read_union.ensures
    _ c.in_ok-got.ensures.cases (omega (arith, c.if-got-selector.false)) c.in_default.is
    (omega (arith, c.if-got-gt-MAX_NESTING.false)) (not-true _ c.if-not-got.true)

pub returns : goal.returns
returns c =
    text_held _ _ _ _ c.requires.sized _ _ c.nothing_read-start.ensures c.read_union.result c.read_union.ensures
    _ c.in_ok-got.ensures.cases (omega (arith, c.if-got-selector.false)) c.in_default.is
    (omega (arith, c.if-got-gt-MAX_NESTING.false)) (not-false _ c.if-not-got.false)
