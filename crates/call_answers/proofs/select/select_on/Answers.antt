-- `select_on` meets its contract, test by test in the order of the definition.
use borrow.Author.Tests.{tests}
use Rattle.std.proofs.Common.{rules}
use mathlib.Core.Path.{refl, ◌∙◌}
use native.Mathlib.Omega.{arith}
use Rattle.common.proofs.Errors.{err_is}
use Rattle.call_answers.proofs.SelectJudged.{mistaken, prepared_by}
use Rattle.call_answers.proofs.SelectJudged.{bad_document, bad_context, bad_row_lem, select_evaluated}
use Rattle.call_answers.proofs.select.select_on.Goals as goal

pub returns-in_err-ends : goal.returns-in_err-ends
returns-in_err-ends c =
    rw (err_is c.from_residual.result c.from_residual.ensures.1)
    (bad_document _ _ _ _ _ _ _ c.check_document.ensures _ c.in_err-ends.ensures.cases)

pub returns-then-node_count-x : goal.returns-then-node_count-x
returns-then-node_count-x c =
    bad_context _ _ _ _ _ _ _ c.check_document.ensures _ c.in_ok-ends.ensures.cases (omega arith)

pub returns-then-not-is_held_path : goal.returns-then-not-is_held_path
returns-then-not-is_held_path c =
    bad_row_lem _ _ _ _ _ _ _ c.check_document.ensures _ c.in_ok-ends.ensures.cases (omega arith)
    (search (rules, tests))

pub invariant_of-document : goal.invariant_of-document
invariant_of-document c = record {
  prepared = prepared_by _ _ c.check_document.ensures _ c.in_ok-ends.ensures.cases;
}

pub returns-in_err-visits : goal.returns-in_err-visits
returns-in_err-visits c =
    rw (err_is c.from_residual-in_err-visits.result c.from_residual-in_err-visits.ensures.1)
    (select_evaluated _ _ _ _ _ _ _ c.check_document.ensures _ c.in_ok-ends.ensures.cases (omega arith)
    (search (rules, tests)) _ _ _ (mistaken _) (c.in_err-visits.ensures ∙ rw (c.from.ensures, c.from-x.ensures)))

pub returns : goal.returns
returns c =
    select_evaluated _ _ _ _ _ _ _ c.check_document.ensures _ c.in_ok-ends.ensures.cases (omega arith)
    (search (rules, tests)) _ _ _ refl (c.in_ok-visits.ensures ∙ rw (c.from.ensures, c.from-x.ensures))
