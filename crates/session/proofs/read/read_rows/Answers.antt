-- `read_rows` meets its contract. The loop's invariant: the reading is what is left to read from `at` on, on the rows
-- held now.
use mathlib.Core.Path.{◌≡◌, refl, sym, ap, ◌∙◌}
use native.Mathlib.Omega.{arith}
use Prim.Native.Nat.{◌+◌, ◌≤◌}
use mathlib.Core.Bool.{false}
use lib.ListN.{drop}
use Rattle.common.proofs.Results.{none_by_ok_or}
use Rattle.lines.specs.Line.{lines, first_is}
use Rattle.lines.specs.private.NumbersRead.{LineMet}
use Rattle.terms.specs.Row.{row_width, max_rows, row_of_numbers}
use Rattle.call_answers.specs.private.Placed.{TermKept}
use Rattle.common.proofs.Errors.{err_is}
use Rattle.calls.proofs.Accepted.{if_accepted, ok_accepted, err_refused}
use Rattle.session.specs.private.Parts.{refused_by}
use Rattle.session.proofs.LineCalls.{is_step_names, refused_by_map_err}
use Rattle.session.proofs.LineCalls.{names_there, row_end, row_wrong_there, row_refused_there, row_held_there}
use Rattle.lines.specs.Ascii.{ascii}
use Rattle.bundles.specs.Bundle.{step_names}
use borrow.Author.Rules.{rules}
use Rattle.session.proofs.read.read_rows.Goals as goal
use Rattle.session.proofs.read.read_rows.Goals.{After-numbers_line, After-term_kept}

-- the line is not the second names line
no_names : (c : After-numbers_line) → first_is step_names (lines (drop c.loop-at.at c.args.bytes.now)) ≡ false
unfolding step_names ascii
no_names c = sym (is_step_names _ _ c.if-is_line.ensures)

-- its numbers
line_met : (c : After-term_kept) → let text = c.in_ok-text.text in
    LineMet row_width c.args.bytes.now c.loop-at.at text.numbers text.next
line_met c = rw c.in_ok-text.ensures.ok_part at c.numbers_line.ensures

-- its call on the rows held
called : (c : After-term_kept) → let rows = c.loop-at.rows in
    TermKept rows.numbers rows.count (row_of_numbers c.in_ok-text.text.numbers) c.term_kept.new.held.numbers
    c.term_kept.new.held.count c.term_kept.result
called c = rw c.from-row.ensures at c.term_kept.ensures

pub returns-then-is_line : goal.returns-then-is_line
unfolding step_names ascii
returns-then-is_line c =
    let l = c.loop-at in
    let bytes = c.args.bytes.now in
    let names = sym (is_step_names _ _ c.if-is_line.ensures) in
    let (reading, inside) = names_there bytes l.rows.numbers l.rows.count l.line l.at names in
    record { reading = sym (l.invariant.2 ∙ reading); bounds = (omega arith, inside) }

pub returns-in_err-text : goal.returns-in_err-text
returns-in_err-text c =
    let l = c.loop-at in
    let (missing, at_line) = none_by_ok_or _ _ _ c.in_err-text.ensures.value in
    let other = no_names (goal.at.returns-in_err-text c).After-numbers_line in
    let wrong = row_wrong_there c.args.bytes.now l.rows.numbers l.rows.count l.line l.at other
    (rw missing at c.numbers_line.ensures) in
    let e = err_is c.from_residual.result c.from_residual.ensures.1 in
    rw (e, at_line, c.wrong_form.ensures) (record { reading = sym (l.invariant.2 ∙ wrong); bounds = tt })

pub returns-in_err-map_err : goal.returns-in_err-map_err
returns-in_err-map_err c =
    let l = c.loop-at in
    let line = (goal.at.returns-in_err-map_err c).After-term_kept in
    let other = no_names (goal.at.returns-in_err-map_err c).After-numbers_line in
    let few : l.rows.count ≤ max_rows = omega arith in
    let refuses = sym c.in_err-map_err.ensures.variant in
    let told = refused_by_map_err c.term_kept.result l.line c.in_err-map_err.field-0.0 _ _
    c.in_err-map_err.ensures.cases refuses (λ k h. search rules) in
    let refused =
    row_refused_there c.args.bytes.now l.rows.numbers l.rows.count l.line l.at other _ _ (line_met line) few _ _
    (called line).placed (err_refused _ c.term_kept.result refuses) in
    rw (err_is c.from_residual-in_err-map_err.result c.from_residual-in_err-map_err.ensures.1)
    (record { reading = told ∙ sym (l.invariant.2 ∙ refused); bounds = tt })

pub loop-at-preserved : goal.loop-at-preserved
loop-at-preserved c =
    let l = c.loop-at in
    let bytes = c.args.bytes.now in
    let line = (goal.at.loop-at-preserved c).After-term_kept in
    let other = no_names (goal.at.loop-at-preserved c).After-numbers_line in
    let met = line_met line in
    let few : l.rows.count ≤ max_rows = omega arith in
    let held = ok_accepted _ c.term_kept.result (sym c.in_ok-map_err.ensures.variant) in
    let bounds = met.right in
    let placed = (called line).placed in
    let next = row_held_there bytes l.rows.numbers l.rows.count l.line l.at other _ _ met few _ _ placed held in
    let count : c.term_kept.new.held.count ≡ l.rows.count + 1 =
    (called line).count ∙ sym (if_accepted _ _ placed.answer (l.rows.count + 1) l.rows.count held) in
    (omega arith, omega arith, l.invariant.2 ∙ next ∙ rw count refl)

pub returns : goal.returns
returns c =
    let l = c.loop-at in
    let ended = row_end c.args.bytes.now l.rows.numbers l.rows.count l.line l.at c.loop-at-test.false in
    record { reading = ap refused_by c.wrong_form-2.ensures ∙ sym (l.invariant.2 ∙ ended); bounds = tt }
