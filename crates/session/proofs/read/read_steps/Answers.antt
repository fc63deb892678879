-- `read_steps` meets its contract. The loop's invariant:
-- the reading is what is left to read from `at` on, on the steps held now, and what is noted is so.
use Prim.Native.Nat.{◌*◌, ◌<◌}
use mathlib.Core.Path.{◌≡◌, sym, ap, ◌∙◌}
use native.Mathlib.Omega.{arith}
use lib.Seq.{sets}
use Rattle.common.proofs.Results.{none_by_ok_or}
use Rattle.lines.specs.private.NumbersRead.{LineMet}
use Rattle.calls.specs.Book.{step_numbers, step_of_numbers, max_steps, book}
use Rattle.calls.specs.Promises.{row_step_answer}
use Rattle.calls.specs.represent.Answers.{answer_of}
use Rattle.calls.specs.represent.Tables.{step_width, first_rows, first_steps}
use Rattle.common.proofs.Errors.{err_is}
use Rattle.calls.proofs.Accepted.{ok_accepted, err_refused}
use Rattle.session.proofs.LineCalls.{refused_by_map_err}
use Rattle.session.proofs.LineCalls.{step_end, step_wrong_there, step_refused_there, step_held_there, step_room}
use borrow.Author.Rules.{rules}
use Rattle.session.proofs.read.read_steps.Goals as goal
use Rattle.session.proofs.read.read_steps.Goals.{After-judge_noted}

-- the line's numbers
line_met : (c : After-judge_noted) → let text = c.in_ok-text.text in
    LineMet step_width c.args.bytes.now c.loop-at.at text.numbers text.next
line_met c = rw c.in_ok-text.ensures.ok_part at c.numbers_line.ensures

-- the answer of its call on the rows and steps held
answered : (c : After-judge_noted) → let rows = c.args.rows.now in let l = c.loop-at in
    answer_of c.judge_noted.result
    ≡ row_step_answer (book (first_rows rows.count rows.numbers) (first_steps l.m l.steps))
    (step_of_numbers c.in_ok-text.text.numbers)
answered c = rw (c.from-step.ensures, c.first-held.ensures.0, c.first-held.ensures.1) at c.judge_noted.ensures.0

-- an accepted call has room for its step
room : (c : After-judge_noted) → (answer_of c.judge_noted.result).number ≡ 0 → c.loop-at.m < max_steps
room c held =
    let l = c.loop-at in
    let rows = c.args.rows.now in
    step_room c.args.bytes.now rows.numbers rows.count l.steps l.m l.line l.at _ _ (line_met c) l.invariant.0
    c.judge_noted.result (answered c) held l.invariant.1

pub returns-in_err-text : goal.returns-in_err-text
returns-in_err-text c =
    let l = c.loop-at in
    let a = c.args in
    let (missing, at_line) = none_by_ok_or _ _ _ c.in_err-text.ensures.value in
    let wrong = step_wrong_there a.bytes.now a.rows.now.numbers a.rows.now.count l.steps l.m l.line l.at
    c.loop-at-test.true (rw missing at c.numbers_line.ensures) in
    let e = err_is c.from_residual.result c.from_residual.ensures.1 in
    rw (e, at_line, c.wrong_form.ensures) (record { reading = sym (l.invariant.4 ∙ wrong); bounds = tt })

pub returns-in_err-map_err : goal.returns-in_err-map_err
returns-in_err-map_err c =
    let line = (goal.at.returns-in_err-map_err c).After-judge_noted in
    let judged = c.judge_noted in
    let l = c.loop-at in
    let a = c.args in
    let refuses = sym c.in_err-map_err.ensures.variant in
    let told = refused_by_map_err judged.result l.line c.in_err-map_err.field-0.0 _ _ c.in_err-map_err.ensures.cases
    refuses (λ k h. search rules) in
    let refused = step_refused_there a.bytes.now a.rows.now.numbers a.rows.now.count l.steps l.m l.line l.at
    _ _ (line_met line) l.invariant.0 judged.result (answered line) (err_refused _ judged.result refuses) in
    rw (err_is c.from_residual-in_err-map_err.result c.from_residual-in_err-map_err.ensures.1)
    (record { reading = told ∙ sym (l.invariant.4 ∙ refused); bounds = tt })

pub put_record-requires : goal.put_record-requires
put_record-requires c =
    let line = (goal.at.put_record-requires c).After-judge_noted in
    let more = room line (ok_accepted _ c.judge_noted.result (sym c.in_ok-map_err.ensures.variant)) in
    omega (arith, more, c.loop-at.invariant.1)

pub loop-at-preserved : goal.loop-at-preserved
loop-at-preserved c =
    let line = (goal.at.loop-at-preserved c).After-judge_noted in
    let judged = c.judge_noted in
    let l = c.loop-at in
    let a = c.args in
    let held = ok_accepted _ judged.result (sym c.in_ok-map_err.ensures.variant) in
    let bounds = (line_met line).right in
    let more = room line held in
    let written = ap (λ q. sets l.steps (step_width * l.m) (step_numbers q)) c.from-step.ensures in
    let later = step_held_there a.bytes.now a.rows.now.numbers a.rows.now.count l.steps l.m l.line l.at
    _ _ (line_met line) l.invariant.0 judged.result (answered line) held _
    (c.put_record.ensures ∙ rw c.into.ensures written) in
    let noted = rw c.first-held.ensures.0 at judged.ensures.1 in
    (omega arith, omega arith, omega arith, omega arith, l.invariant.4 ∙ later, noted, search rules)

pub returns : goal.returns
returns c =
    let l = c.loop-at in
    let a = c.args in
    let end = step_end a.bytes.now a.rows.now.numbers a.rows.now.count l.steps l.m l.line l.at c.loop-at-test.false
    l.invariant.0 l.invariant.1 in
    record { reading = sym (l.invariant.4 ∙ end); bounds = l.invariant.0 }
