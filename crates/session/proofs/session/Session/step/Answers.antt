-- `Session::step` meets its contract: the step is written, and the count grows, just where the step is held.
use Prim.Native.Nat.{◌*◌, min}
use mathlib.Core.Path.{◌≡◌, refl, sym, ap, ◌∙◌}
use native.Mathlib.Omega.{arith}
use lib.ListN.{length}
use Rattle.std.specs.Prelude.{Ok, Err}
use Rattle.common.proofs.Errors.{err_is}
use Rattle.common.proofs.Refusals.{refusal_some}
use Rattle.calls.specs.Book.{max_steps}
use Rattle.calls.specs.represent.Tables.{step_width}
use Rattle.calls.specs.Promises.{row_step_answer}
use Rattle.calls.proofs.Tables.{steps_held_lem}
use Rattle.calls.proofs.StepJudged.{step_accepted}
use Rattle.session.specs.represent.Tables.{tables_in}
use Rattle.session.proofs.session.StepMade.{step_made_held, step_made_refused}
use borrow.Author.Rules.{rules}
use Rattle.session.proofs.session.Session.step.Goals as goal

pub put_record-requires : goal.put_record-requires
unfolding row_step_answer
put_record-requires c =
    let s = tables_in c.self.inside in
    let told = rw (c.held.ensures.0, c.held.ensures.1, ← c.self.view_is) at c.in_ok-number.ensures in
    let count = rw (← c.self.view_is) at c.steps_counted-m.ensures in
    let size : length s.steps ≡ step_width * max_steps = search rules in
    let room = (step_accepted _ _ _ (sym (ap (λ t. t.number) told))).room in
    let all = steps_held_lem s.steps (min s.step_count max_steps) (omega arith) size in
    omega (arith, room, size, count, all)

pub returns-in_err-number-clause-met : goal.returns-in_err-number-clause-met
returns-in_err-number-clause-met c =
    let told = rw (c.held.ensures.0, c.held.ensures.1) at c.in_err-number.ensures in
    rw (err_is c.from_residual.result c.from_residual.ensures.1)
    (step_made_refused c.args.self.now _ (Err c.in_err-number.field-0.0) told (refusal_some _))

pub returns-clause-met : goal.returns-clause-met
returns-clause-met c =
    let told = rw (c.held.ensures.0, c.held.ensures.1, ← c.self.view_is) at c.in_ok-number.ensures in
    let count = rw (← c.self.view_is) at c.steps_counted-m.ensures in
    rw (← c.self.view_is)
    (step_made_held (tables_in c.self.inside) _ (Ok c.in_ok-number.number) told refl
    _ count _ (c.put_record.ensures ∙ rw c.into.ensures refl))
