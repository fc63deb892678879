-- `bundle_order_on` meets its contract. The loop's invariant: the order is that of the steps that are left, and what is
-- noted is so.
use Prim.Native.Nat.{◌<◌}
use mathlib.Core.Path.{◌≡◌, refl, sym, ap, ap₂, ◌∙◌}
use mathlib.Core.List.{[]}
use native.Mathlib.Omega.{arith}
use lib.ListN.{length}
use Rattle.std.proofs.lemmas.List.{length_push}
use Rattle.std.proofs.lemmas.Slice.Zip.{zip_turn, zip_end}
use Rattle.terms.specs.Row.{table_of, max_rows}
use Rattle.calls.specs.Book.{answer}
use Rattle.calls.specs.represent.Tables.{steps_of}
use Rattle.term_order.specs.BundleOrder.{term_step, step_order, term_steps, bundle_order}
use Rattle.term_order.specs.OrderCall.{order_value, bundle_order_answer}
use Rattle.term_order.proofs.Compared.{number_of_order, none_noted, numbers_compared}
use Rattle.term_order.specs.private.FieldsCompared.{order_of}
use Rattle.term_order.proofs.Steps.{at, step_there, steps_there, step_decides, step_passes, ends}
use Rattle.term_order.proofs.bundle_order_on.Goals as goal
use Rattle.term_order.proofs.bundle_order_on.Goals.{After-order_steps-order}

pub loop-p-init : goal.loop-p-init
loop-p-init c = (none_noted (table_of c.args.left.rows.now) (table_of c.args.right.rows.now) max_rows, refl)

-- the steps compared stand at this place of both bundles
compared : (c : After-order_steps-order) → let k = length c.loop-p.yielded in
    let a = c.args in
    let us = steps_of a.left.steps.now in
    let vs = steps_of a.right.steps.now in
    (k < length us) × (k < length vs)
    × (order_of c.order_steps-order.result ≡ at (table_of a.left.rows.now) (table_of a.right.rows.now) us vs k)
compared c =
    let a = c.args in
    let rs = table_of a.left.rows.now in
    let ss = table_of a.right.rows.now in
    let ps = c.whole_steps-ps.result.now in
    let qs = c.whole_steps-qs.result.now in
    let us = steps_of a.left.steps.now in
    let vs = steps_of a.right.steps.now in
    let l = c.loop-p in
    let lefts = steps_there ps us c.whole_steps-ps.ensures in
    let rights = steps_there qs vs c.whole_steps-qs.ensures in
    let t =
    zip_turn ps qs l.yielded c.into_iter-p-iterator.result l.p-iterator c.next.new.self c.next.result (cc) (cc)
    l.yielded_by
    (c.in-Some.p, c.in-Some.q) c.in-Some.is c.next.ensures.steps in
    let k = length l.yielded in (
      omega (arith, t.0, lefts),
      omega (arith, t.1, rights),
      c.order_steps-order.ensures.answer
          ∙ ap₂ (λ p q. step_order (term_step rs p) (term_step ss q))
          (step_there ps us k c.from.ensures (t.2 []) c.whole_steps-ps.ensures)
          (step_there qs vs k c.from-in-loop-p.ensures (t.3 []) c.whole_steps-qs.ensures),
    )

pub returns-then-is_ne : goal.returns-then-is_ne
unfolding bundle_order_answer bundle_order term_steps
returns-then-is_ne c =
    let found = compared (goal.at.returns-then-is_ne c).After-order_steps-order in
    ap (answer 0)
    (number_of_order c.order_steps-order.result
    ∙ ap order_value (step_decides _ _ _ _ _ found.0 found.1 c.order_steps-order.result found.2
    (sym c.is_ne.ensures ∙ c.if-is_ne.true) ∙ sym c.loop-p.invariant.1))

pub loop-p-preserved : goal.loop-p-preserved
loop-p-preserved c =
    let l = c.loop-p in
    let found = compared (goal.at.loop-p-preserved c).After-order_steps-order in
    rw (length_push l.yielded (c.in-Some.p, c.in-Some.q)) (
      c.order_steps-order.ensures.noted,
      l.invariant.1
          ∙ step_passes _ _ _ _ _ found.0 found.1 c.order_steps-order.result found.2
          (sym c.is_ne.ensures ∙ c.if-is_ne.false),
    )

pub returns : goal.returns
unfolding bundle_order_answer bundle_order term_steps
returns c =
    let a = c.args in
    let rs = table_of a.left.rows.now in
    let ss = table_of a.right.rows.now in
    let ps = c.whole_steps-ps.result.now in
    let qs = c.whole_steps-qs.result.now in
    let us = steps_of a.left.steps.now in
    let vs = steps_of a.right.steps.now in
    let l = c.loop-p in
    let lefts = steps_there ps us c.whole_steps-ps.ensures in
    let rights = steps_there qs vs c.whole_steps-qs.ensures in
    let t =
    zip_end ps qs l.yielded c.into_iter-p-iterator.result l.p-iterator c.next.new.self c.next.result (cc) (cc)
    l.yielded_by c.in-None.is c.next.ensures.steps in
    let compared = numbers_compared (length ps) (length qs) c.cmp.ensures lefts rights in
    ap (answer 0)
    (number_of_order c.cmp.result
    ∙ ap order_value (compared ∙ ends rs ss us vs (length l.yielded) (omega (arith, t, lefts, rights))
    ∙ sym l.invariant.1))
