-- `bundle_order_on` meets its contract. The loop's invariant: the order is that of the steps that are left, and what is
-- noted is so.
use mathlib.Core.Path.{◌≡◌}
use lib.ListN.{length}
use Rattle.terms.specs.Row.{table_of}
use Rattle.calls.specs.represent.Tables.{steps_of}
use Rattle.term_order.specs.private.FieldsCompared.{Noted}
use Rattle.term_order.proofs.Steps.{from}
use Rattle.term_order.proofs.bundle_order_on.Given as goal

abbrev pub invariant-loop-p : goal.invariant-loop-p
invariant-loop-p l =
    let rs = table_of l.left.rows.now in
    let ss = table_of l.right.rows.now in
    let order = from rs ss (steps_of l.left.steps.now) (steps_of l.right.steps.now) in
    Noted rs ss l.noted × (order 0 ≡ order (length l.yielded))
