-- `bench_bundle_order` meets its contract.
use Rattle.std.proofs.Common.{arith}
use mathlib.Core.Path.{ap, ◌∙◌}
use Rattle.bench_select.proofs.Orders.{bundle_order_least}
use Rattle.bench_select.proofs.bench_bundle_order.Goals as goal

pub overflow_cast-result : goal.overflow_cast-result
overflow_cast-result c =
    let v = bundle_order_least _ _ (c.value.ensures ∙ ap (λ a. a.value) c.bundle_order_on-answer.ensures) in
    omega (arith, v)

pub returns : goal.returns
returns c = c.value.ensures ∙ ap (λ a. a.value) c.bundle_order_on-answer.ensures
