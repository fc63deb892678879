-- `bench_order` meets its contract.
use Rattle.std.proofs.Common.{arith}
use mathlib.Core.Path.{ap, ◌∙◌}
use Rattle.bench_select.proofs.Orders.{order_least}
use Rattle.bench_select.proofs.bench_order.Goals as goal

pub overflow_cast-result : goal.overflow_cast-result
overflow_cast-result c =
    let v = order_least _ _ _ _ (c.value.ensures ∙ ap (λ a. a.value) c.order_on-answer.ensures) in omega (arith, v)

pub returns : goal.returns
returns c = c.value.ensures ∙ ap (λ a. a.value) c.order_on-answer.ensures
