-- The values of orders fit their types.
use Prim.Native.Nat.{ℕ, ◌≤◌}
use mathlib.Core.Path.{◌≡◌}
use mathlib.Core.Bool.{Bool, true, false, cond}
use native.Mathlib.Omega.{arith}
use lib.Dec.{leb}
use mathlib.Core.List.{List}
use lib.ListN.{length}
use Rattle.terms.specs.Row.{Row}
use Rattle.calls.specs.Book.{Book, Answer, answer}
use Rattle.term_order.specs.Order.{Order, less, equal, greater}
use Rattle.term_order.specs.OrderCall.{order_value, order_answer, bundle_order_answer}

order_value_least : (o : Order) → order_value o ≤ 2
order_value_least less = omega arith
order_value_least equal = omega arith
order_value_least greater = omega arith

either_least : (b : Bool) (x y : Answer) → x.value ≤ 2 → y.value ≤ 2 → (cond b x y).value ≤ 2
either_least true x y h k = h
either_least false x y h k = k

-- sides 1 and 2, and the orders 0 to 2
pub order_least : (rs : List Row) (i : ℕ) (ss : List Row) (j : ℕ) {v : ℕ} → v ≡ (order_answer rs i ss j).value → v ≤ 2
unfolding order_answer
order_least rs i ss j e =
    let h = either_least (leb (length rs) i) (answer 5 1) _ (omega arith)
    (either_least (leb (length ss) j) (answer 5 2) _ (omega arith) (order_value_least _)) in
    rw e h

pub bundle_order_least : (b c : Book) {v : ℕ} → v ≡ (bundle_order_answer b c).value → v ≤ 2
unfolding bundle_order_answer
bundle_order_least b c e = rw e (order_value_least _)
