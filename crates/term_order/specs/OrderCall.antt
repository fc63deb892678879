-- The calls order and bundle order: their answers.
use Rattle.std.specs.Prelude.{ℕ, cond, List, leb, length}
use Rattle.terms.specs.Row.{Row}
use Rattle.terms.specs.Terms.{term_at}
use Rattle.calls.specs.Book.{Book, Answer, answer}
use Rattle.common.specs.Refusals.{bad_side}
use Rattle.term_order.specs.Order.{Order, less, equal, greater}
use Rattle.term_order.specs.TermOrder.{term_order}
use Rattle.term_order.specs.BundleOrder.{bundle_order}

-- 0 for less, 1 for equal, 2 for greater
abbrev pub order_value : Order → ℕ
order_value less = 0
order_value equal = 1
order_value greater = 2

-- row i of rs and row j of ss: 5 for a row that is not held, left (1) or right (2); else the order of their terms
unfoldable pub order_answer : List Row → (i : ℕ) → List Row → (j : ℕ) → Answer
order_answer rs i ss j =
    cond (leb (length rs) i) (answer bad_side 1)
    (cond (leb (length ss) j) (answer bad_side 2)
    (answer 0 (order_value (term_order (term_at rs i) (term_at ss j)))))

unfoldable pub bundle_order_answer : Book → Book → Answer
bundle_order_answer b c = answer 0 (order_value (bundle_order b c))
