-- `order_on` meets its contract: refusal 5 by the counts of rows, then the comparison, with nothing noted.
use mathlib.Core.Path.{ap, ◌∙◌}
use native.Mathlib.Omega.{arith}
use borrow.Author.Tests.{le-leb, lt-leb}
use lib.ListN.{length}
use Rattle.terms.specs.Row.{table_of, max_rows}
use Rattle.calls.specs.Book.{answer}
use Rattle.term_order.specs.OrderCall.{order_value, order_answer}
use Rattle.term_order.proofs.Compared.{number_of_order, none_noted}
use Rattle.term_order.proofs.order_on.Goals as goal

pub returns-then-row_count-from : goal.returns-then-row_count-from
unfolding order_answer
returns-then-row_count-from c = let a = c.args in rw (le-leb (length (table_of a.left.now)) a.i (omega arith))

pub returns-then-row_count-from-2 : goal.returns-then-row_count-from-2
unfolding order_answer
returns-then-row_count-from-2 c =
    let a = c.args in
    rw (
      lt-leb (length (table_of a.left.now)) a.i (omega arith),
      le-leb (length (table_of a.right.now)) a.j (omega arith),
    )

pub order_rows-requires : goal.order_rows-requires
order_rows-requires c = none_noted _ _ max_rows

pub returns : goal.returns
unfolding order_answer
returns c =
    let a = c.args in
    rw (
      lt-leb (length (table_of a.left.now)) a.i (omega arith),
      lt-leb (length (table_of a.right.now)) a.j (omega arith),
    )
    (ap (answer 0) (number_of_order c.order_rows.result ∙ ap order_value c.order_rows.ensures.answer))
