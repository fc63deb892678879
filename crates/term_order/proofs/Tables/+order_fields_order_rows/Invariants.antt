-- `order_fields` and `order_rows` meet their contracts: a measure, the row of the left, and the ways of Rows.antt and
-- of Compared.antt.
use Prim.Native.Nat.{◌+◌, ◌*◌}
use Rattle.term_order.proofs.Tables.+order_fields_order_rows.Given as goal

abbrev pub decreases-order_fields : goal.decreases-order_fields
decreases-order_fields l = 2 * l.rows.0

abbrev pub decreases-order_rows : goal.decreases-order_rows
decreases-order_rows l = 2 * l.rows.0 + 1
