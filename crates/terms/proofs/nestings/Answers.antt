-- `nestings`. The invariant: the table's first i numbers are the nestings of the first i rows.
use native.Mathlib.Omega.{arith}
use lib.ListN.{take, length-take}
use Rattle.terms.specs.Row.{table_of}
use Rattle.terms.proofs.Nesting.{nesting_from, deeper_le, nestings_put}
use borrow.Author.Rules.{rules}
use Rattle.terms.proofs.nestings.Goals as goal

pub overflow_add-table : goal.overflow_add-table
overflow_add-table c =
    let rs = table_of c.args.rows.now in
    let t = c.loop-i in
    let l =
    deeper_le (take t.i rs) (take t.i t.table) _ _ _ t.invariant.1 c.row_at.ensures
    c.deeper_operand.ensures in
    omega (arith, length-take t.i rs, l)

pub loop-i-preserved : goal.loop-i-preserved
loop-i-preserved c =
    let rs = table_of c.args.rows.now in
    let t = c.loop-i in
    let e =
    nesting_from (take t.i rs) (take t.i t.table) _ _ _ t.invariant.1 c.row_at.ensures
    c.deeper_operand.ensures in
    (search rules, nestings_put rs t.table t.i _ (omega arith) (omega arith) t.invariant.1 e)
