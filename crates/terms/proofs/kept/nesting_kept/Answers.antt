-- `nesting_kept` meets its contract.
use mathlib.Core.Path.{refl, sym}
use native.Mathlib.Omega.{arith}
use lib.Seq.{length-take-le}
use Rattle.terms.specs.Row.{table_of}
use Rattle.terms.proofs.Nesting.{nesting_from, deeper_le}
use Rattle.terms.proofs.RowsKept.{nested_few}
use Rattle.terms.proofs.kept.nesting_kept.Goals as goal

pub slice_bounds-deeper_operand-end : goal.slice_bounds-deeper_operand-end
slice_bounds-deeper_operand-end c =
    sym (length-take-le c.row_count.result c.args.nestings.now
    (omega (arith, c.requires.size, nested_few _ _ c.requires)))

pub overflow_add-result : goal.overflow_add-result
overflow_add-result c =
    let l =
    deeper_le (table_of c.args.rows.now) _ _ _ _ (rw c.row_count.ensures c.requires.entries)
    refl
    c.deeper_operand.ensures in
    omega (arith, l, nested_few _ _ c.requires)

pub returns : goal.returns
returns c =
    nesting_from (table_of c.args.rows.now) _ _ _ _ (rw c.row_count.ensures c.requires.entries)
    refl c.deeper_operand.ensures
