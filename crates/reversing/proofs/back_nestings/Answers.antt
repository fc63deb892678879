-- `back_nestings` meets its contract. The invariant: the table's first i numbers are the nestings of the ways back of
-- the first i rows.
use native.Mathlib.Omega.{arith}
use borrow.Author.Rules.{rules}
use Rattle.terms.specs.Row.{table_of}
use Rattle.reversing.proofs.Made.{back_entry, nestings_put}
use Rattle.reversing.proofs.back_nestings.Goals as goal

pub loop-i-preserved : goal.loop-i-preserved
loop-i-preserved c =
    let rs = table_of c.args.rows.now in
    let t = c.loop-i in
    let e =
    back_entry rs c.args.kept.now c.requires.nested _ _ t.invariant.1 _ _ c.row_at.ensures _ c.back_nesting.ensures in
    (search rules, nestings_put rs t.table t.i _ (omega arith) (omega arith) t.invariant.1 e)
