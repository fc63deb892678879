-- `KeptRows::new` meets its contract: of no rows, anything is kept.
use Prim.Native.Nat.{ℕ}
use mathlib.Core.Bool.{false}
use native.Mathlib.Omega.{arith}
use lib.ListN.{length-replicate}
use Rattle.terms.specs.Row.{table_of, max_rows}
use Rattle.terms.proofs.RowsKept.{none_kept}
use Rattle.terms.proofs.kept.KeptRows.new.Goals as goal

pub invariant_of-result : goal.invariant_of-result
unfolding table_of
invariant_of-result c =
    record {
      few = omega arith;
      kept = none_kept _ _ (length-replicate {A = ℕ} max_rows 0) (length-replicate 8192 false);
    }
