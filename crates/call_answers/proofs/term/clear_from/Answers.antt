-- `clear_from` meets its contract: of no rows, anything is kept.
use native.Mathlib.Omega.{arith}
use Rattle.terms.specs.Row.{table_of}
use Rattle.terms.proofs.RowsKept.{none_kept}
use Rattle.call_answers.proofs.term.clear_from.Goals as goal

pub invariant_of-held : goal.invariant_of-held
unfolding table_of
invariant_of-held c =
    let k = c.args.held.now.kept in
    record { few = omega arith; kept = none_kept _ _ k.nested.size k.filtered.size }
