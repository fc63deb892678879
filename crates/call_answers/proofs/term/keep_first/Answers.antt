-- `keep_first` meets its contract: a row that stands in the table is put where it stands.
use Prim.Native.Nat.{◌*◌}
use mathlib.Core.Path.{◌≡◌, ap, ◌∙◌}
use native.Mathlib.Omega.{arith}
use lib.ListN.{length}
use lib.Seq.{sets}
use borrow.Author.Rules.{rules}
use Rattle.terms.specs.Row.{row_width, row_numbers, table_of, max_rows}
use Rattle.terms.proofs.RowsKept.{none_kept}
use Rattle.call_answers.proofs.RowsThere.{row_there}
use Rattle.call_answers.proofs.term.keep_first.Goals as goal

pub invariant_of-held : goal.invariant_of-held
unfolding table_of
invariant_of-held c =
    let k = c.args.held.now.kept in
    record { few = omega arith; kept = none_kept _ _ k.nested.size k.filtered.size }

pub loop-held-preserved : goal.loop-held-preserved
loop-held-preserved c =
    let l = c.loop-held in
    let size : length l.held.numbers ≡ row_width * max_rows = search rules in
    let there = row_there l.held.count l.held.numbers (omega (arith, size)) in
    let same = ap (λ r. sets l.held.numbers (row_width * l.held.count) (row_numbers r)) c.row_at-there.ensures in
    (c.put.ensures.0 ∙ same ∙ there ∙ l.invariant.0, omega arith)
