-- `select_all` meets its contract.
use Rattle.std.proofs.Common.{ℕ, ◌≡◌, List, length, refl, sym, ap, ◌∙◌, arith}
use lib.ListN.{take}
use Rattle.std.proofs.Math.Seq.{take-length}
use Rattle.terms.specs.Row.{Row, table_of}
use Rattle.terms.specs.Terms.{term_at}
use Rattle.set_selection.proofs.evaluation.select_all.Goals as goal

pub returns : goal.returns
unfolding term_at
returns c =
    let e : take c.row_count-count.result (table_of c.args.rows.now) ≡ table_of c.args.rows.now =
    ap (λ (n : ℕ). take n (table_of c.args.rows.now)) c.row_count-count.ensures ∙ take-length
    (table_of c.args.rows.now) in
    rw (e, c.deref.ensures.value, c.deref-2.ensures.value, c.deref-3.ensures.value) at c.select.ensures.found
