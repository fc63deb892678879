-- `term_in_place` meets its contract: the row is written just where it is held.
use Prim.Native.Nat.{◌*◌, min}
use mathlib.Core.Path.{◌≡◌, sym, ap}
use native.Mathlib.Omega.{arith}
use lib.ListN.{length}
use borrow.Author.Rules.{rules}
use Rattle.terms.specs.Row.{row_width, max_rows}
use Rattle.calls.proofs.Tables.{rows_held_lem}
use Rattle.calls.proofs.TermJudged.{term_accepted}
use Rattle.call_answers.proofs.term.term_in_place.Goals as goal

pub put_record-requires : goal.put_record-requires
put_record-requires c =
    let a = c.args in
    let judged = rw c.first_rows.ensures at c.in_ok-number.ensures in
    let room = (term_accepted _ _ (sym (ap (λ t. t.number) judged))).room in
    let size : length a.rows.now ≡ row_width * max_rows = search rules in
    omega (arith, room, size, rows_held_lem a.rows.now (min a.n max_rows) (omega arith) size)
