-- `put_back` and `put_part` meet their contracts: the ways of RowsPut.antt.
use mathlib.Core.Path.{◌≡◌, sym, ap, ◌∙◌}
use mathlib.Core.Option.{none, some}
use native.Mathlib.Omega.{arith}
use Rattle.terms.specs.Row.{table_of, row_at}
use Rattle.terms.specs.represent.RowTypes.{row_of}
use Rattle.reversing.specs.private.RowsBack.{reversal, reversal_of}
use Rattle.reversing.specs.private.RowsPut.{part_of}
use Rattle.reversing.proofs.RowsPut as ways
use Rattle.reversing.proofs.+reversing.Goals as goal

pub put_back-returns-in-Some : goal.put_back-returns-in-Some
put_back-returns-in-Some t c =
    let a = c.args in
    ways.noted_back (table_of a.rows.now) a.i c.in-Some.j (a.held.now.numbers, a.held.now.count) a.noted.now c.requires
    (sym c.noted_at.ensures ∙ c.in-Some.is)

pub put_back-returns-in_default-reversal_of : goal.put_back-returns-in_default-reversal_of
put_back-returns-in_default-reversal_of t c =
    let a = c.args in
    let rs = table_of a.rows.now in
    let same : row_of c.row_at.result ≡ row_at rs a.i = c.row_at.ensures ∙ ap (row_at rs) c.from.ensures in
    let e : reversal_of (row_at rs a.i) ≡ none = ap reversal_of (sym same) ∙ sym c.in_default-reversal_of.ensures in
    ways.no_reversal rs a.i e (a.held.now.numbers, a.held.now.count) a.noted.now c.requires

pub put_back-returns-in_err-left : goal.put_back-returns-in_err-left
put_back-returns-in_err-left t c =
    let a = c.args in
    let rs = table_of a.rows.now in
    let made = c.in-Some-reversal_of.made in
    let same : row_of c.row_at.result ≡ row_at rs a.i = c.row_at.ensures ∙ ap (row_at rs) c.from.ensures in
    let e : reversal_of (row_at rs a.i) ≡ some (reversal made.kind (part_of made.left) (part_of made.right)) =
    ap reversal_of (sym same) ∙ sym c.in-Some-reversal_of.ensures in
    let u = c.put_part.new.held in
    rw c.from_residual.ensures
    (ways.left_full rs a.i made.kind (part_of made.left) (part_of made.right) e (a.held.now.numbers, a.held.now.count)
    (u.numbers, u.count) c.put_part.new.noted c.in_err-left.ensures)

pub put_back-returns-in_err-right : goal.put_back-returns-in_err-right
put_back-returns-in_err-right t c =
    let a = c.args in
    let rs = table_of a.rows.now in
    let made = c.in-Some-reversal_of.made in
    let same : row_of c.row_at.result ≡ row_at rs a.i = c.row_at.ensures ∙ ap (row_at rs) c.from.ensures in
    let e : reversal_of (row_at rs a.i) ≡ some (reversal made.kind (part_of made.left) (part_of made.right)) =
    ap reversal_of (sym same) ∙ sym c.in-Some-reversal_of.ensures in
    let u = c.put_part.new.held in
    let v = c.put_part-2.new.held in
    rw c.from_residual-in_err-right.ensures
    (ways.right_full rs a.i made.kind (part_of made.left) (part_of made.right) e (a.held.now.numbers, a.held.now.count)
    (u.numbers, u.count) c.put_part.new.noted c.in_ok-left.left c.in_ok-left.ensures (v.numbers, v.count)
    c.put_part-2.new.noted c.in_err-right.ensures)

pub put_back-returns-in_err-row : goal.put_back-returns-in_err-row
put_back-returns-in_err-row t c =
    let a = c.args in
    let rs = table_of a.rows.now in
    let made = c.in-Some-reversal_of.made in
    let same : row_of c.row_at.result ≡ row_at rs a.i = c.row_at.ensures ∙ ap (row_at rs) c.from.ensures in
    let e : reversal_of (row_at rs a.i) ≡ some (reversal made.kind (part_of made.left) (part_of made.right)) =
    ap reversal_of (sym same) ∙ sym c.in-Some-reversal_of.ensures in
    let u = c.put_part.new.held in
    let v = c.put_part-2.new.held in
    let w = c.put.new.held in
    rw c.from_residual-in_err-row.ensures
    (ways.row_full rs a.i made.kind (part_of made.left) (part_of made.right) e (a.held.now.numbers, a.held.now.count)
    (u.numbers, u.count) c.put_part.new.noted c.in_ok-left.left c.in_ok-left.ensures (v.numbers, v.count)
    c.put_part-2.new.noted c.in_ok-right.right c.in_ok-right.ensures (w.numbers, w.count) c.in_err-row.ensures)

pub put_back-returns : goal.put_back-returns
put_back-returns t c =
    let a = c.args in
    let rs = table_of a.rows.now in
    let made = c.in-Some-reversal_of.made in
    let same : row_of c.row_at.result ≡ row_at rs a.i = c.row_at.ensures ∙ ap (row_at rs) c.from.ensures in
    let e : reversal_of (row_at rs a.i) ≡ some (reversal made.kind (part_of made.left) (part_of made.right)) =
    ap reversal_of (sym same) ∙ sym c.in-Some-reversal_of.ensures in
    let u = c.put_part.new.held in
    let v = c.put_part-2.new.held in
    let w = c.put.new.held in
    ways.row_noted rs a.i made.kind (part_of made.left) (part_of made.right) e (a.held.now.numbers, a.held.now.count)
    (u.numbers, u.count) c.put_part.new.noted c.in_ok-left.left c.in_ok-left.ensures (v.numbers, v.count)
    c.put_part-2.new.noted c.in_ok-right.right c.in_ok-right.ensures (w.numbers, w.count) c.in_ok-row.row
    c.in_ok-row.ensures c.note.new.noted c.note.ensures

pub put_part-returns-in-Back : goal.put_part-returns-in-Back
put_part-returns-in-Back t c =
    let a = c.args in
    ways.earlier_part (table_of a.rows.now) a.i c.in-Back.p (part_of a.part) (ap part_of c.in-Back.is) c.if-p-i.true
    c.put_back.ensures

pub put_part-returns-in-Back-2 : goal.put_part-returns-in-Back-2
put_part-returns-in-Back-2 t c =
    let a = c.args in
    ways.later_part (table_of a.rows.now) a.i c.in-Back.p (part_of a.part) (ap part_of c.in-Back.is)
    (omega (arith, c.if-p-i.false)) (a.held.now.numbers, a.held.now.count) a.noted.now c.requires

pub put_part-returns-in-Step : goal.put_part-returns-in-Step
put_part-returns-in-Step t c =
    let a = c.args in
    let v = c.put.new.held in
    ways.step_part (table_of a.rows.now) a.i (row_of c.in-Step.row) (part_of a.part) (ap part_of c.in-Step.is)
    (a.held.now.numbers, a.held.now.count) (v.numbers, v.count) c.put.result c.put.ensures a.noted.now c.requires

pub put_part-returns-in-Filter : goal.put_part-returns-in-Filter
put_part-returns-in-Filter t c =
    let a = c.args in
    let v = c.put_filter.new.held in
    ways.filter_part (table_of a.rows.now) a.i c.in-Filter.f (part_of a.part) (ap part_of c.in-Filter.is)
    (a.held.now.numbers, a.held.now.count) (v.numbers, v.count) c.put_filter.result c.put_filter.ensures a.noted.now
    c.requires
