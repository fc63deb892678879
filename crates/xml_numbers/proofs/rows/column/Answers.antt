-- `column` meets its contract, row by row.
use Rattle.std.proofs.Common.{arith, add-one, sym, ◌∙◌, refl}
use Rattle.xml_numbers.proofs.Laws.{filled_starts, filled_next, filled_stops, filled_ends}
use Rattle.xml_numbers.proofs.rows.column.Goals as goal

pub loop-row-init : goal.loop-row-init
loop-row-init c = rw c.new-column.ensures.items (filled_starts _ _)

pub loop-row-preserved : goal.loop-row-preserved
loop-row-preserved c =
    filled_next _ _ _ _ _ _ _ c.loop-row.invariant c.in_ok-put.ensures c.number_at-number.ensures
    (sym c.is_unnumbered-is_unnumbered.ensures ∙ c.if-is_unnumbered.false) (add-one _)

pub returns : goal.returns
returns c =
    filled_ends _ _ _ _ c.loop-row.invariant
    (omega (arith, c.loop-row-test.false, c.loop-row.auto.row-end, c.len-row-end.ensures))

pub returns-then-is_unnumbered : goal.returns-then-is_unnumbered
returns-then-is_unnumbered c = (
  filled_stops _ _ _ _ _ c.loop-row.invariant (omega (arith, c.loop-row-test.true, c.len-row-end.ensures))
      c.number_at-number.ensures
      (sym c.is_unnumbered-is_unnumbered.ensures ∙ c.if-is_unnumbered.true),
  rw c.as_slice-lines.ensures.value refl,
)
