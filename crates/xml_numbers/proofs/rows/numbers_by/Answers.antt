-- `numbers_by` meets its contract, name by name.
use Rattle.std.proofs.Common.{arith, add-one, ◌∙◌, rules}
use Rattle.xml_numbers.proofs.Laws.{listed_starts, listed_next, listed_ends}
use Rattle.xml_numbers.proofs.rows.numbers_by.Goals as goal

pub loop-index-init : goal.loop-index-init
loop-index-init c = rw c.new-numbers.ensures.items (listed_starts _ _)

pub loop-index-preserved : goal.loop-index-preserved
loop-index-preserved c =
    listed_next _ _ _ _ _ _ _ c.loop-index.invariant c.in_ok-put.ensures (rw c.nth.ensures at c.listed-number.ensures)
    (add-one _)

pub returns : goal.returns
returns c =
    listed_ends _ _ _ _ c.loop-index.invariant
    (omega (arith, c.loop-index-test.false, c.loop-index.auto.index-end, c.len-index-end.ensures))
