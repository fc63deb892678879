-- `terms_length` meets its contract: the length of the lines that are left makes the whole with what is counted.
use mathlib.Core.Path.{refl, ap}
use mathlib.Core.List.{[]}
use native.Mathlib.Omega.{arith}
use lib.ListN.{length}
use Rattle.terms.specs.Row.{row_of_numbers, table_of}
use Rattle.terms.proofs.LentRows.{rows_lent}
use Rattle.bundles.specs.Bundle.{row_text, rows_text}
use Rattle.bundles.proofs.Tables.{there, all_there, length_left, nothing_left}
use Rattle.bundles.proofs.terms_length.Goals as goal

pub loop-numbers-init : goal.loop-numbers-init
loop-numbers-init c = (omega arith, omega arith)

pub overflow_add-size : goal.overflow_add-size
overflow_add-size c =
    let xs = c.args.rows.now in
    let many = all_there row_of_numbers c.whole_rows-numbers-items.result.now _ c.whole_rows-numbers-items.ensures in
    omega (arith, c.loop-numbers.invariant.1, many, rows_lent xs, c.term_length-size.ensures.1)

pub loop-numbers-preserved : goal.loop-numbers-preserved
unfolding rows_text
loop-numbers-preserved c =
    let l = c.loop-numbers in
    let lent = c.whole_rows-numbers-items.result.now in
    let xs = table_of c.args.rows.now in
    let many = all_there row_of_numbers lent xs c.whole_rows-numbers-items.ensures in
    let item = there row_of_numbers lent xs l.numbers-index c.from.ensures refl c.whole_rows-numbers-items.ensures in
    let left = length_left row_text rows_text (λ x xs. refl) xs l.numbers-index (row_of_numbers []) (omega arith) in
    let same = ap (λ x. length (row_text x)) item in (
      omega (arith, l.invariant.0, left, same, c.term_length-size.ensures.0),
      omega (arith, l.invariant.1, c.term_length-size.ensures.1),
    )

pub returns : goal.returns
unfolding rows_text
returns c =
    let l = c.loop-numbers in
    let xs = table_of c.args.rows.now in
    let many = all_there row_of_numbers c.whole_rows-numbers-items.result.now xs c.whole_rows-numbers-items.ensures in
    let none = nothing_left rows_text refl xs l.numbers-index (omega arith) in
    (omega (arith, l.invariant.0, none), omega (arith, l.invariant.1, many, rows_lent c.args.rows.now))
