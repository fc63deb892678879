-- `Writer::append_terms` meets its contract: the lines left make all of them with those that are put.
use mathlib.Core.Path.{refl, ap, ◌∙◌}
use mathlib.Core.List.{[]}
use native.Mathlib.Omega.{arith}
use lib.ListN.{length}
use Rattle.terms.specs.Row.{row_of_numbers, table_of}
use Rattle.bundles.specs.Bundle.{row_text, rows_text}
use Rattle.bundles.specs.private.TextPut.{text_of_line}
use Rattle.bundles.proofs.Putting.{all_rest, text_room, text_put, texts_done, put_as}
use Rattle.bundles.proofs.Tables.{there, all_there}
use Rattle.bundles.proofs.writer.Writer.append_terms.Goals as goal

pub loop-numbers-init : goal.loop-numbers-init
loop-numbers-init c = (refl, all_rest c.requires)

pub append-requires : goal.append-requires
unfolding text_of_line rows_text
append-requires c =
    let l = c.loop-numbers in
    let lent = c.whole_rows-numbers-items.result.now in
    let xs = table_of c.args.rows.now in
    let many = all_there row_of_numbers lent xs c.whole_rows-numbers-items.ensures in
    let item = there row_of_numbers lent xs l.numbers-index c.from.ensures refl c.whole_rows-numbers-items.ensures in
    let room = text_room row_text rows_text refl (λ x xs. refl) xs l.numbers-index l.invariant.1 (row_of_numbers []) (omega arith) in
    omega (arith, room, ap (λ x. length (row_text x)) item)

pub loop-numbers-preserved : goal.loop-numbers-preserved
unfolding text_of_line rows_text
loop-numbers-preserved c =
    let l = c.loop-numbers in
    let lent = c.whole_rows-numbers-items.result.now in
    let xs = table_of c.args.rows.now in
    let many = all_there row_of_numbers lent xs c.whole_rows-numbers-items.ensures in
    let item = there row_of_numbers lent xs l.numbers-index c.from.ensures refl c.whole_rows-numbers-items.ensures in
    let put = put_as (ap row_text item) c.append.ensures.put in (
      c.append.ensures.same_buffer ∙ l.invariant.0,
      text_put row_text rows_text refl (λ x xs. refl) xs l.numbers-index l.invariant.1 (row_of_numbers []) (omega arith) put,
    )

pub returns : goal.returns
unfolding rows_text
returns c =
    let l = c.loop-numbers in
    let lent = c.whole_rows-numbers-items.result.now in
    let xs = table_of c.args.rows.now in
    let many = all_there row_of_numbers lent xs c.whole_rows-numbers-items.ensures in
    record {
      same_buffer = l.invariant.0;
      put = texts_done row_text rows_text refl (λ x xs. refl) xs l.numbers-index l.invariant.1 (omega arith);
    }
