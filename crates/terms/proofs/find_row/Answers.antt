-- `find_row` meets its contract: the first row that passes the test is the first that is the row.
use Rattle.std.proofs.Common.{◌≡◌, rules, position}
use Rattle.std.proofs.Common.{tests, ℕ, List}
use Rattle.std.proofs.lemmas.Iterator.{YieldsList-from_slice}
use Rattle.std.proofs.lemmas.Iterator.Search.{position_from_yields_List}
use Rattle.terms.specs.Row.{row_of_numbers, same_row}
use Rattle.terms.specs.represent.RowTypes.{row_of}
use Rattle.terms.proofs.Find.{found_by}
use Rattle.terms.proofs.find_row.Goals as goal

pub returns : goal.returns
unfolding same_row
returns c =
    let rows = c.whole_rows.result.now in
    let r = row_of c.args.row in
    let first : c.position.result ≡ position (λ xs. same_row (row_of_numbers xs) r) rows =
    position_from_yields_List (λ (xs : List ℕ). same_row (row_of_numbers xs) r) _ _ c.position.result
    c.position.ensures.ran
    (YieldsList-from_slice _ c.iter.ensures.rest) (λ x b q k. search (rules, tests)) in
    rw (first, ← c.whole_rows.ensures) (found_by row_of_numbers r rows)
