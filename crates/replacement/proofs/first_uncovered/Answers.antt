-- `first_uncovered` meets its contract: the first pair that passes the test is at the first place.
use Rattle.std.proofs.Common.{◌≡◌, rules, position, tests}
use Rattle.std.specs.List.{zip}
use Rattle.std.proofs.lemmas.Iterator.{YieldsList-from_slice, YieldsList-from_zip}
use Rattle.std.proofs.lemmas.Iterator.Search.{position_from_yields_List}
use Rattle.calls.specs.represent.Tables.{book_held}
use Rattle.replacement.proofs.Judged.{is_bad_pair, uncovered_found}
use Rattle.replacement.proofs.first_uncovered.Goals as goal

pub returns : goal.returns
returns c =
    let a = c.args in
    let old = a.old.now in
    let new = a.new.now in
    let by = a.by.now in
    let b = book_held a.held in
    let first : c.position.result ≡ position (is_bad_pair b old new by) (zip old by) =
    position_from_yields_List (is_bad_pair b old new by) c.position.new.self _ c.position.result c.position.ensures.ran
    (YieldsList-from_zip (YieldsList-from_slice _ (search rules)) (YieldsList-from_slice _ (search rules)))
    (λ x b q k. search (rules, tests)) in
    rw first (uncovered_found b old new by c.requires)
