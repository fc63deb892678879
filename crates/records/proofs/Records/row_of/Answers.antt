-- `Records::row_of` meets its contract.
use mathlib.Core.Bool.{◌&&◌}
use lib.Dec.{eqb}
use borrow.Author.Rules.{rules}
use borrow.Author.Tests.{tests}
use Rattle.std.proofs.lemmas.Iterator.{YieldsList-from_slice}
use Rattle.std.proofs.lemmas.Iterator.Search.{find_from_yields_List}
use Rattle.records.specs.represent.Held.{records_in}
use Rattle.records.proofs.Searches.{row_is}
use Rattle.records.proofs.Records.row_of.Goals as goal

pub returns : goal.returns
returns c =
    let a = c.args in
    let found =
    find_from_yields_List (λ r. eqb r.series a.series && eqb r.edition a.edition) _ _ c.find.result c.find.ensures.ran
    (YieldsList-from_slice (records_in a.self.now) cc) (λ x b q k. search (rules, tests)) in
    row_is a.series a.edition (records_in a.self.now) c.find.result c.map_or.result _ found c.map_or.ensures
    (λ x q. search rules)
