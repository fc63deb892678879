-- `Records::all_kept` meets its contract.
use mathlib.Core.Path.{◌∙◌}
use mathlib.Core.Bool.{◌&&◌}
use lib.Dec.{ltb, leb}
use borrow.Author.Rules.{rules}
use borrow.Author.Tests.{tests}
use Rattle.std.proofs.lemmas.Iterator.{YieldsList-from_slice}
use Rattle.std.proofs.lemmas.Iterator.Search.{all_from_yields_List}
use Rattle.records.specs.represent.Held.{records_in}
use Rattle.records.proofs.Searches.{kept_is}
use Rattle.records.proofs.Records.all_kept.Goals as goal

pub returns : goal.returns
returns c =
    let a = c.args in
    all_from_yields_List (λ r. ltb r.row a.rows && leb r.step a.steps) _ _ c.all.result c.all.ensures.ran
    (YieldsList-from_slice (records_in a.self.now) cc) (λ x b q k. search (rules, tests))
    ∙ kept_is a.rows a.steps (records_in a.self.now)
