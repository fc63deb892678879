-- `Records::current` meets its contract.
use mathlib.Core.Path.{sym, ap, ◌∙◌}
use borrow.Author.Rules.{rules}
use borrow.Author.Tests.{tests}
use Rattle.std.specs.Option.{unwrap_or}
use Rattle.std.proofs.lemmas.Iterator.{YieldsList-from_slice, YieldsList-from_map}
use Rattle.std.proofs.lemmas.Iterator.Adapters.{option_map_id}
use Rattle.std.proofs.lemmas.Iterator.Consumers.{YieldsList-from_filter, max_from_yields_List}
use Rattle.records.specs.declared.Record.{Record}
use Rattle.records.specs.represent.Held.{records_in}
use Rattle.records.proofs.Searches.{of_series, current_is}
use Rattle.records.proofs.Records.current.Goals as goal

pub returns : goal.returns
returns c =
    let a = c.args in
    let found =
    sym (option_map_id c.max.result)
    ∙ max_from_yields_List _ _ c.max.ensures.ran
    (YieldsList-from_map _ (λ (r : Record). r.edition)
    (YieldsList-from_filter _ (of_series a.series) (YieldsList-from_slice (records_in a.self.now) cc)
    (ap (λ m. m.p) c.map.ensures.source ∙ c.filter.ensures.closure) (λ x b q k. search (rules, tests)))
    c.map.ensures.closure (λ x r q k. search rules)) in
    c.unwrap_or.ensures ∙ ap (λ o. unwrap_or o 0) found ∙ current_is a.series (records_in a.self.now)
