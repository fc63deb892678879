-- `find_point` meets its contract: of the points, each with its place, the first that passes the test has the name.
use mathlib.Core.Path.{◌∙◌, sym, ap}
use borrow.Author.Rules.{rules}
use borrow.Author.Tests.{tests}
use Rattle.std.proofs.Common.{◌≡◌, map, eqb}
use Rattle.std.specs.List.{find, enumerate_from}
use Rattle.std.specs.Iterator.Adapters.{map_callee}
use Rattle.std.proofs.lemmas.Iterator.{YieldsList-from_slice, YieldsList-from_map}
use Rattle.std.proofs.lemmas.Iterator.Adapters.{option_map_id}
use Rattle.std.proofs.lemmas.Iterator.Consumers.{YieldsList-from_enumerate}
use Rattle.std.proofs.lemmas.Iterator.Search.{find_from_yields_List}
use Rattle.calls.specs.represent.Points.{counts_in}
use Rattle.calls.proofs.PointTables.{point_found}
use Rattle.call_answers.proofs.point.find_point.Goals as goal

pub returns : goal.returns
returns c =
    let points = c.whole_points.result.now in
    let name = c.args.name in
    let found : c.find.result ≡ find (λ p. eqb p.1.name name) (enumerate_from 0 (map counts_in points)) =
    sym (option_map_id c.find.result)
    ∙ find_from_yields_List (λ p. eqb p.1.name name) _ _ c.find.result c.find.ensures.ran
    (YieldsList-from_enumerate
    (YieldsList-from_map _ counts_in (YieldsList-from_slice points cc)
    (ap map_callee c.enumerate.ensures.source ∙ c.map.ensures.closure) (λ x r q k. search (rules, tests)))
    c.enumerate.ensures.count)
    (λ x b q k. search (rules, tests)) in
    rw (found, ← c.whole_points.ensures) (point_found (map counts_in points) name)
