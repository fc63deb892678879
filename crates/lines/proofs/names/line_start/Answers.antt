-- `line_start` meets its contract: it adds up the sizes of the first k pieces.
use mathlib.Core.Path.{ap, ◌∙◌}
use borrow.Author.Tests.{tests}
use native.Mathlib.Omega.{arith}
use lib.ListN.{length, take}
use Rattle.std.proofs.Common.{rules}
use Rattle.std.specs.Slice.Iter.{split_inclusive_rest, split_inclusive_callee}
use Rattle.std.proofs.lemmas.Iterator.{YieldsList-from_take, YieldsList-from_map}
use Rattle.std.proofs.lemmas.Iterator.Consumers.{sum_by_from_yields_List, fits_by_from_yields_list}
use Rattle.std.proofs.lemmas.List.Sorted.{answers_always}
use Rattle.lines.proofs.Pieces.{pieces, first_size, pieces_behind, first_inside, pieces_yielded}
use Rattle.lines.proofs.names.line_start.Goals as goal

pub sum-requires-clause-fits : goal.sum-requires-clause-fits
sum-requires-clause-fits c =
    let cut = c.map.result.iter.iter in
    let count = ap (λ t. t.n) c.map.ensures.source ∙ c.take.ensures.count in
    fits_by_from_yields_list length (take c.args.k (pieces (split_inclusive_rest cut))) c.map.result _
    (YieldsList-from_map _ length
    (YieldsList-from_take c.args.k
    (pieces_yielded _ split_inclusive_rest split_inclusive_callee cut
    (answers_always _ _ _ (λ f a r q k. search (rules, tests)))) count) c.map.ensures.closure
    (λ x r q k. search (rules, tests)))
    (omega (arith, first_inside (split_inclusive_rest cut) c.args.k))

pub returns : goal.returns
returns c =
    let list = c.args.list.now in
    let cut = c.map.result.iter.iter in
    let count = ap (λ t. t.n) c.map.ensures.source ∙ c.take.ensures.count in
    let rest = ap (λ t. split_inclusive_rest t.iter) c.map.ensures.source
    ∙ ap split_inclusive_rest c.take.ensures.source ∙ c.split_inclusive.ensures.rest in
    let size =
    sum_by_from_yields_List length (take c.args.k (pieces (split_inclusive_rest cut))) c.map.result c.sum.result
    c.sum.ensures.ran
    (YieldsList-from_map _ length
    (YieldsList-from_take c.args.k
    (pieces_yielded _ split_inclusive_rest split_inclusive_callee cut
    (answers_always _ _ _ (λ f a r q k. search (rules, tests)))) count) c.map.ensures.closure
    (λ x r q k. search (rules, tests)))
    ∙ ap (λ xs. first_size c.args.k (pieces xs)) rest in
    record { rest = rw size (pieces_behind list c.args.k); inside = rw size (first_inside list c.args.k) }
