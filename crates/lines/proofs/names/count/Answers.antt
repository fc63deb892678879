-- `count` meets its contract: the list has as many lines as pieces that end at a newline.
use mathlib.Core.Path.{ap, ◌∙◌}
use borrow.Author.Tests.{tests}
use lib.ListN.{length}
use Rattle.std.proofs.Common.{rules}
use Rattle.std.specs.Slice.Iter.{split_inclusive_rest, split_inclusive_callee}
use Rattle.std.proofs.lemmas.Iterator.Consumers.{count_from_yields_List}
use Rattle.std.proofs.lemmas.List.Sorted.{answers_always}
use Rattle.lines.specs.Line.{lines}
use Rattle.lines.proofs.Pieces.{pieces_count, pieces_yielded}
use Rattle.lines.proofs.names.count.Goals as goal

pub returns : goal.returns
returns c =
    let cut = c.split_inclusive in
    count_from_yields_List cut.result c.count.result c.count.ensures.ran
    (pieces_yielded _ split_inclusive_rest split_inclusive_callee cut.result
    (answers_always _ _ _ (λ f a r q k. search (rules, tests))))
    ∙ pieces_count _ ∙ ap (λ xs. length (lines xs)) cut.ensures.rest
