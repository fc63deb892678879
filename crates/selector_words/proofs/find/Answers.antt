-- `find` meets its contract.
use borrow.Author.Tests.{tests}
use Rattle.std.proofs.Common.{rules}
use Rattle.std.proofs.lemmas.Iterator.{YieldsList-from_slice, first_from_find}
use Rattle.selector_words.proofs.Named.{Hit, Miss, hit, miss, found_first}
use Rattle.selector_words.proofs.find.Goals as goal

pub returns : goal.returns
returns g c =
    found_first c.args.word.now c.args.table.now c.find.result c.map.result
    (first_from_find _ _ _ (Hit c.args.word.now) (Miss c.args.word.now) c.find.ensures.ran
    (YieldsList-from_slice c.args.table.now (search rules))
    (λ x q k. hit c.args.word.now x.now (search (rules, tests)))
    (λ x q k. (search rules, miss c.args.word.now x.now (search (rules, tests)))))
    (search rules)
