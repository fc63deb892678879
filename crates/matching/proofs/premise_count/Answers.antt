-- The first form says it.
use borrow.Author.Rules.{rules}
use Rattle.rules.specs.Yields.{forms_of, premise_count}
use Rattle.matching.proofs.Forms.{count_read}
use Rattle.matching.proofs.premise_count.Goals as goal

pub returns : goal.returns
unfolding premise_count
returns c =
    count_read c.forms_of.result.now (forms_of c.args.rule) c.first.result c.map_or.result _ c.first.ensures.value
    c.forms_of.ensures c.map_or.ensures (λ x q. search rules)
