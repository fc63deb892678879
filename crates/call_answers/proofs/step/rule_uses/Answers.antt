-- `rule_uses` meets its contract: the steps that pass the test are the uses.
use Rattle.std.proofs.Common.{◌≡◌, rules, count_by, eqb, get_or, sym, ◌∙◌, ap}
use Rattle.calls.specs.Uses.{uses_of}
use Rattle.call_answers.proofs.RuleUses.{uses_counted}
use Rattle.call_answers.proofs.step.rule_uses.Goals as goal

pub returns : goal.returns
returns c =
    let ps = c.whole_steps.result.now in
    let counted : c.count.result ≡ count_by (λ p. eqb (get_or p 0 0) c.args.rule) ps = search rules in
    counted ∙ sym (uses_counted c.args.rule ps) ∙ ap (uses_of c.args.rule) c.whole_steps.ensures
