-- The way back, or one of the rule's forms.
use mathlib.Core.Path.{◌∙◌, ap}
use mathlib.Core.List.{map}
use borrow.Author.Rules.{rules}
use borrow.Author.Tests.{tests}
use Rattle.std.proofs.lemmas.Iterator.{YieldsList-from_slice}
use Rattle.std.proofs.lemmas.Iterator.Search.{any_from_yields_List}
use Rattle.common.specs.Lists.{any_of}
use Rattle.terms.specs.Row.{table_of}
use Rattle.matching.specs.private.PatternTypes.{form_of}
use Rattle.matching.specs.private.RowYields.{yields_by}
use Rattle.matching.specs.represent.Sides.{sides_in}
use Rattle.matching.proofs.Forms.{way_back_way, other_rule_way, rule_way, any_mapped}
use Rattle.matching.proofs.yields.Goals as goal

pub returns-then-rule-eq-WAY_BACK_RULE : goal.returns-then-rule-eq-WAY_BACK_RULE
returns-then-rule-eq-WAY_BACK_RULE c =
    let a = c.args in
    let done = c.is_with_back.ensures in (
      way_back_way (table_of a.rows.now) (sides_in a.step) (map sides_in a.premises) a.rule
          c.if-rule-eq-WAY_BACK_RULE.true done.0,
      done.1,
    )

pub returns : goal.returns
returns c =
    let a = c.args in
    let rs = table_of a.rows.now in
    let s = sides_in a.step in
    let ss = map sides_in a.premises in
    let forms = c.forms_of.result.now in
    let found =
    any_from_yields_List (λ w. yields_by rs s ss (form_of w)) _ _ c.any.result c.any.ensures.ran
    (YieldsList-from_slice forms cc) (λ x b q k. search (rules, tests))
    ∙ any_mapped (yields_by rs s ss) form_of forms
    ∙ ap (any_of (yields_by rs s ss)) c.forms_of.ensures
    ∙ rule_way rs s ss a.rule in
    (other_rule_way rs s _ a.rule c.if-rule-eq-WAY_BACK_RULE.false found, c.requires)
