-- The conclusion, the premises and the conditions, one after the other.
use mathlib.Core.Path.{◌∙◌}
use mathlib.Core.List.{map}
use lib.ListN.{take, length}
use borrow.Author.Rules.{rules}
use borrow.Author.Tests.{tests}
use Rattle.std.proofs.lemmas.Iterator.{YieldsList-from_slice}
use Rattle.std.proofs.lemmas.Iterator.Search.{all_from_yields_List}
use Rattle.terms.specs.Row.{table_of}
use Rattle.rules.specs.Instance.{meets}
use Rattle.matching.specs.private.PatternTypes.{condition_of, form_of}
use Rattle.matching.specs.private.RowYields.{numbers_in, match_form, yields_by}
use Rattle.matching.specs.private.MatchTypes.{values_in, Matches}
use Rattle.matching.specs.represent.Sides.{sides_in}
use Rattle.matching.proofs.Forms.{all_mapped}
use Rattle.matching.proofs.Matching.{claims_keep, goes_on, stops, form_fits, form_fails}
use Rattle.matching.proofs.pattern.Form.yields.Goals as goal
use Rattle.matching.proofs.pattern.Form.yields.Goals.{then-fit_claim, else-fit_claim}

pub returns-then-fit_premises : goal.returns-then-fit_premises
unfolding match_form yields_by
returns-then-fit_premises c =
    let a = c.args in
    let w = form_of a.self.now in
    let rs = table_of a.rows.now in
    let s = sides_in a.step in
    let ss = take (length w.premises) (map sides_in a.premises) in
    let said = rw c.new-letters.ensures at c.fit_claim.ensures in
    let fits : Matches c.if-fit_claim.value c.if-fit_claim.letters (match_form rs s ss w) =
    elim c.if-fit_claim.branch [
      | then-fit_claim v ↦
          rw (v.value-is, v.letters-is)
          (goes_on (claims_keep rs w.premises ss) said v.if-fit_claim.true v.fit_premises.ensures)
      | else-fit_claim v ↦
          rw (v.value-is, v.letters-is) (stops (claims_keep rs w.premises ss) said v.if-fit_claim.false)
    ] in
    let e = numbers_in (values_in c.if-fit_claim.letters) in
    let conditions = a.self.now.conditions.now in
    form_fits rs s ss w fits c.if-fit_premises.true
    (all_from_yields_List (λ k. meets e (condition_of k)) _ _ c.all.result c.all.ensures.ran
    (YieldsList-from_slice conditions cc) (λ x b q k. search (rules, tests))
    ∙ all_mapped (meets e) condition_of conditions)

pub returns-else-fit_premises : goal.returns-else-fit_premises
unfolding match_form yields_by
returns-else-fit_premises c =
    let a = c.args in
    let w = form_of a.self.now in
    let rs = table_of a.rows.now in
    let s = sides_in a.step in
    let ss = take (length w.premises) (map sides_in a.premises) in
    let said = rw c.new-letters.ensures at c.fit_claim.ensures in
    let fits : Matches c.if-fit_claim.value c.if-fit_claim.letters (match_form rs s ss w) =
    elim c.if-fit_claim.branch [
      | then-fit_claim v ↦
          rw (v.value-is, v.letters-is)
          (goes_on (claims_keep rs w.premises ss) said v.if-fit_claim.true v.fit_premises.ensures)
      | else-fit_claim v ↦
          rw (v.value-is, v.letters-is) (stops (claims_keep rs w.premises ss) said v.if-fit_claim.false)
    ] in
    form_fails rs s ss w fits c.if-fit_premises.false
