-- No premise, one, two, or more.
use borrow.Author.Rules.{rules}
use Rattle.terms.specs.Row.{table_of}
use Rattle.matching.proofs.Matching.{no_premise, one_premise, two_premises, first_fails, more_premises}
use Rattle.matching.proofs.matcher.Letters.fit_premises.Goals as goal

pub returns-in-empty : goal.returns-in-empty
returns-in-empty c =
    let a = c.args in
    no_premise (table_of a.rows.now) a.premises a.self.now a.claims.now c.in-empty.len_below

pub returns-in-len1 : goal.returns-in-len1
returns-in-len1 c =
    let a = c.args in
    one_premise (table_of a.rows.now) a.premises a.self.now _ (search rules) _ a.claims.now c.in-len1.len_at_least
    c.in-len1.len_below c.fit_claim.ensures

pub returns-then-fit_claim : goal.returns-then-fit_claim
returns-then-fit_claim c =
    let a = c.args in
    two_premises (table_of a.rows.now) a.premises a.self.now _ (search rules) _ a.claims.now c.in-len2.len_at_least
    c.in-len2.len_below c.fit_claim-in-len2.ensures c.if-fit_claim.true c.fit_claim-then-fit_claim.ensures

pub returns-else-fit_claim : goal.returns-else-fit_claim
returns-else-fit_claim c =
    let a = c.args in
    first_fails (table_of a.rows.now) a.premises a.self.now _ (search rules) _ a.claims.now c.in-len2.len_at_least
    c.in-len2.len_below c.fit_claim-in-len2.ensures c.if-fit_claim.false

pub returns-in_default : goal.returns-in_default
returns-in_default c =
    let a = c.args in
    more_premises (table_of a.rows.now) a.premises a.self.now (record { left = 0; right = 0 }) (search rules)
    a.claims.now c.in_default.len_at_least
