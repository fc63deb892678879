-- The left row and then the right one.
use Rattle.terms.specs.Row.{table_of}
use Rattle.matching.specs.private.PatternTypes.{pattern_of}
use Rattle.matching.specs.private.RowYields.{match_claim}
use Rattle.matching.proofs.Matching.{match_keeps, goes_on, stops}
use Rattle.matching.proofs.matcher.Letters.fit_claim.Goals as goal

pub returns-then-fit : goal.returns-then-fit
unfolding match_claim
returns-then-fit c =
    let a = c.args in
    goes_on (match_keeps (table_of a.rows.now) (pattern_of a.claim.now.1) a.s.right) c.fit.ensures c.if-fit.true
    c.fit-then-fit.ensures

pub returns-else-fit : goal.returns-else-fit
unfolding match_claim
returns-else-fit c =
    let a = c.args in
    stops (match_keeps (table_of a.rows.now) (pattern_of a.claim.now.1) a.s.right) c.fit.ensures c.if-fit.false
