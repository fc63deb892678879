-- `Session::term` meets its contract: the count grows just where the row is held.
use mathlib.Core.Path.{refl}
use Rattle.std.specs.Prelude.{Err}
use Rattle.common.proofs.Errors.{err_is}
use Rattle.common.proofs.Refusals.{refusal_some}
use Rattle.session.specs.Promises.{session}
use Rattle.session.specs.represent.Tables.{tables_in}
use Rattle.session.proofs.Refused.{refused_kept}
use Rattle.session.proofs.session.TermMade.{placed_kept, term_made_held, term_made_refused}
use Rattle.session.proofs.session.Session.term.Goals as goal

-- what was asked, on the tables that the session has
pub returns-in_err-number-clause-met : goal.returns-in_err-number-clause-met
returns-in_err-number-clause-met c =
    let count = rw (← c.self.view_is) at c.rows_counted-n.ensures in
    let placed = placed_kept _ _ _ _ _ _ _ _ c.keep_first.ensures.0 c.keep_first.ensures.1 c.in_err-number.ensures in
    rw (err_is c.from_residual.result c.from_residual.ensures.1, ← c.self.view_is)
    (term_made_refused (tables_in c.self.inside) _ _ count _ _ placed (refusal_some _))

pub returns-clause-met : goal.returns-clause-met
returns-clause-met c =
    let count = rw (← c.self.view_is) at c.rows_counted-n.ensures in
    let placed = placed_kept _ _ _ _ _ _ _ _ c.keep_first.ensures.0 c.keep_first.ensures.1 c.in_ok-number.ensures in
    rw (← c.self.view_is) (term_made_held (tables_in c.self.inside) _ _ count _ _ placed refl)

pub returns-in_err-number-clause-refused : goal.returns-in_err-number-clause-refused
returns-in_err-number-clause-refused c =
    let count = rw (← c.self.view_is) at c.rows_counted-n.ensures in
    let placed = placed_kept _ _ _ _ _ _ _ _ c.keep_first.ensures.0 c.keep_first.ensures.1 c.in_err-number.ensures in
    let made = term_made_refused (tables_in c.self.inside) _ _ count _ _ placed (refusal_some _) in
    let exit = c.from_residual in
    rw (err_is exit.result exit.ensures.1, ← c.self.view_is) (refused_kept session _ _ _ (λ n. n) (Err _) made)
