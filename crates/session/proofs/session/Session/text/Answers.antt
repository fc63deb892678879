-- `Session::text` meets its contract: the rows and their count are those of an accepted text.
use Rattle.std.specs.Prelude.{Err}
use Rattle.common.proofs.Errors.{err_is}
use Rattle.session.specs.Promises.{session}
use Rattle.session.specs.represent.Tables.{tables_in}
use Rattle.session.proofs.Refused.{refused_kept}
use Rattle.session.proofs.session.TextMade.{text_made_held, text_made_refused}
use Rattle.session.proofs.session.Session.text.Goals as goal

pub returns-in_err-held-clause-met : goal.returns-in_err-held-clause-met
returns-in_err-held-clause-met c =
    let a = c.args in
    rw (err_is c.from_residual.result c.from_residual.ensures.1, ← c.self.view_is)
    (text_made_refused (tables_in c.self.inside) a.names.now a.selector.now c.in_err-held.field-0.0 _ c.in_err-held.ensures.read)

pub returns-clause-met : goal.returns-clause-met
returns-clause-met c =
    let a = c.args in
    rw (← c.self.view_is)
    (text_made_held (tables_in c.self.inside) a.names.now a.selector.now c.in_ok-held.held _ c.in_ok-held.ensures.read)

pub returns-in_err-held-clause-refused : goal.returns-in_err-held-clause-refused
returns-in_err-held-clause-refused c =
    let a = c.args in
    let made = text_made_refused (tables_in c.self.inside) a.names.now a.selector.now c.in_err-held.field-0.0 _
    c.in_err-held.ensures.read in
    let exit = c.from_residual in
    rw (err_is exit.result exit.ensures.1, ← c.self.view_is) (refused_kept session _ _ _ (λ n. n) (Err _) made)
