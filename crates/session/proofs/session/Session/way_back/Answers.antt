-- `Session::way_back` meets its contract: the rows and their count are those of an accepted call.
use mathlib.Core.Path.{◌∙◌}
use Rattle.std.specs.Prelude.{Err}
use Rattle.common.proofs.Errors.{err_is}
use Rattle.session.specs.WayBackGuarantee.{way_back_calls}
use Rattle.session.specs.represent.Tables.{tables_in}
use Rattle.session.proofs.Refused.{refused_kept}
use Rattle.session.proofs.session.BackMade.{back_made_held, back_made_refused}
use Rattle.session.proofs.session.Session.way_back.Goals as goal

pub returns-in_err-number-clause-met : goal.returns-in_err-number-clause-met
returns-in_err-number-clause-met c =
    let count = rw (← c.self.view_is) at c.rows_counted-n.ensures in
    rw (err_is c.from_residual.result c.from_residual.ensures.1, ← c.self.view_is)
    (back_made_refused (tables_in c.self.inside) c.args.row _ _ _ c.in_err-number.ensures c.keep_first.ensures.0
    (c.keep_first.ensures.1 ∙ count))

pub returns-clause-met : goal.returns-clause-met
returns-clause-met c =
    let count = rw (← c.self.view_is) at c.rows_counted-n.ensures in
    rw (← c.self.view_is)
    (back_made_held (tables_in c.self.inside) c.args.row _ _ _ c.in_ok-number.ensures c.keep_first.ensures.0
    (c.keep_first.ensures.1 ∙ count))

pub returns-in_err-number-clause-refused : goal.returns-in_err-number-clause-refused
returns-in_err-number-clause-refused c =
    let count = rw (← c.self.view_is) at c.rows_counted-n.ensures in
    let made = back_made_refused (tables_in c.self.inside) c.args.row _ _ _ c.in_err-number.ensures
    c.keep_first.ensures.0 (c.keep_first.ensures.1 ∙ count) in
    let exit = c.from_residual in
    rw (err_is exit.result exit.ensures.1, ← c.self.view_is) (refused_kept way_back_calls _ _ _ (λ n. n) (Err _) made)
