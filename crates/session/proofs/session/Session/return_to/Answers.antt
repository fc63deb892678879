-- `Session::return_to` meets its contract: the tables are cleared, and the counts set, just where the point is found.
use native.Mathlib.Omega.{arith}
use Rattle.common.proofs.Errors.{err_is}
use Rattle.session.specs.represent.Tables.{tables_in}
use Rattle.session.proofs.session.PointMade.{few_places, return_made_held, return_made_refused}
use Rattle.session.proofs.session.Session.return_to.Goals as goal

pub returns-in_err-place-clause-met : goal.returns-in_err-place-clause-met
returns-in_err-place-clause-met c =
    rw (err_is c.from_residual.result c.from_residual.ensures.1)
    (return_made_refused c.args.self.now _ c.in_err-place.field-0.0
    (rw c.held_points.ensures at c.in_err-place.ensures))

pub overflow_add-place : goal.overflow_add-place
overflow_add-place c =
    omega (arith, few_places c.args.self.now _ _ (rw c.held_points.ensures at c.in_ok-place.ensures.0))

pub overflow_mul-place : goal.overflow_mul-place
overflow_mul-place c =
    omega (arith, few_places c.args.self.now _ _ (rw c.held_points.ensures at c.in_ok-place.ensures.0))

pub overflow_add-self : goal.overflow_add-self
overflow_add-self c =
    omega (arith, few_places c.args.self.now _ _ (rw c.held_points.ensures at c.in_ok-place.ensures.0))

pub returns-clause-met : goal.returns-clause-met
returns-clause-met c =
    let found = rw (c.held_points.ensures, ← c.self.view_is) at c.in_ok-place.ensures in
    rw (← c.self.view_is)
    (return_made_held (tables_in c.self.inside) _ _ found _ _ c.from-n.ensures
    c.from-m.ensures _ _ _ c.clear_from.ensures c.clear.ensures c.clear-2.ensures)
