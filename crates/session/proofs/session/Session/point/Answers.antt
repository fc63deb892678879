-- `Session::point` meets its contract: the point is written, and the count grows, just where it is accepted.
use Prim.Native.Nat.{◌*◌}
use mathlib.Core.Path.{◌≡◌, refl, ◌∙◌}
use native.Mathlib.Omega.{arith}
use lib.ListN.{length}
use Rattle.std.specs.Prelude.{Ok, Err}
use Rattle.common.proofs.Errors.{err_is}
use Rattle.common.proofs.Refusals.{refusal_some}
use Rattle.calls.specs.Book.{max_points}
use Rattle.calls.specs.represent.Points.{point_width}
use Rattle.session.specs.represent.Tables.{tables_in}
use Rattle.session.proofs.session.PointMade.{point_room, point_made_held, point_made_refused}
use borrow.Author.Rules.{rules}
use Rattle.session.proofs.session.Session.point.Goals as goal

pub put_record-requires : goal.put_record-requires
put_record-requires c =
    let s = tables_in c.self.inside in
    let size : length s.points ≡ point_width * max_points = search rules in
    let told = rw (c.held_points.ensures, ← c.self.view_is) at c.in_ok-judge_point.ensures in
    let count = rw (← c.self.view_is) at c.points_counted-k.ensures in
    let room = point_room s _ (Ok tt) told refl size _ count in
    omega (arith, size, room)

pub returns-in_err-judge_point-clause-met : goal.returns-in_err-judge_point-clause-met
returns-in_err-judge_point-clause-met c =
    let told = rw c.held_points.ensures at c.in_err-judge_point.ensures in
    rw (err_is c.from_residual.result c.from_residual.ensures.1)
    (point_made_refused c.args.self.now _ (Err c.in_err-judge_point.field-0.0) told (refusal_some _))

pub returns-clause-met : goal.returns-clause-met
returns-clause-met c =
    let told = rw (c.held_points.ensures, ← c.self.view_is) at c.in_ok-judge_point.ensures in
    let rows = rw (← c.self.view_is) at c.rows_counted-n.ensures in
    let steps = rw (← c.self.view_is) at c.steps_counted-m.ensures in
    let points = rw (← c.self.view_is) at c.points_counted-k.ensures in
    rw (← c.self.view_is)
    (point_made_held (tables_in c.self.inside) _ (Ok tt) told refl _ _ _ rows steps points
    _ (c.put_record.ensures ∙ rw c.into.ensures refl))
