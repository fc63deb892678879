-- `step` meets its contract.
use Rattle.std.proofs.Common.{ℕ, Bool, ◌≡◌, ◌<◌, ◌≤◌, List, length, get_or, refl, sym, ap, ◌∙◌, arith}
use Rattle.xpath.specs.private.Tests.{fits, Asks}
use Rattle.xpath.proofs.Axes.{past_last_axis}
use Rattle.set_selection.proofs.Images.{ok_to}
use Rattle.set_selection.proofs.Stepping.{stepped, stepped_back, stepped_none, back_none, past_axis, past_test}
use Rattle.set_selection.proofs.columns.Columns.step.Goals as goal

pub returns-in_default : goal.returns-in_default
returns-in_default c =
    ok_to _ c.no_marks.ensures
    (λ v u. stepped_none _ _ _ _ c.args.self.now.sound c.args.axis c.args.test c.args.name c.args.marks.now c.requires
    (λ x y. past_axis _ _ _ _ x y (past_last_axis c.args.axis _ x y (omega (arith, c.in_default.ensures.1))))
    _ refl _ u)

pub returns-in_default-new : goal.returns-in_default-new
returns-in_default-new c =
    let e = rw c.from.ensures at c.in_default-new.ensures in
    ok_to _ c.no_marks-in_default-new.ensures
    (λ v u. stepped_none _ _ _ _ c.args.self.now.sound c.args.axis c.args.test c.args.name c.args.marks.now c.requires
    (λ x y. past_test _ _ _ _ x y (e _ y)) _ refl _ u)

pub returns : goal.returns
returns c =
    let e = rw c.from.ensures at c.in-Some.ensures in
    let u = rw c.in-Ok.ensures at c.in_ok-out.ensures in
    stepped _ _ _ _ c.args.self.now.sound c.args.axis c.args.test c.args.name c.args.marks.now c.requires
    c.in-Some.test e u c.tested.ensures
