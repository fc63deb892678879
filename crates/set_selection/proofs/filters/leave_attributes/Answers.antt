-- `leave_attributes` meets its contract.
use Rattle.std.proofs.Common.{ℕ, ◌≡◌, ◌<◌, ◌&&◌, not, eqb, length, arith, refl, ap, sym, ◌∙◌}
use Rattle.set_selection.specs.Sets.{marked}
use Rattle.set_selection.proofs.Written.{point_none, point_on, point_all}
use Rattle.set_selection.proofs.filters.leave_attributes.Goals as goal

pub loop-y-init : goal.loop-y-init
loop-y-init c = point_none _ _

pub loop-y-preserved : goal.loop-y-preserved
loop-y-preserved c =
    let l = c.loop-y in
    let h : l.y < length l.out = omega (arith, l.auto.out, c.loop-y-test.true) in
    point_on _ h l.invariant (ap (λ (n : ℕ). marked l.out l.y && not (eqb n 5)) c.from.ensures)

pub returns : goal.returns
returns c = point_all c.loop-y.invariant (omega arith)
