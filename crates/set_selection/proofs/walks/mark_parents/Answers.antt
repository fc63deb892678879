-- `mark_parents` meets its contract.
use Rattle.std.proofs.Common.{ℕ, ◌≡◌, ◌<◌, ◌≤◌, ◌+◌, ◌-◌, ◌&&◌, Bool, true, false, suc, ◌∙◌, sym, refl, ap, List}
use Rattle.std.proofs.Common.{rules, arith, length, get_or, eqb, not}
use Rattle.set_selection.proofs.Written.{done_none, done_on, from_on, image_done, image_from, DoneBelow, DoneFrom}
use Rattle.set_selection.proofs.Kept.{reach_none, reach_on, reach_value, next_none, next_on, next_value, first_none}
use Rattle.set_selection.proofs.Kept.{first_on, first_value, past_none, past_on, past_value, under_value, spread_none}
use Rattle.set_selection.proofs.Kept.{spread_on, spread_all, later_value, later_first, spread_end, spread_down}
use Rattle.set_selection.proofs.Kept.{earlier_value, earlier_all}
use Rattle.set_selection.specs.Sets.{marked}
use borrow.Author.Tests.{ne_eqb}
use lib.Seq.{get_or-set_same, get_or-set_other}
use Rattle.set_selection.proofs.walks.mark_parents.Goals as goal
use Rattle.set_selection.proofs.walks.mark_parents.Goals.{then-marks-x, else-marks-x}

pub loop-x-init : goal.loop-x-init
loop-x-init c = spread_none _ _ _

pub loop-x-preserved : goal.loop-x-preserved
loop-x-preserved c =
    let l = c.loop-x in
    let p : get_or c.args.parents.now l.x 0 < length c.args.parents.now = c.requires.within.each l.x (omega arith) in
    spread_on _ _ _ _ _ _ (omega arith) (omega arith) l.invariant
    (elim c.if-marks-x.branch [
      | then-marks-x w ↦ w.out-is ∙ rw (w.if-marks-x.true) refl
      | else-marks-x w ↦ w.out-is ∙ rw (w.if-marks-x.false) refl
    ])

pub returns : goal.returns
returns c =
    let l = c.loop-x in spread_all _ _ _ _ _ (λ p h. omega arith) (omega arith) l.invariant
