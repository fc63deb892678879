-- `mark_below` meets its contract.
use Rattle.std.proofs.Common.{ℕ, ◌≡◌, ◌<◌, ◌≤◌, ◌+◌, ◌-◌, ◌&&◌, Bool, true, false, suc, ◌∙◌, sym, refl, ap, List}
use Rattle.std.proofs.Common.{rules, arith, length, get_or, eqb, not}
use Rattle.set_selection.proofs.Written.{done_none, done_on, from_on, image_done, image_from, DoneBelow, DoneFrom}
use Rattle.set_selection.proofs.Kept.{reach_none, reach_on, reach_value, next_none, next_on, next_value, first_none}
use Rattle.set_selection.proofs.Kept.{first_on, first_value, past_none, past_on, past_value, under_value, spread_none}
use Rattle.set_selection.proofs.Kept.{spread_on, spread_all, later_value, later_first, spread_end, spread_down}
use Rattle.set_selection.proofs.Kept.{earlier_value, earlier_all}
use Rattle.set_selection.specs.Sets.{marked}
use borrow.Author.Tests.{ne_eqb}
use lib.Seq.{get_or-set_same, get_or-set_other}
use Rattle.set_selection.proofs.walks.mark_below.Goals as goal
use Rattle.set_selection.proofs.walks.mark_below.Goals.{then-marks-y, else-marks-y}

pub loop-y-init : goal.loop-y-init
loop-y-init c = record { done = done_none _ _; state = reach_none _ _ }

pub loop-y-preserved : goal.loop-y-preserved
loop-y-preserved c =
    let l = c.loop-y in
    let h : l.y < length l.out = omega (arith, l.auto.out, c.loop-y-test.true) in
    record {
      done = done_on _ h l.invariant.done (reach_value _ _ _ _ (omega arith) l.invariant.state);
      state = reach_on _ _ _ _ _ l.invariant.state
          (elim c.if-marks-y.branch [
            | then-marks-y w ↦ w.reach-is ∙ w.max-reach.ensures ∙ rw (w.if-marks-y.true) refl
            | else-marks-y w ↦ w.reach-is ∙ rw (w.if-marks-y.false) refl
          ]);
    }

pub returns : goal.returns
returns c = image_done _ _ _ _ c.loop-y.invariant.done (omega arith) (omega arith)
