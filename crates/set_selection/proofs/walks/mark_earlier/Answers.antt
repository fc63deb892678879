-- `mark_earlier` meets its contract.
use Rattle.std.proofs.Common.{ℕ, ◌≡◌, ◌<◌, ◌≤◌, ◌+◌, ◌-◌, ◌&&◌, Bool, true, false, suc, ◌∙◌, sym, refl, ap, List}
use Rattle.std.proofs.Common.{rules, arith, length, get_or, eqb, not}
use Rattle.set_selection.proofs.Written.{done_none, done_on, from_on, image_done, image_from, DoneBelow, DoneFrom}
use Rattle.set_selection.proofs.Kept.{reach_none, reach_on, reach_value, next_none, next_on, next_value, first_none}
use Rattle.set_selection.proofs.Kept.{first_on, first_value, past_none, past_on, past_value, under_value, spread_none}
use Rattle.set_selection.proofs.Kept.{spread_on, spread_all, later_value, later_first, spread_end, spread_down}
use Rattle.set_selection.proofs.Kept.{earlier_value, earlier_all}
use Rattle.set_selection.specs.Sets.{marked}
use borrow.Author.Tests.{ne_eqb}
use lib.Seq.{get_or-set_same, get_or-set_other}
use Rattle.set_selection.proofs.walks.mark_earlier.Goals as goal

pub loop-y-init : goal.loop-y-init
loop-y-init c =
    record {
      done = record { each = λ k h i. absurd (omega arith) };
      low = λ k h. c.requires.out.none k;
      state = spread_end _ _ _ _ (omega arith) c.requires.seen;
    }

pub loop-y-preserved : goal.loop-y-preserved
loop-y-preserved c =
    let l = c.loop-y in
    let s : suc (l.y - 1) ≡ l.y = omega arith in
    let h : l.y - 1 < length l.out = omega (arith, l.auto.out) in
    let p : get_or c.args.parents.now (l.y - 1) 0 < length c.args.parents.now =
    c.requires.within.each (l.y - 1) (omega arith) in
    let d = rw (← s) at l.invariant.done in
    record {
      done = from_on _ h d (earlier_value _ _ _ _ _ s (omega arith) l.invariant.state);
      low = λ k i. let ne : ¬ (k ≡ l.y - 1) = λ e. omega arith in
          get_or-set_other l.out (l.y - 1) k _ false ne ∙ l.invariant.low k i;
      state = spread_down _ _ _ _ _ _ s (omega arith) (omega arith) l.invariant.state (rw (c.if-marks-y.false) refl);
    }

pub loop-y-preserved-then-marks-y : goal.loop-y-preserved-then-marks-y
loop-y-preserved-then-marks-y c =
    let l = c.loop-y in
    let s : suc (l.y - 1) ≡ l.y = omega arith in
    let h : l.y - 1 < length l.out = omega (arith, l.auto.out) in
    let p : get_or c.args.parents.now (l.y - 1) 0 < length c.args.parents.now =
    c.requires.within.each (l.y - 1) (omega arith) in
    let d = rw (← s) at l.invariant.done in
    record {
      done = from_on _ h d (earlier_value _ _ _ _ _ s (omega arith) l.invariant.state);
      low = λ k i. let ne : ¬ (k ≡ l.y - 1) = λ e. omega arith in
          get_or-set_other l.out (l.y - 1) k _ false ne ∙ l.invariant.low k i;
      state = spread_down _ _ _ _ _ _ s (omega arith) (omega arith) l.invariant.state (rw (c.if-marks-y.true) refl);
    }

pub returns : goal.returns
returns c =
    earlier_all _ _ _ _ c.loop-y-test.false (omega arith) c.loop-y.invariant.done c.loop-y.invariant.low
