-- `mark_earlier` meets its contract.
use Rattle.std.proofs.Common.{ℕ, ◌≡◌, ◌<◌, not, eqb, ltb, leb, false, length, get_or}
use Rattle.set_selection.specs.Sets.{marked, image, NoMarks}
use Rattle.set_selection.specs.Walks.{is_under, is_over, is_below, is_above, is_after, is_before, is_later, is_earlier}
use Rattle.set_selection.proofs.Written.{DoneBelow, DoneFrom}
use Rattle.set_selection.proofs.Kept.{Reach, Next, First, Past, Spread, SpreadFrom}
use Rattle.set_selection.proofs.walks.mark_earlier.Given as goal

abbrev pub invariant-loop-y : goal.invariant-loop-y
invariant-loop-y l =
    record {
      done : DoneFrom (image (is_earlier l.parents) l.marks) l.y l.out;
      low : (k : ℕ) → k < 1 → marked l.out k ≡ false;
      state : SpreadFrom l.marks l.parents l.y l.seen;
    }
