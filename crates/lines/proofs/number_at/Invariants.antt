-- `number_at` meets its contract. The loop's invariant: the number at `at` is the value so far with the digits from i
-- on, counted behind the first.
use Prim.Native.Nat.{◌≤◌}
use mathlib.Core.Path.{◌≡◌}
use lib.ListN.{drop}
use Rattle.lines.specs.private.NumbersRead.{number_cut}
use Rattle.lines.proofs.Scan.{scan}
use Rattle.lines.proofs.number_at.Given as goal

abbrev pub invariant-loop-i : goal.invariant-loop-i
invariant-loop-i l = (l.value ≤ l.most)
    × (number_cut l.most l.end (drop l.at l.bytes) ≡ scan l.most l.end l.value (drop l.i l.others))
