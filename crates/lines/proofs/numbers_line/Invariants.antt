-- `numbers_line` meets its contract. The loop's invariant: the line starts with the numbers so far and goes on at
-- `from`.
use Prim.Native.Nat.{◌+◌, ◌-◌}
use mathlib.Core.Path.{◌≡◌}
use lib.ListN.{length, take}
use Rattle.lines.proofs.LineRead.{CountedOn}
use Rattle.lines.proofs.numbers_line.Given as goal

abbrev pub invariant-loop-n : goal.invariant-loop-n
invariant-loop-n g l = (length l.n-items + 1 ≡ g.row.N)
    × CountedOn g.row.N l.bytes l.at l.from (g.row.N - l.n-index) (take l.n-index l.n-items)
