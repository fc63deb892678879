-- `run` meets its contract: the line that ends it is the first not taken of those that are left.
use Prim.Native.Nat.{◌+◌}
use mathlib.Core.Path.{◌≡◌}
use lib.ListN.{length, drop}
use Rattle.lines.specs.Line.{lines}
use Rattle.script_replay.specs.Transcript.{ending_line}
use Rattle.script_replay.proofs.run.Given as goal

abbrev pub invariant-loop-i : goal.invariant-loop-i
invariant-loop-i l =
    ending_line l.style 1 (lines l.input)
    ≡ ending_line l.style (length l.yielded + 1) (drop (length l.yielded) (lines l.input))
