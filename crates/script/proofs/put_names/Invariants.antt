-- `put_names` meets its contract: the first i bytes are written.
use mathlib.Core.Path.{◌≡◌}
use lib.ListN.{length, take}
use Rattle.script.specs.Rest.{names_of}
use Rattle.script.proofs.put_names.Given as goal

abbrev pub invariant-loop-i : goal.invariant-loop-i
invariant-loop-i l = (take l.i l.out ≡ take l.i (names_of l.bytes)) × (length l.out ≡ length l.initial.out)
