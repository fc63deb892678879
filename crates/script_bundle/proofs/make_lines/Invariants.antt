-- `make_lines` meets its contract: what is filed is what the lines that are left file.
use Prim.Native.Nat.{◌+◌}
use mathlib.Core.Path.{◌≡◌}
use lib.ListN.{length, drop}
use Rattle.lines.specs.Line.{lines}
use Rattle.script_bundle.specs.Filing.{filed, lines_filed}
use Rattle.script_bundle.specs.private.FilingMade.{lent_by}
use Rattle.script_bundle.proofs.make_lines.Given as goal

abbrev pub invariant-loop-i : goal.invariant-loop-i
invariant-loop-i l =
    filed l.script
    ≡ lines_filed l.filed.session (lent_by l.filed) (length l.yielded + 1)
    (drop (length l.yielded) (lines l.script))
