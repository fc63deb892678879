use Rattle.std.proofs.Common.{length, ◌≤◌}
use Rattle.xml_text.proofs.characters.colon_of.Given as goal

abbrev pub invariant-loop-i : goal.invariant-loop-i
invariant-loop-i l = l.colon ≤ length l.name
