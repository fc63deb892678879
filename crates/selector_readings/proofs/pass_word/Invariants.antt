-- `pass_word` meets its contract. The loop's invariant: the bytes so far are those of the name.
use Prim.Native.Nat.{ℕ, ◌+◌, ◌<◌, ◌≤◌}
use mathlib.Core.Path.{◌≡◌}
use lib.ListN.{length, get_or}
use Rattle.selector_words.specs.private.Scan.{byte_at}
use Rattle.selector_readings.proofs.pass_word.Given as goal

abbrev pub invariant-loop-i : goal.invariant-loop-i
invariant-loop-i l = (l.r.at + l.i ≤ length l.s)
    × ((k : ℕ) → k < l.i → byte_at l.s (l.r.at + k) ≡ get_or l.word k 0)
