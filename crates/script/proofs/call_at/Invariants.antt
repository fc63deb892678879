-- `call_at` meets its contract. The loop's invariant: the line's word is none of those before.
use Rattle.script.proofs.Table.{Tried}
use Rattle.script.proofs.call_at.Given as goal

abbrev pub invariant-loop-word : goal.invariant-loop-word
invariant-loop-word l = Tried l.bytes l.at l.word-index
