-- `walk` meets its contract.
use mathlib.Core.Bool.{false}
use Rattle.selector_words.specs.private.Names.{Searched}
use Rattle.selector_words.proofs.list.Search.walk.Given as goal

abbrev pub invariant-loop-i : goal.invariant-loop-i
invariant-loop-i l = Searched l.self.names.now l.self.word.bytes.now l.from l.i l.ends false
