-- `look` meets its contract.
use Rattle.selector_words.proofs.Listed.{LookMet}
use Rattle.selector_words.proofs.list.Search.look.Given as goal

abbrev pub invariant-loop-k : goal.invariant-loop-k
invariant-loop-k l = LookMet l.self.names.now l.self.word.bytes.now l.at l.k l.ends l.may
