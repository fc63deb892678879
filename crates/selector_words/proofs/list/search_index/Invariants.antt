-- `search_index` meets its contract.
use Rattle.selector_words.proofs.Indexed.{Before}
use Rattle.selector_words.proofs.list.search_index.Given as goal

abbrev pub invariant-loop-k : goal.invariant-loop-k
invariant-loop-k l = Before l.names.list.now l.word.bytes.now l.k
