-- `search_index` meets its contract.
use Rattle.selector_words.proofs.Indexed.{before_none}
use Rattle.selector_words.proofs.list.search_index.Goals as goal

pub loop-k-init : goal.loop-k-init
loop-k-init c = before_none c.args.names.list.now c.args.word.bytes.now
