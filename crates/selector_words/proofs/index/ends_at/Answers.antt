-- `ends_at` meets its contract.
use Rattle.std.proofs.Common.{rules}
use Rattle.selector_words.proofs.Indexed.{ended_get}
use Rattle.selector_words.proofs.index.ends_at.Goals as goal

pub returns : goal.returns
returns c = ended_get c.args.list.now c.args.at c.get.result c.is_none_or.result (search rules) (search rules)
