-- `root_ok` meets its contract.
use borrow.Author.Rules.{rules}
use Rattle.xpath.specs.Document.{kind_at, parent_at, name_at}
use Rattle.xpath.proofs.document.root_ok.Goals as goal

pub returns : goal.returns
unfolding kind_at parent_at name_at
returns c = search rules
