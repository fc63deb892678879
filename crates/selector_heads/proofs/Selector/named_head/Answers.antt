-- `named_head` meets its contract.
use Rattle.selector_heads.proofs.Headed.{named_some, named_none}
use Rattle.selector_heads.proofs.Selector.named_head.Goals as goal

pub returns-in-Some : goal.returns-in-Some
returns-in-Some c = named_some c.args.at c.args.axis c.args.test c.args.from _ _ c.in-Some.ensures

pub returns-in-None : goal.returns-in-None
returns-in-None c = named_none c.args.at c.args.axis c.args.test c.args.from _ c.in-None.ensures
