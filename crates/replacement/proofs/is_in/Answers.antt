-- `is_in` meets its contract.
use mathlib.Core.Path.{◌∙◌}
use Rattle.replacement.proofs.In.{is_in_lem}
use Rattle.replacement.proofs.is_in.Goals as goal

pub returns : goal.returns
returns c = c.contains.ensures.value ∙ is_in_lem c.args.list.now c.args.n
