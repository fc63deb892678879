-- Two numbers are a pair of the table just where both of them are.
use mathlib.Core.Path.{◌∙◌}
use Rattle.matching.proofs.AxisOrder.{pair_found}
use Rattle.matching.proofs.order.is_pair.Goals as goal

pub returns : goal.returns
returns c = let a = c.args in c.contains.ensures.value ∙ pair_found a.a a.b a.pairs.now
