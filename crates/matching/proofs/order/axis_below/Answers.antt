-- What the test over the whole table says of the pair that is sought.
use mathlib.Core.Path.{◌∙◌}
use Rattle.rules.specs.Order.{axis_pairs, axis_below}
use Rattle.matching.proofs.AxisOrder.{found_alike}
use Rattle.matching.proofs.order.axis_below.Goals as goal

pub returns : goal.returns
unfolding axis_below
returns c = let a = c.args in c.is_pair.ensures ∙ found_alike _ axis_pairs c.axis_pairs.ensures a.a a.b
