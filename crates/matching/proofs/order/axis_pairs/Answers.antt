-- The test over the whole table: antt computes it.
use mathlib.Core.Path.{refl}
use Rattle.common.specs.Lists.{all_of}
use Rattle.rules.specs.Order.{axis_pairs, is_pair}
use Rattle.matching.specs.private.MatchTypes.{same_pairs}
use Rattle.matching.proofs.order.axis_pairs.Goals as goal

pub returns : goal.returns
unfolding same_pairs all_of is_pair axis_pairs
returns c = refl
