-- `name_from` meets its contract.
use mathlib.Core.Path.{refl}
use Rattle.selector_heads.proofs.name_from.Goals as goal

pub returns : goal.returns
returns c = (refl, record { begins = c.requires; names = c.name_end-end.ensures; spaces = c.skip-after.ensures })
