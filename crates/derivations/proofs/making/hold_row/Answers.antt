-- The call leads from a session that calls lead to.
use Rattle.derivations.proofs.Made.{made_more}
use Rattle.derivations.proofs.making.hold_row.Goals as goal

pub returns : goal.returns
returns c = made_more _ _ _ _ c.term.ensures.met c.requires
