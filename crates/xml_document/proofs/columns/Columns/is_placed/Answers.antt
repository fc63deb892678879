use Rattle.std.proofs.Common.{arith, refl}
use borrow.Author.Tests.{eqb-true}
use Rattle.xml_document.proofs.Passing.{climb_starts, climb_goes, climb_ends}
use Rattle.xml_document.proofs.columns.Columns.is_placed.Goals as goal

pub loop-at-init : goal.loop-at-init
loop-at-init c = (c.requires, climb_starts _ _ _)

pub loop-at-preserved : goal.loop-at-preserved
loop-at-preserved c = (omega arith, climb_goes _ _ _ _ _ c.loop-at.invariant.1 refl (omega arith))

pub returns : goal.returns
returns c = λ e. climb_ends _ _ _ _ c.loop-at.invariant.1 (eqb-true _ _ e)
