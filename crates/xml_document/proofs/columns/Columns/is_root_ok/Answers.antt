use Rattle.std.proofs.Common.{arith, sym, ◌∙◌}
use borrow.Author.Tests.{eqb-true}
use Rattle.xml_document.proofs.Passing.{root_passes}
use Rattle.xml_document.proofs.columns.Columns.is_root_ok.Goals as goal

pub returns : goal.returns
returns c =
    λ e. root_passes _ (omega (arith, c.row-row.ensures.kind)) (omega (arith, c.row-row.ensures.parent))
    (sym c.row-row.ensures.name ∙ eqb-true _ _ e)
