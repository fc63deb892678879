use Rattle.std.proofs.Common.{suc, sym, ◌∙◌}
use native.Mathlib.Numerals.{unary_clauses}
use Rattle.xml_document.proofs.Passing.{inside_passes}
use Rattle.xml_document.proofs.columns.Columns.is_inside.Goals as goal

pub returns : goal.returns
returns c =
    λ e. inside_passes c.args.self.now (suc c.args.n) _ _ (simp unary_clauses at c.row-row.ensures.kind)
    (simp unary_clauses at c.row-row.ensures.parent) (sym c.is_text_inside.ensures ∙ e)
