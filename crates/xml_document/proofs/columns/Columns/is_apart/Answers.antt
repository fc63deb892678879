use Rattle.std.proofs.Common.{sym, ◌∙◌}
use native.Mathlib.Numerals.{unary_clauses}
use Rattle.xml_document.proofs.Passing.{apart_passes}
use Rattle.xml_document.proofs.columns.Columns.is_apart.Goals as goal

pub returns : goal.returns
returns c =
    λ e. apart_passes c.args.self.now c.args.n _ _ _ _ c.row-row.ensures.kind c.row-row.ensures.parent
    (simp unary_clauses at c.row-next.ensures.kind) (simp unary_clauses at c.row-next.ensures.parent)
    (sym c.are_texts_apart.ensures ∙ e)
