use Rattle.std.proofs.Common.{refl, sym, ◌∙◌}
use native.Mathlib.Numerals.{unary_clauses}
use Rattle.xml_document.proofs.Passing.{row_passes, placed_attribute, no_attribute}
use Rattle.xml_document.proofs.columns.Columns.is_row_ok.Goals as goal

pub returns-then-row-eq-ATTRIBUTE : goal.returns-then-row-eq-ATTRIBUTE
returns-then-row-eq-ATTRIBUTE c =
    λ e. row_passes c.args.self.now c.args.n _ _ _ _ _ _ (simp unary_clauses at c.row-row.ensures.parent)
    (simp unary_clauses at c.row-row.ensures.kind) (simp unary_clauses at c.row-row.ensures.name)
    c.row-of.ensures.kind c.row-before.ensures.kind c.row-before.ensures.parent
    (c.is_placed-placed.ensures c.if-not-placed.false) c.if-of-gt-ELEMENT.false
    (c.is_named-named.ensures c.if-not-named.false)
    (placed_attribute _ _ (sym c.is_attribute_placed.ensures ∙ e))

pub returns-else-row-eq-ATTRIBUTE : goal.returns-else-row-eq-ATTRIBUTE
returns-else-row-eq-ATTRIBUTE c =
    λ e. row_passes c.args.self.now c.args.n _ _ _ _ _ _ (simp unary_clauses at c.row-row.ensures.parent)
    (simp unary_clauses at c.row-row.ensures.kind) (simp unary_clauses at c.row-row.ensures.name)
    c.row-of.ensures.kind c.row-before.ensures.kind c.row-before.ensures.parent
    (c.is_placed-placed.ensures c.if-not-placed.false) c.if-of-gt-ELEMENT.false
    (c.is_named-named.ensures c.if-not-named.false)
    (no_attribute _ _ c.if-row-eq-ATTRIBUTE.false)
