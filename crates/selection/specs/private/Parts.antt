-- What the parts of an evaluation find: a path's marks, a qualifier's value.
use Rattle.std.specs.Prelude.{ℕ, ◌≡◌, List, [], ◌∷◌, length, get_or, take, Option}
use Rattle.xpath.specs.Document.{Document}
use Rattle.xpath.specs.Term.{Path, Qualifier, Void, Root, AxisStep}
use Rattle.xpath.specs.Meaning.{selects, holds}
use Rattle.xpath.specs.Visits.{visits, qualifier_visits}
use Rattle.xpath.specs.private.Checked.{doc}
use Rattle.terms.specs.Row.{Row, table_of}
use Rattle.terms.specs.Terms.{Term, terms}
use Rattle.marking.specs.private.Added.{Added}
use Rattle.selection.specs.declared.context.Context.{Context}
use Rattle.selection.specs.declared.evaluation.Found.{Found}
use Rattle.selection.specs.private.Limit.{UnderLimit}

-- the document, and the terms of the first `top` rows, that a context lends
abbrev pub document_in : Context → Document
document_in c = doc c.lent.now.document

abbrev pub terms_in : Context → List Term
terms_in c = terms (take c.top (table_of c.lent.now.rows.now))

-- what p selects is marked in `new` beside what `old` marks; the result is the visits made
abbrev pub PathAdded : Context → Path → (limit : ℕ) → Option ℕ → (old new : List ℕ) → Type 0
PathAdded c p limit result old new =
    UnderLimit (λ made. made) (λ _. Added (length (document_in c)) old new (selects (document_in c) p c.x))
    (visits (document_in c) p c.x) limit result

-- the value is that of f
abbrev pub QualifierFound : Context → Qualifier → (limit : ℕ) → Option Found → Type 0
QualifierFound c f limit result =
    UnderLimit (λ v. v.visits) (λ v. v.holds ≡ holds (document_in c) f c.x) (qualifier_visits (document_in c) f c.x)
    limit result

-- the path of a row without operands; what is no such row is read as the void path
unfoldable pub leaf_path : Row → Path
leaf_path r = get_or (Void ∷ Root ∷ AxisStep r.a r.b r.c ∷ []) r.kind Void
