-- The documents of trees, and sets of their nodes.
use Rattle.std.specs.Prelude.{ℕ, ◌≡◌, ◌<◌, Bool, List, eqb, length, take}
use Rattle.xpath.specs.Document.{Document}
use Rattle.xpath.specs.Term.{Qualifier}
use Rattle.xpath.specs.Meaning.{holds}
use Rattle.terms.specs.Row.{Row, table_of}
use Rattle.terms.specs.Terms.{Term, terms}
use Rattle.set_selection.specs.declared.columns.Columns.{Columns}
use Rattle.set_selection.specs.declared.evaluation.Evaluation.{Evaluation}
use Rattle.set_selection.specs.Sets.{marked}
use Rattle.documents.specs.Columns.{rows_of}

abbrev pub doc : Columns → Document
doc t = rows_of t.kinds.now t.parents.now t.names.now

abbrev pub document_in : Evaluation → Document
document_in e = doc e.columns.now

abbrev pub rows_in : Evaluation → List Row
rows_in e = table_of e.rows.now

-- the terms of the first `top` rows
abbrev pub terms_before : Evaluation → (top : ℕ) → List Term
terms_before e top = terms (take top (rows_in e))

-- out has just the nodes at which f is true
pub record Holding (d : Document) (f : Qualifier) (out : List Bool) : Type 0 where
  pub size : length out ≡ length d
  pub each : (y : ℕ) → y < length d → marked out y ≡ holds d f y

-- out has x and no other node
pub record Only (n x : ℕ) (out : List Bool) : Type 0 where
  pub size : length out ≡ n
  pub each : (y : ℕ) → y < n → marked out y ≡ eqb x y
