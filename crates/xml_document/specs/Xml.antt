-- The documents that XML can have.
use Rattle.std.specs.Prelude.{ℕ, suc, ◌≡◌, ◌≤◌, ◌-◌, Bool, true, not, cond, ◌&&◌, ◌||◌, List, eqb, length, All}
use Rattle.common.specs.Bounded.{all_below, sum_below}
use Rattle.common.specs.NodeKinds.{element_kind, text_kind}
use Rattle.xpath.specs.Document.{Document, kind_at, parent_at, well_formed}
use Rattle.documents.specs.Columns.{rows_of, Even}
use Rattle.xml_document.specs.Renumbering.{Renumbers}

-- a row, if it is a text, stands in an element: the root has none
unfoldable pub inside_by : (kind parent : ℕ) → Bool
inside_by k p = not (eqb k text_kind) || not (eqb p 0)

unfoldable pub text_inside : Document → ℕ → Bool
text_inside d n = inside_by (kind_at d n) (parent_at d n)

-- two rows, the second after the first, are no adjacent texts, two of one parent: a text has no children, so that the
-- row after it is its next sibling, if it has one
unfoldable pub apart_by : (kind parent next_kind next_parent : ℕ) → Bool
apart_by k p l q = not (eqb k text_kind) || not (eqb l text_kind) || not (eqb p q)

unfoldable pub texts_apart : Document → ℕ → Bool
texts_apart d n = apart_by (kind_at d n) (parent_at d n) (kind_at d (suc n)) (parent_at d (suc n))

-- a row is an element child of the root
unfoldable pub document_element_by : (kind parent : ℕ) → Bool
document_element_by k p = eqb k element_kind && eqb p 0

-- how many of the first n rows are
unfoldable pub document_elements : Document → ℕ → ℕ
document_elements d n = sum_below n (λ i. cond (document_element_by (kind_at d i) (parent_at d i)) 1 0)

-- a document that XML can have: XML 1.0, [1] document and [43] content
pub record IsXml (d : Document) : Type 0 where
  pub formed : well_formed d ≡ true
  pub inside : all_below (length d) (text_inside d) ≡ true
  pub apart : all_below (length d - 1) (texts_apart d) ≡ true
  pub one : document_elements d (length d) ≡ 1

-- the columns of kinds, parents and names stand for one, whatever numbers of 1 to max_number the names get
pub record AreXml (ks ps ns : List ℕ) : Type 0 where
  pub even : Even ks ps ns
  pub document : (ms : List ℕ) → Renumbers ns ms → IsXml (rows_of ks ps ms)

-- a column of as many numbers as there are rows, each at most the one given
pub record IsColumn (rows most : ℕ) (xs : List ℕ) : Type 0 where
  pub size : length xs ≡ rows
  pub within : All (λ x. x ≤ most) xs
