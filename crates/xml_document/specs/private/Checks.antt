-- What the parts of the check of columns promise each other.
use Rattle.std.specs.Prelude.{ℕ, suc, ◌≡◌, ◌-◌, ◌≤◌, Bool, true, ◌||◌, ◌&&◌, List, eqb, length}
use Rattle.common.specs.Bounded.{all_below}
use Rattle.common.specs.NodeKinds.{element_kind, attribute_kind}
use Rattle.xpath.specs.Document.{Document, is_ancestor, row_ok}
use Rattle.documents.specs.Columns.{rows_of}
use Rattle.xml_document.specs.Renumbering.{Renumbers}
use Rattle.xml_document.specs.Xml.{document_elements, text_inside, texts_apart}
use Rattle.xml_document.specs.declared.columns.Columns.{Columns}

-- a test passes on the document of the columns, whatever numbers the names get
pub record Passes (c : Columns) (test : Document → Bool) : Type 0 where
  pub passes : (ms : List ℕ) → Renumbers c.names.now ms → test (rows_of c.kinds.now c.parents.now ms) ≡ true

-- rows 0 to n are as they must be
pub record RowsOk (c : Columns) (n : ℕ) : Type 0 where
  pub rows : Passes c (λ d. all_below (suc n) (row_ok d))
  pub inside : Passes c (λ d. all_below (suc n) (text_inside d))
  pub apart : Passes c (λ d. all_below n (texts_apart d))

-- so are all, of which there is one
pub record AllOk (c : Columns) : Type 0 where
  pub some : 1 ≤ length c.kinds.now
  pub all : RowsOk c (length c.kinds.now - 1)

-- of the first n rows so many are document elements
pub record Counts (c : Columns) (n count : ℕ) : Type 0 where
  pub counts : (ms : List ℕ) → Renumbers c.names.now ms →
      count ≡ document_elements (rows_of c.kinds.now c.parents.now ms) n
  pub within : count ≤ n

-- p is row n or an ancestor of it
unfoldable pub reaches : (p n : ℕ) → Document → Bool
reaches p n d = eqb p n || is_ancestor d p n

-- an attribute of row p, of this kind, stands right behind row n, which has a kind and a parent
unfoldable pub placed_by : (p parent_kind n kind parent : ℕ) → Bool
placed_by p l n k q = eqb l element_kind && (eqb p n || eqb k attribute_kind && eqb q p)
