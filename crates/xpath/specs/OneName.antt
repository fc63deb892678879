-- Documents that differ in the name of one node.
use Rattle.std.specs.Prelude.{ℕ, ◌+◌, ◌*◌, ◌≡◌, List, length, get_or, set}
use Rattle.xpath.specs.Document.{Document, node, kind_at, parent_at, name_at, document_of, node_width}
use Rattle.xpath.specs.Term.{AxisStep}
use Rattle.xpath.specs.Meaning.{selects}

-- d and e are alike but for the name of node m; neither need be well formed
pub record SameButName (m : ℕ) (d e : Document) : Type 0 where
  pub size : length d ≡ length e
  pub kinds : (y : ℕ) → kind_at d y ≡ kind_at e y
  pub parents : (y : ℕ) → parent_at d y ≡ parent_at e y
  pub names : (y : ℕ) → ¬ (y ≡ m) → name_at d y ≡ name_at e y

-- a step from one context node selects the same of the other nodes on both
abbrev pub StepSameElsewhere : Type 0
StepSameElsewhere = (m : ℕ) (d e : Document) → SameButName m d e → (a t c x y : ℕ) → ¬ (y ≡ m)
    → selects d (AxisStep a t c) x y ≡ selects e (AxisStep a t c) x y

-- lent numbers that are alike but for the name of row m, the third number of it
pub record LentSameButName (m : ℕ) (xs ys : List ℕ) : Type 0 where
  pub size : length xs ≡ length ys
  pub numbers : (i : ℕ) → ¬ (i ≡ node_width * m + 2) → get_or xs i 0 ≡ get_or ys i 0

-- their documents are so alike
abbrev pub LentDocuments : Type 0
LentDocuments = (m : ℕ) (xs ys : List ℕ) → LentSameButName m xs ys → SameButName m (document_of xs) (document_of ys)

-- with another name for one node, a document and lent numbers are so alike
abbrev pub Renamed : Type 0
Renamed = (d : Document) (m name : ℕ) → SameButName m d (set d m (node (kind_at d m) (parent_at d m) name))

abbrev pub LentRenamed : Type 0
LentRenamed = (xs : List ℕ) (m name : ℕ) → LentSameButName m xs (set xs (node_width * m + 2) name)
