-- What a step says, and when that is true.
use Rattle.std.specs.Prelude.{ℕ, ◌<◌, cond, List, T, length}
use Rattle.xpath.specs.Document.{Document, well_formed}
use Rattle.xpath.specs.Term.{Path, Qualifier}
use Rattle.xpath.specs.Meaning.{selects, holds}
use Rattle.terms.specs.Row.{Row, row_at}
use Rattle.terms.specs.Fields.{is_path}
use Rattle.terms.specs.Terms.{path_at, qualifier_at}

-- the first path is contained in the second; the first qualifier implies the second
pub data Claim : Type 0 where
  Containment : Path → Path → Claim
  Implication : Qualifier → Qualifier → Claim
  deriving Discrete as Claim-discrete

-- what a step with the rows left and right says, read with the rows rs; both are paths, or both are qualifiers
unfoldable pub says : List Row → ℕ → ℕ → Claim
says rs left right =
    cond (is_path (row_at rs left))
    (Containment (path_at rs left) (path_at rs right))
    (Implication (qualifier_at rs left) (qualifier_at rs right))

-- on d, from every node: each node that the first path selects, the second selects;
-- where the first qualifier holds, the second does
unfoldable pub TrueOn : Document → Claim → Type 0
TrueOn d (Containment p q) = (x : ℕ) → x < length d → (y : ℕ) → T (selects d p x y) → T (selects d q x y)
TrueOn d (Implication f g) = (x : ℕ) → x < length d → T (holds d f x) → T (holds d g x)

-- on every well-formed document, of any length
unfoldable pub IsTrue : Claim → Type 0
IsTrue c = (d : Document) → T (well_formed d) → TrueOn d c
