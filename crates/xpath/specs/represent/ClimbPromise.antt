-- What the ancestor test that the check of a document runs counts and answers, by its contract.
use Rattle.std.specs.Prelude.{ℕ, ◌<◌, ◌≡◌, List, T, length}
use Rattle.xpath.specs.Document.{document_of, is_ancestor, well_formed}
use Rattle.xpath.specs.Climb.{ClimbEnds, Least}
use Rattle.xpath.specs.declared.document.Climb.{Climb}

-- what may be said of a climb: the lent numbers, the row sought, the row climbed from, the row at which subtrees are
-- closed, the ends before, what the climb gives, and the ends after
abbrev pub ClimbRelation : Type 1
ClimbRelation = List ℕ → (x y end : ℕ) → List ℕ → Climb → List ℕ → Type 0

pub record ClimbPromise (Climbed : ClimbRelation) : Type 0 where
  -- whatever the nodes, the climb ends after as many parents as it counts, and not before
  pub ends : (xs : List ℕ) (x y e : ℕ) (es : List ℕ) (r : Climb) (left : List ℕ) → Climbed xs x y e es r left
      → ClimbEnds (document_of xs) x y r.parents
  -- on a well-formed document that is the least number of parents that leads to x or below it
  pub least : (xs : List ℕ) (x y e : ℕ) (es : List ℕ) (r : Climb) (left : List ℕ) → Climbed xs x y e es r left
      → T (well_formed (document_of xs)) → y < length (document_of xs) → Least (document_of xs) x y r.parents
  -- and the answer is that of the climb to the root
  pub answers : (xs : List ℕ) (x y e : ℕ) (es : List ℕ) (r : Climb) (left : List ℕ) → Climbed xs x y e es r left
      → T (well_formed (document_of xs)) → y < length (document_of xs) → r.met ≡ is_ancestor (document_of xs) x y
