-- Marks that are added to marks.
use Rattle.std.specs.Prelude.{ℕ, ◌≤◌, ◌<◌, ◌≡◌, Bool, true, not, cond, ◌&&◌, List, eqb, length, get_or}
use Rattle.xpath.specs.Document.{Document, is_attribute, is_child}
use Rattle.common.specs.Axes.{attribute}
use Rattle.xpath.specs.private.Tests.{picks}

-- y is marked: its mark is 1
abbrev pub marked : List ℕ → ℕ → Bool
marked m y = eqb (get_or m y 0) 1

-- of the first n nodes, those of the set s have 1 in `new`, and the others what they had in `old`
pub record Added (n : ℕ) (old new : List ℕ) (s : ℕ → Bool) : Type 0 where
  pub size : length new ≡ length old
  pub marks : (y : ℕ) → y < n → get_or new y 0 ≡ cond (s y) 1 (get_or old y 0)

-- y is a node that axis a, one of child, descendant, the siblings, following, preceding and attribute, may hold: an
-- attribute on axis 11, another node on any other
unfoldable pub may_hold : ℕ → Document → ℕ → Bool
may_hold a d y = cond (eqb a attribute) (is_attribute d y) (not (is_attribute d y))

-- axis a may hold y, and y is one of the nodes that `has` tells by their kinds and names
abbrev pub candidate : ℕ → (has : (kind name : ℕ) → Bool) → Document → ℕ → Bool
candidate a has d y = may_hold a d y && picks has d y

-- lo is a child of p unless hi is reached; hi is no further than the end of p's subtree
pub record ChildrenFrom (d : Document) (es : List ℕ) (p lo hi : ℕ) : Type 0 where
  pub parent : p < length d
  pub ordered : lo ≤ hi
  pub inside : hi ≤ get_or es p 0
  pub first : lo < hi → is_child d p lo ≡ true
