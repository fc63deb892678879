-- Marks that the code holds.
use Rattle.std.specs.Prelude.{ℕ, ◌≤◌, ◌<◌, ◌≡◌, Bool, cond, List, length, get_or}
use Rattle.xpath.specs.Document.{max_nodes}

-- the first n marks are 1 or 0
abbrev pub AreMarks : ℕ → List ℕ → Type 0
AreMarks n m = (y : ℕ) → y < n → get_or m y 0 ≤ 1

-- of the first n nodes, m has 1 for those of the set s, and 0 for the others
abbrev pub Marks : ℕ → List ℕ → (ℕ → Bool) → Type 0
Marks n m s = (y : ℕ) → y < n → get_or m y 0 ≡ cond (s y) 1 0

-- room for every node, and no mark
pub record Clear (m : List ℕ) : Type 0 where
  pub size : length m ≡ max_nodes
  pub zeros : (y : ℕ) → get_or m y 0 ≡ 0
