-- The two rows that a step is about.
use Rattle.std.specs.Prelude.{ℕ, Bool, ◌&&◌, ◌||◌, List}
use Rattle.terms.specs.Row.{Row}
use Rattle.terms.specs.Fields.{held_path, held_qualifier}
use Rattle.rules.specs.Claim.{Claim, says}
use Rattle.matching.specs.declared.matcher.Sides.{Sides as CodeSides}

pub record Sides : Type 0 where
  pub left : ℕ
  pub right : ℕ

abbrev pub sides : ℕ → ℕ → Sides
sides l r = record { left = l; right = r }

-- those of the code's value
abbrev pub sides_in : CodeSides → Sides
sides_in s = sides s.left s.right

-- both rows are held paths, or both are held qualifiers
unfoldable pub one_sort : List Row → Sides → Bool
one_sort rs s =
    held_path rs s.left && held_path rs s.right || held_qualifier rs s.left && held_qualifier rs s.right

-- what such a step says
abbrev pub says_of : List Row → Sides → Claim
says_of rs s = says rs s.left s.right
