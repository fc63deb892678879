-- Sets of nodes, as marks.
use Rattle.std.specs.Prelude.{ℕ, Bool, false, ◌&&◌, ◌||◌, ◌≡◌, ◌<◌, List, length, get_or}
use Rattle.common.specs.Bounded.{any_below}

abbrev pub marked : List Bool → ℕ → Bool
marked m y = get_or m y false

-- some marked node is related to y
abbrev pub image : (R : ℕ → ℕ → Bool) → List Bool → ℕ → Bool
image R m y = any_below (length m) (λ x. marked m x && R x y)

-- out has just the nodes that some node of m is related to
pub record Image (R : ℕ → ℕ → Bool) (m out : List Bool) : Type 0 where
  pub size : length out ≡ length m
  pub each : (y : ℕ) → y < length m → marked out y ≡ image R m y

-- new has them beside those of old
pub record MoreImage (R : ℕ → ℕ → Bool) (m old new : List Bool) : Type 0 where
  pub size : length new ≡ length old
  pub each : (y : ℕ) → y < length m → marked new y ≡ (marked old y || image R m y)

pub record NoMarks (m : List Bool) : Type 0 where
  pub none : (y : ℕ) → marked m y ≡ false

-- the mark of each node is f of what it was
pub record Pointwise (old new : List Bool) (f : ℕ → Bool → Bool) : Type 0 where
  pub size : length new ≡ length old
  pub each : (y : ℕ) → y < length old → marked new y ≡ f y (marked old y)
