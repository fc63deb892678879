-- The plain book: a list of rows, a list of steps, and its points.
use Rattle.std.specs.Prelude.{ℕ, Bool, ◌≡◌, List, [], ◌∷◌, eqb, get_or}
use Rattle.terms.specs.Row.{Row}

-- a step: `rule left right first second`
pub record Step : Type 0 where
  pub rule : ℕ
  pub left : ℕ
  pub right : ℕ
  pub first : ℕ
  pub second : ℕ

abbrev pub step : ℕ → ℕ → ℕ → ℕ → ℕ → Step
step n l r i j = record { rule = n; left = l; right = r; first = i; second = j }

-- the numbers of a step, in order
abbrev pub step_numbers : Step → List ℕ
step_numbers p = p.rule ∷ p.left ∷ p.right ∷ p.first ∷ p.second ∷ []

-- the step of five numbers
abbrev pub step_of_numbers : List ℕ → Step
step_of_numbers ns = step (get_or ns 0 0) (get_or ns 1 0) (get_or ns 2 0) (get_or ns 3 0) (get_or ns 4 0)

abbrev pub no_step : Step
no_step = step 0 0 0 0 0

abbrev pub max_steps : ℕ
max_steps = 2048

-- a named point: its name, and the rows and steps held when it was set
pub record Point : Type 0 where
  pub name : ℕ
  pub rows : List Row
  pub steps : List Step

abbrev pub point : ℕ → List Row → List Step → Point
point n rs ps = record { name = n; rows = rs; steps = ps }

abbrev pub no_point : Point
no_point = point 0 [] []

abbrev pub max_points : ℕ
max_points = 8

-- the points stand in the order in which they were set
pub record Book : Type 0 where
  pub rows : List Row
  pub steps : List Step
  pub points : List Point

abbrev pub pointed_book : List Row → List Step → List Point → Book
pointed_book rs ps points = record { rows = rs; steps = ps; points = points }

-- a book without points
abbrev pub book : List Row → List Step → Book
book rs ps = pointed_book rs ps []

abbrev pub empty_book : Book
empty_book = book [] []

-- an answer is a number and a value; 0 is acceptance
pub record Answer : Type 0 where
  pub number : ℕ
  pub value : ℕ

abbrev pub answer : ℕ → ℕ → Answer
answer n v = record { number = n; value = v }

abbrev pub accepted : Answer → Bool
accepted t = eqb t.number 0

-- the same, as a statement
abbrev pub IsAccepted : Answer → Type 0
IsAccepted t = t.number ≡ 0
