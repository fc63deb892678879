-- Tables of numbers as rows and as steps.
use Rattle.std.specs.Prelude.{ℕ, ◌*◌, ◌≡◌, Bool, true, false, ◌&&◌, min, List, [], ◌∷◌, leb, length, take}
use Rattle.std.specs.Prelude.{Option, Some, None}
use Rattle.terms.specs.Row.{Row, table_of, max_rows}
pub use Rattle.terms.specs.Row.{row_width}
use Rattle.calls.specs.declared.held.Held.{Held}
use Rattle.calls.specs.declared.step.Step.{Step as CodeStep}
use Rattle.calls.specs.Book.{Step, step, max_steps, Book, book}
use Rattle.calls.specs.StepCall.{step_numbered}
use Rattle.calls.specs.represent.Answers.{step_of}

-- how many numbers a step has
abbrev pub step_width : ℕ
step_width = 5

-- the steps of a list of numbers, five a step, without an incomplete last step
unfoldable pub steps_of : List ℕ → List Step
steps_of [] = []
steps_of (n ∷ []) = []
steps_of (n ∷ l ∷ []) = []
steps_of (n ∷ l ∷ r ∷ []) = []
steps_of (n ∷ l ∷ r ∷ i ∷ []) = []
steps_of (n ∷ l ∷ r ∷ i ∷ j ∷ xs) = step n l r i j ∷ steps_of xs

-- whether ps has a step numbered i, counted from 1
abbrev pub is_numbered : List Step → (i : ℕ) → Bool
is_numbered ps i = leb 1 i && leb i (length ps)

-- o is step i of ps, counted from 1; none where there is none
abbrev pub StepIs : Option CodeStep → List Step → (i : ℕ) → Type 0
StepIs None ps i = is_numbered ps i ≡ false
StepIs (Some p) ps i = (step_of p ≡ step_numbered ps i) × (is_numbered ps i ≡ true)

-- how many rows and steps a count says are held: one above the limit is read as the limit
abbrev pub rows_counted : ℕ → ℕ
rows_counted n = min n max_rows

abbrev pub steps_counted : ℕ → ℕ
steps_counted n = min n max_steps

-- the numbers of the first n rows and steps
abbrev pub first_row_numbers : (n : ℕ) → List ℕ → List ℕ
first_row_numbers n xs = take (row_width * rows_counted n) xs

abbrev pub first_step_numbers : (n : ℕ) → List ℕ → List ℕ
first_step_numbers n xs = take (step_width * steps_counted n) xs

-- the first n rows and steps
abbrev pub first_rows : (n : ℕ) → List ℕ → List Row
first_rows n xs = table_of (first_row_numbers n xs)

abbrev pub first_steps : (n : ℕ) → List ℕ → List Step
first_steps n xs = steps_of (first_step_numbers n xs)

-- the book of lent rows and steps, without points
abbrev pub book_held : Held → Book
book_held held = book (table_of held.rows.now) (steps_of held.steps.now)
