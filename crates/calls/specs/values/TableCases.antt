-- The rows and steps of tables, by computation.
use Rattle.std.specs.Prelude.{ℕ, ◌≡◌, refl, List, [], ◌∷◌, length, replicate}
use Rattle.common.specs.values.Expected.{◌is◌, AllRight}
use Rattle.terms.specs.Row.{row, table_of}
use Rattle.matching.specs.represent.Sides.{sides_in}
use Rattle.matching.specs.represent.Sides.{sides}
use Rattle.calls.specs.Book.{step, step_of_numbers}
use Rattle.calls.specs.represent.Answers.{step_of}
use Rattle.calls.specs.represent.Tables.{steps_of, first_rows, first_steps}

abbrev two_rows : List ℕ
two_rows = 2 ∷ 1 ∷ 0 ∷ 2 ∷ 6 ∷ 0 ∷ 0 ∷ 0 ∷ []

-- an incomplete last step is none
incomplete_steps :
    AllRight
    (steps_of (8 ∷ 0 ∷ 1 ∷ 0 ∷ 0 ∷ 3 ∷ []) is (step 8 0 1 0 0 ∷ [])
    ∷ steps_of (8 ∷ 0 ∷ 1 ∷ 0 ∷ 0 ∷ 3 ∷ 1 ∷ []) is (step 8 0 1 0 0 ∷ [])
    ∷ steps_of (8 ∷ 0 ∷ 1 ∷ 0 ∷ 0 ∷ 3 ∷ 1 ∷ 2 ∷ []) is (step 8 0 1 0 0 ∷ [])
    ∷ steps_of (8 ∷ 0 ∷ 1 ∷ 0 ∷ 0 ∷ 3 ∷ 1 ∷ 2 ∷ 1 ∷ []) is (step 8 0 1 0 0 ∷ [])
    ∷ [])
unfolding steps_of
incomplete_steps = refl

-- a step as the code has it, and of five numbers, field by field
steps_by_fields :
    AllRight
    (step_of (record { rule = 3; left = 4; right = 5; first = 1; second = 2 }) is step 3 4 5 1 2
    ∷ step_of_numbers (3 ∷ 4 ∷ 5 ∷ 1 ∷ 2 ∷ []) is step 3 4 5 1 2
    ∷ [])
steps_by_fields = refl

-- the sides of a step as the code has them
sides_by_fields : AllRight (sides_in (record { left = 4; right = 5 }) is sides 4 5 ∷ [])
sides_by_fields = refl

-- none, one, and more than there are
rows_first :
    AllRight
    (first_rows 0 two_rows is []
    ∷ first_rows 1 two_rows is (row 2 1 0 2 ∷ [])
    ∷ first_rows 3 two_rows is (row 2 1 0 2 ∷ row 6 0 0 0 ∷ [])
    ∷ [])
unfolding table_of
rows_first = refl

-- a count above its limit, where the table has more
rows_past_limit : length (first_rows 1025 (replicate 4100 0)) ≡ 1024
unfolding table_of
rows_past_limit = refl

steps_past_limit : length (first_steps 2049 (replicate 10245 0)) ≡ 2048
unfolding steps_of
steps_past_limit = refl
