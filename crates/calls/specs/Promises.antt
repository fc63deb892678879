-- What is promised of calls on lent rows and steps.
use Rattle.std.specs.Prelude.{ℕ, ◌≡◌, Bool, List, map, length}
use Rattle.terms.specs.Row.{Row}
use Rattle.matching.specs.private.RowYields.{row_yields}
use Rattle.matching.specs.represent.Sides.{Sides}
use Rattle.calls.specs.Book.{Step, Book, Answer}
use Rattle.calls.specs.StepCall.{premises_of, step_answer_by}
use Rattle.calls.specs.SelectCall.{select_answer, select_buffer}
use Rattle.calls.specs.represent.Answers.{NumberOrRefusal, answer_of}

-- the rows of a step
unfoldable pub sides_of : Step → Sides
sides_of p = record { left = p.left; right = p.right }

-- the rule yields the step, judged by row numbers instead of terms
unfoldable pub row_yielded : Book → Step → Bool
row_yielded b p = row_yields b.rows p.rule (sides_of p) (map sides_of (premises_of b.steps p))

unfoldable pub row_step_answer : Book → Step → Answer
row_step_answer b p = step_answer_by (row_yielded b p) b p

-- a select call on the rows rs, the lent numbers xs from node x and the buffer:
-- the answer t, and the bytes that it leaves
pub record SelectMade (rs : List Row) (row : ℕ) (xs : List ℕ) (x limit : ℕ) (buffer : List ℕ) (t : NumberOrRefusal)
    (left : List ℕ) : Type 0 where
  pub answer : answer_of t ≡ select_answer rs row xs x limit (length buffer)
  pub bytes : left ≡ select_buffer rs row xs x limit buffer
