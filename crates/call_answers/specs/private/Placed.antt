-- What term calls on lent rows promise.
use Rattle.std.specs.Prelude.{ℕ, ◌+◌, ◌*◌, ◌≡◌, cond, List}
use Rattle.std.proofs.lemmas.List.Edits.{sets}
use Rattle.terms.specs.Row.{Row, row_width, row_numbers}
use Rattle.calls.specs.Book.{accepted}
use Rattle.calls.specs.TermCall.{term_answer}
use Rattle.calls.specs.represent.Tables.{first_rows}
use Rattle.calls.specs.represent.Answers.{NumberOrRefusal, answer_of}

-- a term call on the first n rows of the numbers xs: the answer, and the numbers ys that it leaves
pub record TermPlaced (xs : List ℕ) (n : ℕ) (r : Row) (ys : List ℕ) (t : NumberOrRefusal) : Type 0 where
  pub answer : answer_of t ≡ term_answer (first_rows n xs) r
  pub numbers : ys ≡ cond (accepted (term_answer (first_rows n xs) r)) (sets xs (row_width * n) (row_numbers r)) xs

-- a term call on n kept rows of the numbers xs: it is as every term call, and where it is accepted there is one row
-- more
pub record TermKept (xs : List ℕ) (n : ℕ) (r : Row) (ys : List ℕ) (m : ℕ) (t : NumberOrRefusal) : Type 0 where
  pub placed : TermPlaced xs n r ys t
  pub count : m ≡ cond (accepted (term_answer (first_rows n xs) r)) (n + 1) n
