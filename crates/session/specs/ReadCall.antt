-- What the call read promises.
use Rattle.std.specs.Prelude.{ℕ, ◌≡◌, List, Result, is_ok}
use Rattle.calls.specs.declared.answer.LineRefusal.{LineRefusal}
use Rattle.session.specs.represent.Results.{ReadResult}
use Rattle.calls.specs.Book.{Answer, accepted}
use Rattle.calls.specs.represent.Answers.{answer_with, line_answer}
use Rattle.session.specs.Reading.{Reading, reading}

abbrev pub read_answer_of : Result ℕ LineRefusal → Answer
read_answer_of = answer_with (λ n. n) line_answer

abbrev pub reading_of : ReadResult → Reading
reading_of t = record { answer = read_answer_of t.answer; session = t.session }

-- `Session::read` on the bytes: the answer, which is Ok just where its number is 0, and the whole session
pub record ReadMet (bytes : List ℕ) (t : ReadResult) : Type 0 where
  pub answer : read_answer_of t.answer ≡ (reading bytes).answer
  pub variant : is_ok t.answer ≡ accepted (reading bytes).answer
  pub session : t.session ≡ (reading bytes).session
