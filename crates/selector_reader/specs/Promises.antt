-- What `read_text` promises.
use Rattle.std.specs.Prelude.{ℕ, ◌*◌, ◌≡◌, List, length, take, Result, Ok, Err, OnErr}
use Rattle.terms.specs.Row.{Row, table_of, row_width, table_with}
use Rattle.selector_grammar.specs.Bytes.{Bytes}
use Rattle.selector_grammar.specs.Answer.{Answers}
use Rattle.selector_reader.specs.declared.TextHeld.{TextHeld}
use Rattle.common.specs.declared.refusal.Refusal.{Refusal}
use Rattle.common.specs.represent.Refusal.{refusal_number, refusal_value}

-- the rows that a table holds, as many as are counted
abbrev pub held_rows : List ℕ → ℕ → List Row
held_rows xs count = table_of (take (row_width * count) xs)

-- the number and the value of an answer
abbrev pub text_number : Result TextHeld Refusal → ℕ
text_number (Ok h) = 0
text_number (Err e) = refusal_number e

abbrev pub text_value : Result TextHeld Refusal → ℕ
text_value (Ok h) = h.row
text_value (Err e) = refusal_value e

-- how many rows of the table are held afterwards: a refused text leaves the first n
abbrev pub left_count : ℕ → Result TextHeld Refusal → ℕ
left_count n (Ok h) = h.count
left_count n (Err e) = n

-- `read_text` on the first n rows of the numbers xs, which become ys: number, value and the rows afterwards are those
-- of the definition, and all else of the table is as it was
pub record TextRead (list t : Bytes) (xs : List ℕ) (n : ℕ) (ys : List ℕ) (r : Result TextHeld Refusal) : Type 0 where
  pub after : List Row
  pub answers : Answers list t (held_rows xs n) (text_number r) (text_value r) after
  pub rows : ys ≡ table_with xs n after
  pub count : left_count n r ≡ length after
  pub refused : OnErr r (ys ≡ xs)
