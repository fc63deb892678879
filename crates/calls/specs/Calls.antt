-- The calls of a list, and the plain book that is fed them.
use Rattle.std.specs.Prelude.{ℕ, List}
use Rattle.common.specs.Lists.{Every}
use Rattle.terms.specs.Row.{Row}
use Rattle.selector_grammar.specs.Bytes.{Bytes}
use Rattle.calls.specs.Book.{Step, Book, empty_book, Answer, IsAccepted}
use Rattle.calls.specs.TermCall.{term_answer, term_book}
use Rattle.calls.specs.StepCall.{step_answer, step_book}
use Rattle.calls.specs.TextCall.{text_answer, text_book}
use Rattle.calls.specs.PointCall.{point_names, point_answer, return_answer, point_book, return_book}
use Rattle.calls.specs.Promises.{row_step_answer}
use Rattle.calls.specs.Runs.{Machine, Seen, shown, final, Reached}

-- the kinds of calls
pub data Call : Type 0 where
  term : Row → Call
  step : Step → Call
  text : (names t : Bytes) → Call
  point : (name : ℕ) → Call
  return : (name : ℕ) → Call

-- the first refusal that applies, else the acceptance
abbrev pub book_answer : Book → Call → Answer
book_answer b (term r) = term_answer b.rows r
book_answer b (step p) = step_answer b p
book_answer b (text names t) = text_answer b.rows names t
book_answer b (point n) = point_answer (point_names b.points) n
book_answer b (return n) = return_answer (point_names b.points) n

-- the book with an accepted call
abbrev pub book_with : Book → Call → Book
book_with b (term r) = term_book b r
book_with b (step p) = step_book b p
book_with b (text names t) = text_book b names t
book_with b (point n) = point_book b n
book_with b (return n) = return_book b n

abbrev pub plain_book : Machine Book Call
plain_book = record { answer = book_answer; with = book_with }

-- what is seen of a call: its answer, and the rows, steps and points held after it
abbrev pub CallSeen : Type 0
CallSeen = Seen Book

-- each call was accepted
abbrev pub AllAccepted : List CallSeen → Type 0
AllAccepted os = Every (λ (o : CallSeen). IsAccepted o.answer) os

-- what is seen of calls made in order on a fresh book, and the book after them
abbrev pub book_seen : List Call → List CallSeen
book_seen cs = shown plain_book empty_book cs

abbrev pub book_after : List Call → Book
book_after cs = final plain_book empty_book cs

-- the books that lists of calls lead to
abbrev pub Reachable : Book → Type 0
Reachable = Reached plain_book empty_book

-- the answers again, with steps judged by row numbers instead of terms
abbrev pub row_answer : Book → Call → Answer
row_answer b (term r) = term_answer b.rows r
row_answer b (step p) = row_step_answer b p
row_answer b (text names t) = text_answer b.rows names t
row_answer b (point n) = point_answer (point_names b.points) n
row_answer b (return n) = return_answer (point_names b.points) n
