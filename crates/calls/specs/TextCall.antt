-- The call text on the plain book.
use Rattle.std.specs.Prelude.{List}
use Rattle.terms.specs.Row.{Row}
use Rattle.selector_grammar.specs.Bytes.{Bytes}
use Rattle.selector_grammar.specs.Answer.{Reply}
use Rattle.selector_grammar.specs.private.ReaderAnswer.{reply_to}
use Rattle.calls.specs.Book.{Book, pointed_book, Answer, answer}

-- number, value and rows for the lent names and the text t: those that `Answers` of selector_grammar/specs/Answer.antt
-- has, and no others (`AnswersAsDefined` of TextLaws.antt); `reply_to` finds them, reading the text byte by byte
unfoldable pub text_reply : (names t : Bytes) → List Row → Reply
text_reply names t rs = reply_to names t rs

-- the first refusal that applies, in the order 18, 19, 3, 11; else 0 with the row of the text's term
unfoldable pub text_answer : List Row → (names t : Bytes) → Answer
text_answer rs names t = answer (text_reply names t rs).number (text_reply names t rs).value

-- where no refusal applies, the new rows that the term needs go to the end of their list
abbrev pub text_book : Book → (names t : Bytes) → Book
text_book b names t = pointed_book (text_reply names t b.rows).rows b.steps b.points
