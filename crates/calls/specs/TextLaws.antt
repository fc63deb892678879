-- What is known of text calls on books that calls lead to.
use Rattle.std.specs.Prelude.{ℕ, ◌≡◌, List, map, ◌↔◌, length, get_or, drop}
use Rattle.terms.specs.Row.{Row}
use Rattle.terms.specs.Nesting.{nestings}
use Rattle.terms.specs.Terms.{of_path, term_at}
use Rattle.selector_grammar.specs.Bytes.{Bytes}
use Rattle.selector_grammar.specs.Words.{number_of}
use Rattle.selector_grammar.specs.Grammar.{Union, Spells}
use Rattle.selector_grammar.specs.Denotes.{union_of, nest_path}
use Rattle.selector_grammar.specs.Answer.{reply, Answers}
use Rattle.calls.specs.Book.{Book, IsAccepted}
use Rattle.calls.specs.TextCall.{text_reply, text_answer, text_book}
use Rattle.calls.specs.Runs.{shown, final}
use Rattle.calls.specs.Calls.{term, plain_book, AllAccepted, Reachable}

-- the reply is the one that the definition has
abbrev pub AnswersAsDefined : Type 0
AnswersAsDefined = (names t : Bytes) (rs : List Row) (n v : ℕ) (ss : List Row)
    → Answers names t rs n v ss ↔ (reply n v ss ≡ text_reply names t rs)

-- the rows of an accepted text that were not held
unfoldable pub new_rows : Book → (names t : Bytes) → List Row
new_rows b names t = drop (length b.rows) (text_reply names t b.rows).rows

-- an accepted text call does what term calls of its new rows do, in their order, which are all accepted
abbrev pub AsTermCalls : Type 0
AsTermCalls = (b : Book) → Reachable b → (names t : Bytes) → IsAccepted (text_answer b.rows names t)
    → AllAccepted (shown plain_book b (map term (new_rows b names t)))
    × (final plain_book b (map term (new_rows b names t)) ≡ text_book b names t)

-- the row that it answers has the term of the text's tree
abbrev pub GivesItsTerm : Type 0
GivesItsTerm = (b : Book) → Reachable b → (names t : Bytes) → IsAccepted (text_answer b.rows names t)
    → (u : Union) → Spells t u
    → term_at (text_book b names t).rows (text_answer b.rows names t).value ≡ of_path (union_of (number_of names) u)

-- and its nesting as a row is that of the term by which the text was judged
abbrev pub GivesItsNesting : Type 0
GivesItsNesting = (b : Book) → Reachable b → (names t : Bytes) → IsAccepted (text_answer b.rows names t)
    → (u : Union) → Spells t u
    → get_or (nestings (text_book b names t).rows) (text_answer b.rows names t).value 0
    ≡ nest_path (union_of (number_of names) u)
