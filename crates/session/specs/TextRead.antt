-- A text read by a fresh session.
use Rattle.std.specs.Prelude.{List}
use Rattle.selector_grammar.specs.Bytes.{Bytes}
use Rattle.terms.specs.Row.{Row}
use Rattle.calls.specs.Book.{Answer}
use Rattle.calls.specs.Calls.{text}
use Rattle.session.specs.View.{view, fresh_session}
use Rattle.session.specs.Promises.{session_answer, session_with}

-- the answer to the text t, and the rows that it leaves where it is accepted
unfoldable pub read_answer : (names t : Bytes) → Answer
read_answer names t = session_answer fresh_session (text names t)

unfoldable pub read_rows : (names t : Bytes) → List Row
read_rows names t = (view (session_with fresh_session (text names t))).rows
