-- What the calls promise, for every session, and what calls lead to.
use Rattle.calls.specs.represent.Answers.{NumberOrRefusal}
use Rattle.std.specs.Prelude.{ℕ, ◌≡◌, List}
use Rattle.session.specs.declared.session.Session.{Session}
use Rattle.calls.specs.Book.{Answer}
use Rattle.calls.specs.TextCall.{text_reply}
use Rattle.calls.specs.Runs.{Machine, Made, Run}
use Rattle.calls.specs.Calls.{Call, term, step, text, point, return, CallSeen, book_answer, row_answer, Reachable}
use Rattle.calls.specs.Promises.{SelectMade}
use Rattle.session.specs.View.{view, with_row, with_rows, with_step, with_point, at_point}

-- what may be said of a call on a session, its answer, and the session that it leaves
abbrev pub CallRelation : Type 1
CallRelation = Session → Call → Answer → Session → Type 0

-- what may be said of a select call: the session, the row, the lent numbers, the context node, the limit, the buffer,
-- the answer, and the bytes that it leaves
abbrev pub SelectRelation : Type 1
SelectRelation = Session → (row : ℕ) → List ℕ → (x limit : ℕ) → List ℕ → NumberOrRefusal → List ℕ → Type 0

-- what a call on the session s answers: steps are judged by row numbers
abbrev pub session_answer : Session → Call → Answer
session_answer s c = row_answer (view s) c

-- the session with an accepted call
abbrev pub session_with : Session → Call → Session
session_with s (term r) = with_row s r
session_with s (step p) = with_step s p
session_with s (text names t) = with_rows s (text_reply names t (view s).rows).rows
session_with s (point n) = with_point s n
session_with s (return n) = at_point s n

abbrev pub session : Machine Session Call
session = record { answer = session_answer; with = session_with }

-- what every call on a session promises: c on s answers a and leaves the session t
abbrev pub Met : CallRelation
Met = Made session

-- calls made in order from a session, each on the session that the one before left, with what is seen of each, and the
-- session left
abbrev pub CallsMade : Session → List Call → List CallSeen → Session → Type 0
CallsMade = Run view Met

-- on every session that calls lead to, the answers are the plain book's
abbrev pub AnswersByTerms : Type 0
AnswersByTerms = (s : Session) → Reachable (view s) → (c : Call) → session_answer s c ≡ book_answer (view s) c

-- `Session::select` on s; the session stays the caller's
abbrev pub SelectMet : SelectRelation
SelectMet s row xs x limit buffer t left = SelectMade (view s).rows row xs x limit buffer t left
