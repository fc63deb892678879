-- What the call write promises.
use Rattle.calls.specs.represent.Answers.{NumberOrRefusal, answer_of}
use Rattle.std.specs.Prelude.{ℕ, ◌≡◌, cond, List, ◌++◌, leb, length, drop}
use Rattle.session.specs.declared.session.Session.{Session}
use Rattle.calls.specs.Book.{Answer, answer}
use Rattle.common.specs.Refusals.{short_buffer}
use Rattle.bundles.specs.Bundle.{bundle_text}
use Rattle.session.specs.View.{view}

-- the bundle of what a session holds
abbrev pub session_text : Session → List ℕ
session_text s = bundle_text (view s).rows (view s).steps

-- the writer's only refusal: the text is longer than the buffer, which has `room` bytes. The value is its length
-- either way
abbrev pub write_answer : (text : List ℕ) (room : ℕ) → Answer
write_answer text room = cond (leb (length text) room) (answer 0 (length text)) (answer short_buffer (length text))

-- the text from byte 0 on, and later bytes as they were; a refused write changes no byte
abbrev pub write_buffer : (text buffer : List ℕ) → List ℕ
write_buffer text buffer = cond (leb (length text) (length buffer)) (text ++ drop (length text) buffer) buffer

-- what may be said of a write call: the session, the buffer, the answer, and the bytes that it leaves
abbrev pub WriteRelation : Type 1
WriteRelation = Session → List ℕ → NumberOrRefusal → List ℕ → Type 0

-- `Session::write` on s; the session stays the caller's
pub record WriteMet (s : Session) (buffer : List ℕ) (t : NumberOrRefusal) (left : List ℕ) : Type 0 where
  pub answer : answer_of t ≡ write_answer (session_text s) (length buffer)
  pub bytes : left ≡ write_buffer (session_text s) buffer
