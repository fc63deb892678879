-- A select by a selector as text: the text call on a fresh session, and then the select of the row that it answers.
use Rattle.std.specs.Prelude.{ℕ, ◌≡◌, cond, List, length}
use Rattle.selector_grammar.specs.Bytes.{Bytes}
use Rattle.calls.specs.Book.{Answer, accepted}
use Rattle.calls.specs.SelectCall.{select_answer, select_buffer}
use Rattle.session.specs.TextRead.{read_answer, read_rows}

-- the refusal of the text; else the answer of the select on the lent numbers xs from node x, with a buffer of `room`
-- bytes
unfoldable pub text_select_answer : (names t : Bytes) → List ℕ → (x limit room : ℕ) → Answer
text_select_answer names t xs x limit room =
    let a = read_answer names t in
    cond (accepted a) (select_answer (read_rows names t) a.value xs x limit room) a

-- the buffer as the select leaves it; a refused text leaves it as it was
unfoldable pub text_select_buffer : (names t : Bytes) → List ℕ → (x limit : ℕ) → List ℕ → List ℕ
text_select_buffer names t xs x limit buffer =
    let a = read_answer names t in
    cond (accepted a) (select_buffer (read_rows names t) a.value xs x limit buffer) buffer

-- the answer a, and the bytes that are left of the buffer
pub record TextSelectMade (names t : Bytes) (xs : List ℕ) (x limit : ℕ) (buffer : List ℕ) (a : Answer)
    (left : List ℕ) : Type 0
  where
    pub answer : a ≡ text_select_answer names t xs x limit (length buffer)
    pub bytes : left ≡ text_select_buffer names t xs x limit buffer
