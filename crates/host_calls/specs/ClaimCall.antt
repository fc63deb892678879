-- Whether an accepted bundle has a step that says that one selector, as text, is contained in another: the answer, and
-- what it is about.
use Rattle.std.specs.Prelude.{ℕ, cond, eqb}
use Rattle.selector_grammar.specs.Bytes.{Bytes}
use Rattle.calls.specs.Book.{Book, Answer, answer, accepted}
use Rattle.common.specs.Refusals.{not_covered}
use Rattle.calls.specs.Calls.{text}
use Rattle.replacement.specs.Covered.{step_saying}
use Rattle.session.specs.declared.session.Session.{Session}
use Rattle.session.specs.View.{view}
use Rattle.session.specs.Promises.{session_answer, session_with}
use Rattle.session.specs.Reading.{reading}

-- what an answer is about
abbrev pub the_claim : ℕ
the_claim = 0

abbrev pub the_bundle : ℕ
the_bundle = 1

abbrev pub old_selector : ℕ
old_selector = 2

abbrev pub new_selector : ℕ
new_selector = 3

pub record Claimed : Type 0 where
  pub part : ℕ
  pub answer : Answer

abbrev pub claimed : ℕ → Answer → Claimed
claimed n a = record { part = n; answer = a }

-- 0 with the first step that says that the row `old` is contained in the row `new`; else refusal 26, as replace answers
-- it for one old row, whose place is 1
unfoldable pub said_answer : Book → (old new : ℕ) → Answer
said_answer b old new = cond (eqb (step_saying b old new) 0) (answer not_covered 1) (answer 0 (step_saying b old new))

-- the text `new` on the session s, which has the row `old`
unfoldable pub new_claimed : Session → (names : Bytes) (old : ℕ) (new : Bytes) → Claimed
new_claimed s names old new =
    let a = session_answer s (text names new) in
    cond (accepted a)
    (claimed the_claim (said_answer (view (session_with s (text names new))) old a.value))
    (claimed new_selector a)

-- the text `old` on the session s, and then the text `new`
unfoldable pub old_claimed : Session → (names old new : Bytes) → Claimed
old_claimed s names old new =
    let a = session_answer s (text names old) in
    cond (accepted a) (new_claimed (session_with s (text names old)) names a.value new) (claimed old_selector a)

-- the bundle, and then both texts
unfoldable pub claim_answer : (bundle names old new : Bytes) → Claimed
claim_answer bundle names old new =
    let r = reading bundle in
    cond (accepted r.answer) (old_claimed r.session names old new) (claimed the_bundle r.answer)
