-- What filing a script means.
use Rattle.std.specs.Prelude.{◌≡◌, List, length, take}
use Rattle.selector_grammar.specs.Bytes.{Bytes}
use Rattle.calls.specs.Book.{Answer, answer, IsAccepted}
use Rattle.calls.specs.Calls.{CallSeen, AllAccepted}
use Rattle.session.specs.declared.session.Session.{Session}
use Rattle.session.specs.View.{view, fresh_session}
use Rattle.session.specs.Promises.{CallsMade}
use Rattle.session.specs.Reading.{reading}
use Rattle.session.specs.SessionLaws.{without_points}
use Rattle.session.specs.WriteCall.{session_text}
use Rattle.script_bundle.specs.Filing.{calls_in}

-- what may be said of a script that is filed: its bytes, the buffer, the answer, and the bytes that it leaves
abbrev pub FileRelation : Type 1
FileRelation = (script buffer : Bytes) → Answer → Bytes → Type 0

-- the calls of the script's lines, made from a fresh session, are all accepted, and the bundle is that of the session
-- that they leave; reading it is accepted and gives that session but for its points
pub record Filed (script bundle : Bytes) : Type 0 where
  pub seen : List CallSeen
  pub session : Session
  pub made : CallsMade fresh_session (calls_in script) seen session
  pub all_accepted : AllAccepted seen
  pub bundle_is : bundle ≡ session_text session
  pub read_back : reading bundle ≡ record {
    answer = answer 0 (length (view session).steps);
    session = without_points session;
  }

pub record FileGuarantee (Files : FileRelation) : Type 0 where
  pub accepted : (script buffer left : Bytes) (a : Answer) → Files script buffer a left → IsAccepted a
      → Filed script (take a.value left)
  -- a refused one leaves the buffer
  pub refused : (script buffer left : Bytes) (a : Answer) → Files script buffer a left → ¬ IsAccepted a
      → left ≡ buffer
