-- select marks the nodes that the path selects by XPath's meaning and no others, with the visits as defined.
use Rattle.std.specs.Prelude.{ℕ, List}
use Rattle.calls.specs.Book.{Answer}
use Rattle.calls.specs.represent.Answers.{NumberOrRefusal}
use Rattle.host_calls.specs.SelectGuarantee.{SelectGuarantee}
use Rattle.host_calls.specs.TextSelect.{TextSelectMade}
use Rattle.selector_grammar.specs.Bytes.{Bytes}
use Rattle.session.specs.Promises.{SelectMet}
use Rattle.session.specs.declared.session.Session.{Session}
use Rattle.session.proofs.Source as session
use Rattle.host_calls.proofs.Source as exports

pub record Selection : Type 0 where
  -- select answers the first refusal that applies and leaves the buffer, or marks the nodes that the path selects and
  -- answers the visits
  pub select : (s : Session) (row : ℕ) (xs : List ℕ) (x limit : ℕ) (buffer : List ℕ) (t : NumberOrRefusal)
      (left : List ℕ) → session.Selected s row xs x limit buffer t left → SelectMet s row xs x limit buffer t left
  -- a host's select by text is the text call on a fresh session and the select of its row; it marks what the text's
  -- path selects
  pub text_select : (names t : Bytes) (xs : List ℕ) (x limit : ℕ) (buffer left : List ℕ) (a : Answer)
      → exports.Selects names t xs x limit buffer a left → TextSelectMade names t xs x limit buffer a left
  pub select_guarantee : SelectGuarantee exports.Selects
