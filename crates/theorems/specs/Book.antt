-- After every list of calls from a fresh session the answers and what is held are those of the plain book, each held
-- step is true on every document, and selection loses no node by it.
use Rattle.std.specs.Prelude.{◌≡◌}
use Rattle.session.specs.FollowsBook.{BookGuarantee}
use Rattle.session.specs.View.{fresh_session}
use Rattle.session.specs.declared.session.Session.{Session}
use Rattle.session.proofs.Source as session

pub record Book : Type 0 where
  -- `Session::new` gives a session without rows, steps and points
  pub new : (s : Session) → session.New s → s ≡ fresh_session
  pub book_guarantee : BookGuarantee session.Selected session.New session.Called
