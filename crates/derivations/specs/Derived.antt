-- What a derivation found says.
use Rattle.std.specs.Prelude.{ℕ, ◌≡◌, ◌≤◌}
use Rattle.selector_grammar.specs.Bytes.{Bytes}
use Rattle.calls.specs.Book.{answer}
use Rattle.calls.specs.Calls.{text}
use Rattle.calls.specs.Runs.{Reached}
use Rattle.replacement.specs.Covered.{step_saying}
use Rattle.session.specs.declared.session.Session.{Session}
use Rattle.session.specs.View.{view, fresh_session}
use Rattle.session.specs.Promises.{session, Met}

-- calls lead from a fresh session to s
abbrev pub IsMade : Session → Type 0
IsMade s = Reached session fresh_session s

-- calls lead from a fresh session to the session s; two more, the texts of both selectors, are answered with the rows
-- i and j, and leave the session v; and step k of it is the first one that says that row i is contained in row j
pub record Derived (names old new : Bytes) (v : Session) (k : ℕ) : Type 0 where
  pub s : Session
  pub u : Session
  pub i : ℕ
  pub j : ℕ
  pub made : IsMade s
  pub first : Met s (text names old) (answer 0 i) u
  pub second : Met u (text names new) (answer 0 j) v
  pub said : step_saying (view v) i j ≡ k
  pub held : 1 ≤ k
