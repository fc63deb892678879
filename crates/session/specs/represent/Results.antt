-- What a read call gives.
use Rattle.session.specs.declared.session.Session.{Session}
use Rattle.std.specs.Prelude.{ℕ, Result}
use Rattle.calls.specs.declared.answer.LineRefusal.{LineRefusal}

-- its answer, and the session that it leaves
pub record ReadResult : Type 0 where
  pub answer : Result ℕ LineRefusal
  pub session : Session

abbrev pub read_result : Result ℕ LineRefusal → Session → ReadResult
read_result o s = record { answer = o; session = s }
