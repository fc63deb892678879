-- What a read call gives.
use Rattle.std.specs.Prelude.{ℕ, Result}
use Rattle.calls.specs.declared.answer.LineRefusal.{LineRefusal}
use Rattle.register.specs.declared.Register.{Register}

-- its answer, and the register that it leaves
pub record ReadResult : Type 0 where
  pub answer : Result ℕ LineRefusal
  pub register : Register

abbrev pub read_result : Result ℕ LineRefusal → Register → ReadResult
read_result o r = record { answer = o; register = r }
