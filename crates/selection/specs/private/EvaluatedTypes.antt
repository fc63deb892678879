-- The answer of each result of the code, and the refusal of each error.
use Rattle.std.specs.Prelude.{ℕ, Result, Ok, Err}
use Rattle.common.specs.declared.refusal.Refusal.{Refusal}
use Rattle.common.specs.declared.refusal.Refusal.TheVariants as refusal
use Rattle.selection.specs.declared.EvaluationError.{EvaluationError}
use Rattle.selection.specs.declared.EvaluationError.TheVariants.{NoRoom, LimitPassed}
use Rattle.selection.specs.Evaluation.{EvaluationAnswer, selected, no_room, too_many_visits}

abbrev pub answer_of : Result ℕ EvaluationError → EvaluationAnswer
answer_of (Ok made) = selected made
answer_of (Err NoRoom) = no_room
answer_of (Err LimitPassed) = too_many_visits

abbrev pub refusal_of : EvaluationError → Refusal
refusal_of NoRoom = refusal.ShortMarks
refusal_of LimitPassed = refusal.LimitPassed
