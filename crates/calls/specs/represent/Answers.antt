-- The code's types as the definitions have them; number and value of the answers.
use Rattle.std.specs.Prelude.{ℕ, Result, Ok, Err}
use Rattle.std.specs.declared.cmp.Ordering.{Ordering}
use Rattle.std.specs.declared.cmp.Ordering.TheVariants.{Less, Equal, Greater}
use Rattle.common.specs.declared.refusal.Refusal.{Refusal}
use Rattle.common.specs.represent.Refusal.{refusal_number, refusal_value}
use Rattle.common.specs.Refusals.{short_marks, limit_passed}
use Rattle.selection.specs.Evaluation as evaluation
use Rattle.calls.specs.declared.answer.LineRefusal.{LineRefusal}
use Rattle.calls.specs.declared.step.Step.{Step as CodeStep}
use Rattle.calls.specs.Book.{Step, step, Answer, answer}

abbrev pub step_of : CodeStep → Step
step_of p = step p.rule p.left p.right p.first p.second

-- what a call gives: a number, nothing, or an order; or a refusal
abbrev pub NumberOrRefusal : Type 0
NumberOrRefusal = Result ℕ Refusal

abbrev pub DoneOrRefusal : Type 0
DoneOrRefusal = Result (Unit {0}) Refusal

abbrev pub OrderOrRefusal : Type 0
OrderOrRefusal = Result Ordering Refusal

abbrev pub refusal_answer : Refusal → Answer
refusal_answer r = answer (refusal_number r) (refusal_value r)

-- the same where a line of a text is refused: its number as the value
abbrev pub line_answer : LineRefusal → Answer
line_answer e = answer (refusal_number e.refusal) e.line

-- number and value of an answer: 0 and the value of what is given, or a refusal's
abbrev pub answer_with : {A E : Type 0} → (A → ℕ) → (E → Answer) → Result A E → Answer
answer_with f g (Ok a) = answer 0 (f a)
answer_with f g (Err e) = g e

abbrev pub order_number : Ordering → ℕ
order_number Less = 0
order_number Equal = 1
order_number Greater = 2

abbrev pub answer_of : NumberOrRefusal → Answer
answer_of = answer_with (λ n. n) refusal_answer

abbrev pub done_answer_of : DoneOrRefusal → Answer
done_answer_of = answer_with (λ u. 0) refusal_answer

abbrev pub order_answer_of : OrderOrRefusal → Answer
order_answer_of = answer_with order_number refusal_answer

-- the same for what an evaluation answers: no room is refusal 14, a passed limit 15
abbrev pub evaluation_answer : evaluation.EvaluationAnswer → Answer
evaluation_answer (evaluation.selected made) = answer 0 made
evaluation_answer evaluation.no_room = answer short_marks 0
evaluation_answer evaluation.too_many_visits = answer limit_passed 0
