-- The answer of a select call, test by test, and the buffer that it leaves.
use Prim.Native.Nat.{ℕ, ◌≤◌, ◌<◌}
use mathlib.Core.Path.{◌≡◌, refl, sym, ap, ◌∙◌}
use mathlib.Core.Bool.{Bool, true, false, cond, ◌||◌}
use mathlib.Core.List.{List}
use mathlib.Core.Option.{none, Option-elim}
use native.Mathlib.Omega.{arith}
use lib.Dec.{leb, ltb}
use lib.ListN.{length}
use borrow.Author.Tests.{lt-ltb, le-ltb, le-leb, lt-leb, leb-true, leb-false}
use Rattle.xpath.specs.Document.{max_nodes, document_of, document_refusal}
use Rattle.xpath.specs.Visits.{visits}
use Rattle.xpath.specs.represent.Check.{DocumentChecked}
use Rattle.xpath.specs.represent.Ends.{Prepared}
use Rattle.xpath.proofs.Refusal.{accepted_iff}
use Rattle.terms.specs.Row.{Row}
use Rattle.terms.specs.Fields.{held_path}
use Rattle.terms.specs.Terms.{path_at}
use Rattle.selection.specs.Evaluation.{Outcome, outcome, selected, no_room, too_many_visits, path_evaluated, evaluated}
use Rattle.selection.specs.Evaluation as evaluation
use Rattle.std.specs.Prelude.{Result, Ok, Err}
use Rattle.selection.specs.declared.EvaluationError.{EvaluationError}
use Rattle.selection.specs.declared.EvaluationError.TheVariants.{NoRoom, LimitPassed}
use Rattle.selection.specs.private.EvaluatedTypes as code
use Rattle.common.specs.declared.refusal.Refusal.{Refusal}
use Rattle.common.specs.declared.refusal.Refusal.TheVariants.{BadDocument, BadArgument}
use Rattle.common.proofs.Results.{Mapped, mapped_ok, mapped_err}
use Rattle.calls.specs.Book.{answer, accepted}
use Rattle.calls.specs.SelectCall.{select_answer, select_buffer}
use Rattle.calls.specs.represent.Answers.{NumberOrRefusal, answer_of, evaluation_answer}
use Rattle.calls.specs.Promises.{SelectMade}
use Rattle.calls.proofs.Accepted.{if_refused}

-- the refusal of an error of the evaluation is its answer
pub mistaken : (e : EvaluationError) → answer_of (Err (code.refusal_of e)) ≡ evaluation_answer (code.answer_of (Err e))
mistaken NoRoom = refl
mistaken LimitPassed = refl

-- an evaluation by its two tests: the buffer is too short; v visits are within the limit, and leave the marks w
abbrev by_tests : (v : ℕ) (w buffer : List ℕ) (short within : Bool) → Outcome
by_tests v w buffer short within =
    cond (false || short) (outcome no_room buffer)
    (cond within (outcome (selected v) w) (outcome too_many_visits buffer))

answer_by_tests : (v limit : ℕ) (w buffer : List ℕ) (short within : Bool) → leb v limit ≡ within
    → evaluation_answer (by_tests v w buffer short within).answer ≡ cond short (answer 14 0)
    (cond (ltb limit v) (answer 15 0) (answer 0 v))
answer_by_tests v limit w buffer true within e = refl
answer_by_tests v limit w buffer false true e = rw (le-ltb limit v (leb-true v limit e))
answer_by_tests v limit w buffer false false e = rw (lt-ltb limit v (leb-false v limit e))

buffer_by_tests : (v : ℕ) (w buffer : List ℕ) (short within : Bool)
    → (by_tests v w buffer short within).buffer
    ≡ cond (accepted (evaluation_answer (by_tests v w buffer short within).answer)) w buffer
buffer_by_tests v w buffer true within = refl
buffer_by_tests v w buffer false true = refl
buffer_by_tests v w buffer false false = refl

-- a document that the check accepts: no refusal applies, and it is prepared with the ends that the check gives
module _ (xs : List ℕ) (r : Result (List ℕ) ℕ) (checked : DocumentChecked xs r) (ends : List ℕ)
    (is : Mapped BadDocument r (Ok ends)) where
  none_applies : none ≡ document_refusal xs
  none_applies = rw (mapped_ok BadDocument r ends is) at checked.refusal

  pub prepared_by : Prepared (document_of xs) ends
  prepared_by =
      let (whole, few, formed) = (accepted_iff xs).0 (sym none_applies) in
      record { few = few; formed = formed; ends = rw (mapped_ok BadDocument r ends is) at checked.ends }

module _ (rs : List Row) (row : ℕ) (xs : List ℕ) (x limit : ℕ) (buffer : List ℕ) where
  -- a refused call leaves the buffer as it was
  select_refused : (t : NumberOrRefusal) → ¬ ((answer_of t).number ≡ 0) → answer_of t
      ≡ select_answer rs row xs x limit (length buffer)
      → SelectMade rs row xs x limit buffer t buffer
  unfolding select_buffer
  select_refused t f e = record { answer = e; bytes = if_refused _ _ e _ _ f }

  -- the document is refused
  pub bad_document : (r : Result (List ℕ) ℕ) → DocumentChecked xs r → (e : Refusal) → Mapped BadDocument r (Err e)
      → SelectMade rs row xs x limit buffer (Err e) buffer
  unfolding select_answer Option-elim
  bad_document r checked e is =
      let refused = mapped_err BadDocument r e is in
      let told = rw refused.1 at checked.refusal in
      rw refused.2 (select_refused (Err (BadDocument refused.0)) (λ z. omega arith) (rw (← told)))

  -- it is accepted
  module _ (r : Result (List ℕ) ℕ) (checked : DocumentChecked xs r) (ends : List ℕ)
      (is : Mapped BadDocument r (Ok ends)) where
    taken : none ≡ document_refusal xs
    taken = none_applies xs r checked ends is

    pub bad_context : length (document_of xs) ≤ x → SelectMade rs row xs x limit buffer (Err (BadArgument 1)) buffer
    unfolding select_answer Option-elim
    bad_context h = select_refused (Err (BadArgument 1)) (λ z. omega arith) (rw (← taken, le-leb _ _ h))

    module _ (inside : x < length (document_of xs)) where
      pub bad_row_lem : held_path rs row ≡ false → SelectMade rs row xs x limit buffer (Err (BadArgument 2)) buffer
      unfolding select_answer Option-elim
      bad_row_lem h =
          select_refused (Err (BadArgument 2)) (λ z. omega arith)
          (rw (← taken, lt-leb (length (document_of xs)) x inside, h))

      module _ (path : held_path rs row ≡ true) where
        size : ltb max_nodes (length (document_of xs)) ≡ false
        size = le-ltb _ _ (prepared_by xs r checked ends is).few

        -- the answer of the evaluation is the call's, and so is what it leaves in the buffer
        evaluation_answers : evaluation_answer (evaluated rs row (document_of xs) x limit buffer).answer
            ≡ select_answer rs row xs x limit (length buffer)
        unfolding select_answer Option-elim path_evaluated
        evaluation_answers =
            rw (← taken, lt-leb (length (document_of xs)) x inside, path, size)
            (answer_by_tests (visits (document_of xs) (path_at rs row) x) limit _ buffer
            (ltb (length buffer) (length (document_of xs)))
            (leb (visits (document_of xs) (path_at rs row) x) limit) refl)

        evaluation_leaves : (evaluated rs row (document_of xs) x limit buffer).buffer
            ≡ select_buffer rs row xs x limit buffer
        unfolding select_buffer path_evaluated
        evaluation_leaves =
            rw (← evaluation_answers, size)
            (buffer_by_tests (visits (document_of xs) (path_at rs row) x) _ buffer
            (ltb (length buffer) (length (document_of xs))) (leb (visits (document_of xs) (path_at rs row) x) limit))

        pub select_evaluated : (t : NumberOrRefusal) (e : evaluation.EvaluationAnswer) (left : List ℕ) → answer_of t
            ≡ evaluation_answer e
            → outcome e left ≡ evaluated rs row (document_of xs) x limit buffer
            → SelectMade rs row xs x limit buffer t left
        select_evaluated t e left s o =
            record {
              answer = s ∙ ap (λ u. evaluation_answer u.answer) o ∙ evaluation_answers;
              bytes = ap (λ u. u.buffer) o ∙ evaluation_leaves;
            }
