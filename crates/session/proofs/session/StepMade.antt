-- From the judgement of a step to the step call on the session.
use Rattle.calls.specs.represent.Answers.{NumberOrRefusal, answer_of}
use Prim.Native.Nat.{ℕ, ◌+◌, ◌*◌}
use mathlib.Core.Path.{◌≡◌, ◌∙◌}
use mathlib.Core.List.{List}
use lib.Seq.{sets}
use Rattle.session.specs.declared.session.Session.{Session}
use Rattle.calls.specs.Book.{Step, book}
use Rattle.calls.specs.represent.Tables.{step_width, first_rows, first_steps}
use Rattle.session.specs.View.{steps_held, view, with_step}
use Rattle.calls.specs.Book.{step_numbers}
use Rattle.calls.specs.StepCall.{step_answer_by}
use Rattle.calls.specs.Promises.{row_yielded, row_step_answer}
use Rattle.calls.specs.Calls.{step}
use Rattle.session.specs.Promises.{Met}
use Rattle.calls.proofs.Accepted.{if_accepted, if_refused}

module _ (s : Session) (p : Step) (t : NumberOrRefusal)
    (answered : answer_of t ≡ row_step_answer
    (book (first_rows s.row_count s.rows) (first_steps s.step_count s.steps)) p)
  where
    judged : answer_of t ≡ row_step_answer (view s) p
    unfolding view row_step_answer row_yielded step_answer_by
    judged = answered

    pub step_made_held : (answer_of t).number ≡ 0 → (m : ℕ) → m ≡ steps_held s → (ys : List ℕ)
        → ys ≡ sets s.steps (step_width * m) (step_numbers p)
        → Met s (step p) (answer_of t) (record {
          rows = s.rows;
          row_count = s.row_count;
          steps = ys;
          step_count = m + 1;
          points = s.points;
          point_count = s.point_count;
        })
    unfolding with_step
    step_made_held e m steps ys written =
        let here : ys ≡ sets s.steps (step_width * steps_held s) (step_numbers p) = written ∙ rw steps in
        record {
          answer = judged;
          left = (λ i. record {
            rows = s.rows;
            row_count = s.row_count;
            steps = here i;
            step_count = steps i + 1;
            points = s.points;
            point_count = s.point_count;
          }) ∙ if_accepted _ _ judged (with_step s p) s e;
        }

    pub step_made_refused : ¬ ((answer_of t).number ≡ 0) → Met s (step p) (answer_of t) s
    step_made_refused f = record { answer = judged; left = if_refused _ _ judged (with_step s p) s f }
