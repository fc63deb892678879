-- From a term call on a session's table to one on the session.
use Rattle.calls.specs.represent.Answers.{NumberOrRefusal, answer_of}
use Prim.Native.Nat.{ℕ, ◌+◌, ◌*◌, min}
use mathlib.Core.Path.{◌≡◌, sym, subst, ◌∙◌}
use mathlib.Core.List.{List}
use native.Mathlib.Omega.{arith}
use lib.Seq.{sets}
use Rattle.terms.specs.Row.{Row, max_rows}
use Rattle.session.specs.declared.session.Session.{Session}
use Rattle.calls.specs.TermCall.{term_answer}
use Rattle.calls.specs.represent.Tables.{row_width}
use Rattle.session.specs.View.{rows_held, view, with_row}
use Rattle.terms.specs.Row.{row_numbers}
use Rattle.calls.specs.Calls.{term}
use Rattle.session.specs.Promises.{Met}
use Rattle.call_answers.specs.private.Placed.{TermPlaced, TermKept}
use Rattle.calls.proofs.Accepted.{if_accepted, if_refused}

-- a call on kept rows is one on the session's table, where these are the rows held
pub placed_kept : (xs zs : List ℕ) (n k : ℕ) (r : Row) (ys : List ℕ) (l : ℕ) (t : NumberOrRefusal) → zs ≡ xs → k ≡ n
    → TermKept zs k r ys l t → TermPlaced xs n r ys t
placed_kept xs zs n k r ys l t same kept m =
    subst (λ ws. TermPlaced ws n r ys t) same (subst (λ i. TermPlaced zs i r ys t) kept m.placed)

module _ (s : Session) (r : Row) (n : ℕ) (count : n ≡ rows_held s) (ys : List ℕ) (t : NumberOrRefusal)
    (m : TermPlaced s.rows n r ys t) where
  judged : answer_of t ≡ term_answer (view s).rows r
  unfolding view
  judged = let same : min n max_rows ≡ rows_held s = omega arith in m.answer ∙ rw same

  pub term_made_held : (answer_of t).number ≡ 0 →
      Met s (term r) (answer_of t) (record {
        rows = ys;
        row_count = n + 1;
        steps = s.steps;
        step_count = s.step_count;
        points = s.points;
        point_count = s.point_count;
      })
  unfolding with_row view
  term_made_held e =
      let written : ys ≡ sets s.rows (row_width * rows_held s) (row_numbers r) = m.numbers
      ∙ sym (if_accepted _ _ m.answer _ _ e) ∙ rw count in
      record {
        answer = judged;
        left = (λ i. record {
          rows = written i;
          row_count = count i + 1;
          steps = s.steps;
          step_count = s.step_count;
          points = s.points;
          point_count = s.point_count;
        }) ∙ if_accepted _ _ judged (with_row s r) s e;
      }

  pub term_made_refused : ¬ ((answer_of t).number ≡ 0) →
      Met s (term r) (answer_of t) (record {
        rows = ys;
        row_count = s.row_count;
        steps = s.steps;
        step_count = s.step_count;
        points = s.points;
        point_count = s.point_count;
      })
  term_made_refused f =
      let kept : ys ≡ s.rows = m.numbers ∙ sym (if_refused _ _ m.answer _ _ f) in
      record {
        answer = judged;
        left = (λ i. record {
          rows = kept i;
          row_count = s.row_count;
          steps = s.steps;
          step_count = s.step_count;
          points = s.points;
          point_count = s.point_count;
        }) ∙ if_refused _ _ judged (with_row s r) s f;
      }
