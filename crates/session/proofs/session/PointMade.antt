-- From the judgement of a name, and the tables that are left, to the calls point and return on the session.
use Rattle.std.specs.Prelude.{Ok, Err}
use Rattle.common.specs.declared.refusal.Refusal.{Refusal}
use Rattle.common.proofs.Refusals.{refusal_some}
use Rattle.calls.specs.represent.Answers.{DoneOrRefusal, done_answer_of, refusal_answer}
use Prim.Native.Nat.{ℕ, ◌+◌, ◌*◌, ◌≤◌, ◌<◌}
use mathlib.Core.Path.{◌≡◌, refl, sym, ap, ◌∙◌}
use mathlib.Core.List.{List}
use native.Mathlib.Omega.{arith}
use lib.ListN.{length, length-map}
use lib.Seq.{sets, length-take-le}
use Rattle.session.specs.declared.session.Session.{Session}
use Rattle.calls.specs.declared.points.PointCounts.{PointCounts}
use Rattle.calls.specs.Book.{Answer, answer, max_points}
use Rattle.calls.specs.PointCall.{point_names, place_of, point_answer, return_answer}
use Rattle.calls.specs.represent.Tables.{row_width, step_width}
use Rattle.calls.specs.represent.Points.{point_width, counts, counts_names, counts_numbers}
use Rattle.calls.specs.represent.Points.{first_point_numbers, cleared, ReturnFound}
use Rattle.calls.specs.Calls.{point, return}
use Rattle.session.specs.View.{rows_held, steps_held, points_held, points_in, view, with_point, at_point}
use Rattle.session.specs.Promises.{Met}
use Rattle.calls.proofs.Accepted.{if_accepted, if_refused}
use Rattle.calls.proofs.PointTables.{points_lent, few_points, place_le}
use Rattle.calls.proofs.PointJudged.{point_accepted}
use Rattle.session.proofs.Views.{names_viewed}

-- the place of a name is at most the limit
pub few_places : (s : Session) (name place : ℕ) → place ≡ place_of (counts_names (points_in s)) name →
    place ≤ max_points
few_places s name place e =
    omega (
      arith,
      place_le (counts_names (points_in s)) name,
      length-map (points_in s) (λ c. c.name),
      few_points s.point_count s.points,
    )

module _ (s : Session) (name : ℕ) (t : DoneOrRefusal) where
  -- setting a point
  module _ (answered : done_answer_of t ≡ point_answer (counts_names (points_in s)) name) where
    point_judged : done_answer_of t ≡ point_answer (point_names (view s).points) name
    point_judged = answered ∙ ap (λ ns. point_answer ns name) (sym (names_viewed s))

    pub point_room : (done_answer_of t).number ≡ 0 → length s.points ≡ point_width * max_points
        → (k : ℕ) → k ≡ points_held s → k < max_points
    point_room e size k is-k =
        let room = (point_accepted (counts_names (points_in s)) name (sym (ap (λ a. a.number) answered) ∙ e)).room in
        let count = length-take-le (point_width * points_held s) s.points (omega arith) in
        omega (
          arith,
          room,
          length-map (points_in s) (λ c. c.name),
          count,
          points_lent (first_point_numbers s.point_count s.points),
        )

    pub point_made_held : (done_answer_of t).number ≡ 0 → (n m k : ℕ) → n ≡ rows_held s → m ≡ steps_held s
        → k ≡ points_held s
        → (zs : List ℕ) → zs ≡ sets s.points (point_width * k) (counts_numbers (counts name n m))
        → Met s (point name) (done_answer_of t)
        (record {
          rows = s.rows;
          row_count = s.row_count;
          steps = s.steps;
          step_count = s.step_count;
          points = zs;
          point_count = k + 1;
        })
    unfolding with_point
    point_made_held e n m k rows steps points zs written =
        let here = written
        ∙ (λ i. sets s.points (point_width * points i) (counts_numbers (counts name (rows i) (steps i)))) in
        record {
          answer = point_judged;
          left = (λ i. record {
            rows = s.rows;
            row_count = s.row_count;
            steps = s.steps;
            step_count = s.step_count;
            points = here i;
            point_count = points i + 1;
          }) ∙ if_accepted _ _ point_judged (with_point s name) s e;
        }

    pub point_made_refused : ¬ ((done_answer_of t).number ≡ 0) → Met s (point name) (done_answer_of t) s
    point_made_refused f = record { answer = point_judged; left = if_refused _ _ point_judged (with_point s name) s f }

-- returning to one
module _ (s : Session) (name : ℕ) where
  pub return_judged : (t : Answer) → t ≡ return_answer (counts_names (points_in s)) name
      → t ≡ return_answer (point_names (view s).points) name
  return_judged t e = e ∙ ap (λ ns. return_answer ns name) (sym (names_viewed s))

  module _ (f : ℕ × PointCounts) (found : ReturnFound (Ok f) (points_in s) name) where
    pub return_made_held : (n m : ℕ) → n ≡ f.1.rows → m ≡ f.1.steps
        → (xs ys zs : List ℕ) → xs ≡ cleared (row_width * n) s.rows → ys ≡ cleared (step_width * m) s.steps
        → zs ≡ cleared (point_width * (f.0 + 1)) s.points
        → Met s (return name) (answer 0 0)
        (record { rows = xs; row_count = n; steps = ys; step_count = m; points = zs; point_count = f.0 + 1 })
    unfolding at_point
    return_made_held n m is-n is_m xs ys zs is-xs is-ys is-zs =
        let is-place = found.0 in
        let rows = is-n ∙ ap (λ d. d.rows) found.1 in
        let steps = is_m ∙ ap (λ d. d.steps) found.1 in
        let left-rows = is-xs ∙ ap (λ k. cleared (row_width * k) s.rows) rows in
        let left-steps = is-ys ∙ ap (λ k. cleared (step_width * k) s.steps) steps in
        let left-points = is-zs ∙ ap (λ k. cleared (point_width * (k + 1)) s.points) is-place in
        let judged = return_judged (answer 0 0) found.2 in
        record {
          answer = judged;
          left = (λ i. record {
            rows = left-rows i;
            row_count = rows i;
            steps = left-steps i;
            step_count = steps i;
            points = left-points i;
            point_count = is-place i + 1;
          }) ∙ if_accepted _ _ judged (at_point s name) s refl;
        }

  pub return_made_refused : (r : Refusal) → ReturnFound (Err r) (points_in s) name
      → Met s (return name) (refusal_answer r) s
  return_made_refused r e =
      let judged = return_judged (refusal_answer r) e in
      record { answer = judged; left = if_refused _ _ judged (at_point s name) s (refusal_some r) }
