-- From the reading of a text on a session's table to a text call on the session.
use Prim.Native.Nat.{ℕ}
use mathlib.Core.List.{List}
use mathlib.Core.Path.{◌≡◌, refl, ap, ◌∙◌}
use lib.ListN.{length}
use Rattle.terms.specs.Row.{table_with}
use Rattle.selector_grammar.specs.Bytes.{Bytes}
use Rattle.selector_grammar.specs.Answer.{Reply, reply}
use Rattle.std.specs.Prelude.{Result, Ok, Err}
use Rattle.selector_reader.specs.declared.TextHeld.{TextHeld}
use Rattle.common.specs.declared.refusal.Refusal.{Refusal}
use Rattle.common.specs.represent.Refusal.{refusal_number, refusal_value}
use Rattle.selector_reader.specs.Promises.{text_number, text_value, TextRead}
use Rattle.common.proofs.Refusals.{refusal_some}
use Rattle.calls.specs.Book.{answer}
use Rattle.calls.specs.TextCall.{text_reply, text_answer}
use Rattle.calls.specs.Calls.{text}
use Rattle.calls.proofs.Accepted.{if_accepted, if_refused}
use Rattle.calls.proofs.TextLaws.{answers_as_defined}
use Rattle.session.specs.declared.session.Session.{Session}
use Rattle.session.specs.View.{rows_held, view, with_rows}
use Rattle.session.specs.Promises.{Met}

module _ (s : Session) (names t : Bytes) (r : Result TextHeld Refusal) (ys : List ℕ)
    (m : TextRead names t s.rows (rows_held s) ys r) where
  -- the reading gives the book's reply
  replied : reply (text_number r) (text_value r) m.after ≡ text_reply names t (view s).rows
  unfolding view
  replied = (answers_as_defined names t _ _ _ _).0 m.answers

  judged : answer (text_number r) (text_value r) ≡ text_answer (view s).rows names t
  unfolding text_answer
  judged = ap (λ (q : Reply). answer q.number q.value) replied

module _ (s : Session) (names t : Bytes) (h : TextHeld) (ys : List ℕ)
    (m : TextRead names t s.rows (rows_held s) ys (Ok h)) where
  pub text_made_held : Met s (text names t) (answer 0 h.row)
      (record {
        rows = ys;
        row_count = h.count;
        steps = s.steps;
        step_count = s.step_count;
        points = s.points;
        point_count = s.point_count;
      })
  unfolding with_rows
  text_made_held =
      let told = replied s names t (Ok h) ys m in
      let rows = m.rows ∙ ap (λ (q : Reply). table_with s.rows (rows_held s) q.rows) told in
      let count : h.count ≡ length (text_reply names t (view s).rows).rows =
      m.count ∙ ap (λ (q : Reply). length q.rows) told in
      record {
        answer = judged s names t (Ok h) ys m;
        left =
            (λ i. record {
              rows = rows i;
              row_count = count i;
              steps = s.steps;
              step_count = s.step_count;
              points = s.points;
              point_count = s.point_count;
            })
            ∙ if_accepted _ _ (judged s names t (Ok h) ys m) (with_rows s (text_reply names t (view s).rows).rows) s refl;
      }

pub text_made_refused : (s : Session) (names t : Bytes) (e : Refusal) (ys : List ℕ)
    → TextRead names t s.rows (rows_held s) ys (Err e)
    → Met s (text names t) (answer (refusal_number e) (refusal_value e))
    (record {
      rows = ys;
      row_count = s.row_count;
      steps = s.steps;
      step_count = s.step_count;
      points = s.points;
      point_count = s.point_count;
    })
text_made_refused s names t e ys m =
    let told = judged s names t (Err e) ys m in
    record {
      answer = told;
      left =
          (λ i. record {
            rows = m.refused i;
            row_count = s.row_count;
            steps = s.steps;
            step_count = s.step_count;
            points = s.points;
            point_count = s.point_count;
          })
          ∙ if_refused _ _ told _ s (refusal_some e);
    }
