-- From the rows of a way back on a session's table to a way-back call on the session.
use Prim.Native.Nat.{ℕ}
use mathlib.Core.List.{List}
use mathlib.Core.Path.{◌≡◌, refl, subst, ◌∙◌}
use Rattle.std.specs.Prelude.{Result, Ok, Err}
use Rattle.common.specs.declared.refusal.Refusal.{Refusal}
use Rattle.common.specs.represent.Refusal.{refusal_number, refusal_value}
use Rattle.common.proofs.Refusals.{refusal_some}
use Rattle.reversing.specs.private.RowsBack.{row_reply}
use Rattle.reversing.specs.private.RowsPut.{Table, WayBackMade}
use Rattle.calls.specs.Book.{answer}
use Rattle.calls.proofs.Accepted.{if_accepted, if_refused}
use Rattle.session.specs.declared.session.Session.{Session}
use Rattle.session.specs.View.{rows_held, view, with_rows}
use Rattle.session.specs.WayBackGuarantee.{WayBackMet}

module _ (s : Session) (row : ℕ) (t u : Table) where
  -- a call on kept rows is one on the session's table
  on_session : (a : Result ℕ Refusal) → WayBackMade t row u a → t.0 ≡ s.rows → t.1 ≡ rows_held s
      → WayBackMade (s.rows, rows_held s) row u a
  on_session a m rows count = subst (λ (t : Table). WayBackMade t row u a) (λ i. (rows i, count i)) m

  pub back_made_held : (v : ℕ) → WayBackMade t row u (Ok v) → t.0 ≡ s.rows → t.1 ≡ rows_held s
      → WayBackMet s row (answer 0 v) (record {
        rows = u.0;
        row_count = u.1;
        steps = s.steps;
        step_count = s.step_count;
        points = s.points;
        point_count = s.point_count;
      })
  unfolding view with_rows
  back_made_held v made rows count =
      let m = on_session (Ok v) made rows count in
      record {
        answer = m.answer;
        left = (λ i. record {
          rows = m.rows i;
          row_count = m.count i;
          steps = s.steps;
          step_count = s.step_count;
          points = s.points;
          point_count = s.point_count;
        }) ∙ if_accepted _ _ m.answer (with_rows s (row_reply (view s).rows row).rows) s refl;
      }

  pub back_made_refused : (e : Refusal) → WayBackMade t row u (Err e) → t.0 ≡ s.rows → t.1 ≡ rows_held s
      → WayBackMet s row (answer (refusal_number e) (refusal_value e)) (record {
        rows = u.0;
        row_count = s.row_count;
        steps = s.steps;
        step_count = s.step_count;
        points = s.points;
        point_count = s.point_count;
      })
  unfolding view
  back_made_refused e made rows count =
      let m = on_session (Err e) made rows count in
      record {
        answer = m.answer;
        left = (λ i. record {
          rows = m.refused i;
          row_count = s.row_count;
          steps = s.steps;
          step_count = s.step_count;
          points = s.points;
          point_count = s.point_count;
        }) ∙ if_refused _ _ m.answer (with_rows s (row_reply (view s).rows row).rows) s (refusal_some e);
      }
