-- What a way-back call does on a session that calls lead to: what term calls of its rows do.
use Prim.Native.Nat.{ℕ, ◌≤◌}
use mathlib.Core.Path.{◌≡◌, refl, sym, ap, ap₂, subst, ◌∙◌}
use mathlib.Core.List.{List, ◌++◌, map}
use lib.ListN.{length}
use Rattle.terms.specs.Row.{Row, max_rows}
use Rattle.terms.specs.Terms.{term_at}
use Rattle.terms.specs.AcceptedRows.{Built}
use Rattle.selector_grammar.specs.Denotes.{put_path}
use Rattle.selector_grammar.specs.Answer.{Reply}
use Rattle.reversing.specs.WayBackCall.{way_back_reply}
use Rattle.reversing.specs.private.RowsBack.{row_reply}
use Rattle.reversing.proofs.Replies.{reply_by_terms, reply_longer, accepted_has, has_accepted, none_iff, back_stands}
use Rattle.calls.specs.Book.{Book, pointed_book, Answer, IsAccepted}
use Rattle.calls.specs.Runs.{next, Run}
use Rattle.calls.specs.Calls.{term, AllAccepted, book_after}
use Rattle.calls.proofs.Accepted.{if_accepted, if_refused}
use Rattle.calls.proofs.Reached.{reachable_laws}
use Rattle.calls.proofs.Runs as runs
use Rattle.calls.proofs.Runs.{run_exists, run_map, made}
use Rattle.calls.proofs.TextLaws.{rows_accepted}
use Rattle.session.specs.declared.session.Session.{Session}
use Rattle.session.specs.View.{view, fresh_session, with_rows}
use Rattle.session.specs.Promises.{session_answer, session, CallRelation, Met}
use Rattle.session.specs.SessionLaws.{session_of}
use Rattle.session.specs.WayBackGuarantee.{WayBackRelation, replied, WayBackMet, TermCalls, WayBackHeld}
use Rattle.session.specs.WayBackGuarantee.{SessionWaysBack, WayBackGuarantee}
use Rattle.session.proofs.Simulation.{Kept, session_as_book, calls_follow}
use Rattle.session.proofs.FollowsBook.{CallsKept, made_from_fresh}
use Rattle.session.proofs.Whole.{with_rows_of}

-- term calls of new rows, on a session that calls lead to, hold just these
module _ (Called : CallRelation) (met_called : CallsKept Met Called) (s : Session) (k : Kept s) (new : List Row)
    (built : Built ((view s).rows ++ new)) (few : length ((view s).rows ++ new) ≤ max_rows) where
  abbrev after : Book
  after = pointed_book ((view s).rows ++ new) (view s).steps (view s).points

  abbrev left : Session
  left = with_rows s ((view s).rows ++ new)

  term_calls : TermCalls view view term Called s new left × (view left ≡ after)
  term_calls =
      let b : Book = view s in
      let (all, last) = rows_accepted b.rows new b.steps b.points built few in
      let (os, t, run) =
      run_exists view Met (λ s c. (session_answer s c, next session s c, made session s c)) s (map term new) in
      let (shows, holds, whole, reachable) = runs.run_follows session_as_book k.whole k.reachable run in
      let held : view t ≡ after = holds ∙ last in
      let same : t ≡ left =
      whole.same ∙ ap session_of held
      ∙ sym (ap (λ (s : Session). with_rows s (b.rows ++ new)) k.whole.same
      ∙ with_rows_of b k.whole.fits (b.rows ++ new) new refl few) in (
        record {
          seen = os;
          run = subst (λ (t : Session). Run view Called s (map term new) os t) same (run_map met_called run);
          accepted = subst AllAccepted (sym shows) all;
        },
        ap view (sym same) ∙ held,
      )

-- what one relation says of way-back calls, the other does
abbrev pub WaysBackKept : WayBackRelation Session → WayBackRelation Session → Type 0
WaysBackKept Reversed Kept =
    (s : Session) (row : ℕ) (a : Answer) (t : Session) → Reversed s row a t → Kept s row a t

module _ (Called : CallRelation) (met_called : CallsKept Met Called) (Reversed : WayBackRelation Session)
    (reversed_tied : WaysBackKept Reversed WayBackMet) where
  module _ (s : Session) (k : Kept s) (row : ℕ) (a : Answer) (t : Session) (m : WayBackMet s row a t) where
    abbrev rows : List Row
    rows = (view s).rows

    built : Built rows
    built = (reachable_laws k.reachable).held.built

    same : row_reply rows row ≡ way_back_reply rows row
    same = reply_by_terms built row

    told : a ≡ replied (way_back_reply rows row)
    told = m.answer ∙ ap replied same

    stays : ¬ (IsAccepted a) → t ≡ s
    stays f = m.left ∙ sym (if_refused a _ m.answer (with_rows s (row_reply rows row).rows) s f)

    held_by : IsAccepted a → WayBackHeld view view term Called (view s) row a s t
    held_by z =
        let (w, has, is) = accepted_has rows row (sym (ap (λ (a : Answer). a.number) told) ∙ z) in
        let stands = back_stands rows row built w has in
        let (new, grown) = reply_longer rows row in
        let all : (put_path w rows).rows ≡ rows ++ new = sym (ap (λ (r : Reply). r.rows) is) ∙ grown in
        let (calls, held) =
        term_calls Called met_called s k new (subst Built all stands.built)
        (subst (λ (rs : List Row). length rs ≤ max_rows) all has.space) in
        let is_left : t ≡ with_rows s (rows ++ new) =
        m.left ∙ sym (if_accepted a _ m.answer (with_rows s (row_reply rows row).rows) s z)
        ∙ ap (λ (r : Reply). with_rows s r.rows) same ∙ ap (with_rows s) grown in
        let after : (view t).rows ≡ rows ++ new = ap (λ (b : Book). b.rows) (ap view is_left ∙ held) in
        let value : a.value ≡ (put_path w rows).at =
        ap (λ (a : Answer). a.value) told ∙ ap (λ (r : Reply). r.value) is in
        record {
          path = w;
          has = has;
          is_term = ap₂ term_at (after ∙ sym all) value ∙ stands.term;
          new = new;
          rows = after;
          needed = after ∙ sym grown;
          calls = subst (TermCalls view view term Called s new) (sym is_left) calls;
        }

    number : a.number ≡ (way_back_reply rows row).number
    number = ap (λ (a : Answer). a.number) told

  pub ways_back : (s : Session) (b : Book) → Kept s → view s ≡ b → SessionWaysBack Reversed Called s b
  ways_back s b k e =
      subst (SessionWaysBack Reversed Called s) e
      record {
        answers = λ row a t r. told s k row a t (reversed_tied s row a t r);
        refused = λ row a t r f. stays s k row a t (reversed_tied s row a t r) f;
        held = λ row a t r z. held_by s k row a t (reversed_tied s row a t r) z;
        accepts = λ row a t r.
            let same = number s k row a t (reversed_tied s row a t r) in (
              λ z. let (w, has, is) = accepted_has (view s).rows row (sym same ∙ z) in (w, has),
              λ (w, has). same ∙ has_accepted (view s).rows row w has,
            );
        has_none = λ row a t r.
            let same = number s k row a t (reversed_tied s row a t r) in
            let iff = none_iff (view s).rows row in
            (λ z. iff.0 (sym same ∙ z), λ h. same ∙ iff.1 h);
      }

  -- so for every `new`, every calls and every way-back on sessions that meet their promises
  pub way_back_guarantee_by : (New : Session → Type 0) → ((s : Session) → New s → s ≡ fresh_session)
      → CallsKept Called Met → WayBackGuarantee Reversed Called New
  way_back_guarantee_by New new_tied call_tied s₀ s cs os new run =
      let f = calls_follow (made_from_fresh new_tied call_tied new run) in ways_back s (book_after cs) f.kept f.held
