-- A session moves as the plain book does.
use mathlib.Core.Path.{◌≡◌, sym, ap, subst, ◌∙◌}
use mathlib.Core.List.{List}
use Rattle.session.specs.declared.session.Session.{Session}
use Rattle.calls.specs.Book.{empty_book, Answer}
use Rattle.calls.specs.Runs.{first, shown, final}
use Rattle.calls.specs.Calls.{Call, CallSeen, book_with, book_after, plain_book, Reachable}
use Rattle.session.specs.View.{view, fresh_session}
use Rattle.session.specs.Promises.{session_answer, session_with, session, Met, CallsMade, AnswersByTerms}
use Rattle.session.specs.SessionLaws.{session_of}
use Rattle.calls.proofs.ByTerms.{answer_by_terms}
use Rattle.calls.proofs.Runs as runs
use Rattle.calls.proofs.Runs.{Simulates, Follows}
use Rattle.calls.proofs.Returns.{Fits, empty_fits, fits_with}
use Rattle.session.proofs.Views.{fresh_view}
use Rattle.session.proofs.Whole.{view_of, with_of, fresh_of}

-- a session that is, as a whole value, the one of its book, which it has room for
pub record Whole (s : Session) : Type 0 where
  pub same : s ≡ session_of (view s)
  pub fits : Fits (view s)

-- what an accepted call makes of the session, it makes of the book
pub accepted_moves : (s : Session) (c : Call) → Whole s → (session_answer s c).number ≡ 0
    → (view (session_with s c) ≡ book_with (view s) c) × Whole (session_with s c)
accepted_moves s c w e =
    let fits = fits_with (view s) c w.fits e in
    let moved : session_with s c ≡ session_of (book_with (view s) c) =
    ap (λ t. session_with t c) w.same ∙ with_of (view s) c w.fits e in
    let held = ap view moved ∙ view_of (book_with (view s) c) fits in
    (held, record { same = moved ∙ ap session_of (sym held); fits = subst Fits (sym held) fits })

pub answers_by_terms : AnswersByTerms
answers_by_terms s h c = answer_by_terms (view s) c h

pub session_as_book : Simulates view session plain_book empty_book Whole
session_as_book = record { answers = λ s c whole h. answers_by_terms s h c; moves = accepted_moves }

-- such a session, whose book calls lead to
pub record Kept (s : Session) : Type 0 where
  pub whole : Whole s
  pub reachable : Reachable (view s)

pub fresh_kept : Kept fresh_session
fresh_kept =
    record {
      whole = record
          { same = fresh_of ∙ ap session_of (sym fresh_view); fits = subst Fits (sym fresh_view) empty_fits };
      reachable = subst Reachable (sym fresh_view) first;
    }

-- what calls from a fresh session show and leave: as the plain book does
pub record Followed (cs : List Call) (os : List CallSeen) (s : Session) : Type 0 where
  pub seen : os ≡ shown plain_book empty_book cs
  pub held : view s ≡ book_after cs
  pub kept : Kept s

pub calls_follow : {cs : List Call} {os : List CallSeen} {s : Session} → CallsMade fresh_session cs os s
    → Followed cs os s
calls_follow {cs} run =
    let (shows, holds, whole, reachable) = runs.run_follows session_as_book fresh_kept.whole
    fresh_kept.reachable run in
    record {
      seen = shows ∙ ap (λ b. shown plain_book b cs) fresh_view;
      held = holds ∙ ap (λ b. final plain_book b cs) fresh_view;
      kept = record { whole = whole; reachable = reachable };
    }

pub call_follows : {s t : Session} {c : Call} {a : Answer} → Kept s → Met s c a t
    → Follows view plain_book empty_book Whole s c a t
call_follows k m = runs.call_follows session_as_book k.whole k.reachable m

pub kept_on : {s t : Session} {c : Call} {a : Answer} → Kept s → Met s c a t → Kept t
kept_on k m = let f = call_follows k m in record { whole = f.kept; reachable = f.reached }
