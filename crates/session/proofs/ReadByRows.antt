-- Reading by the book's answers is reading by row numbers: every session on the way is one that calls lead to.
use Prim.Native.Nat.{ℕ, ◌+◌}
use mathlib.Core.Path.{◌≡◌, refl, ap}
use mathlib.Core.Bool.{Bool, true, false, cond}
use mathlib.Core.List.{List, [], ◌∷◌}
use mathlib.Core.Option.{Option, none, some, Option-elim}
use borrow.Author.Tests.{eqb-true}
use Rattle.terms.specs.Row.{Row}
use Rattle.lines.specs.Line.{Line, lines, is_line}
use Rattle.session.specs.declared.session.Session.{Session}
use Rattle.calls.specs.Book.{Step, Book, Answer, accepted}
use Rattle.calls.specs.TermCall.{term_answer}
use Rattle.calls.specs.StepCall.{step_answer}
use Rattle.calls.specs.Calls.{Call, term, step}
use Rattle.session.specs.View.{view, fresh_session, with_row, with_step}
use Rattle.calls.specs.Promises.{row_step_answer}
use Rattle.session.specs.Promises.{session_answer, session_with, session}
use Rattle.bundles.specs.Bundle.{row_names, step_names, row_of_line, step_of_line}
use Rattle.common.specs.Refusals.{wrong_form}
use Rattle.session.specs.Reading.{Reading, refused_at, steps_read, rows_read, lines_read, reading}
use Rattle.calls.proofs.Runs.{accepted_made}
use Rattle.calls.proofs.ByTerms.{row_answer_by_terms}
use Rattle.session.proofs.Simulation.{Kept, kept_on, fresh_kept}

kept_with : (s : Session) → Kept s → (c : Call) → accepted (session_answer s c) ≡ true → Kept (session_with s c)
kept_with s k c e = kept_on k (accepted_made session s c (eqb-true _ 0 e))

-- readings that are the same where the call is accepted
same_if_accepted : (b : Bool) (t u v : Reading) → (b ≡ true → t ≡ u) → cond b t v ≡ cond b u v
same_if_accepted true t u v same = same refl
same_if_accepted false t u v same = refl

steps_by_rows : (s : Session) → Kept s → (n : ℕ) (ls : List Line) → steps_read step_answer s n ls
    ≡ steps_read row_step_answer s n ls
unfolding steps_read Option-elim
steps_by_rows s k n [] = refl
steps_by_rows s k n (l ∷ ls) =
    by_form (step_of_line l) (λ p e. steps_by_rows (with_step s p) (kept_with s k (step p) e) (n + 1) ls)
  where
    after : (Book → Step → Answer) → Step → Reading
    after judge p = cond (accepted (judge (view s) p)) (steps_read judge (with_step s p) (n + 1) ls)
        (refused_at (judge (view s) p).number n)

    by_form : (o : Option Step)
        → ((p : Step) → accepted (row_step_answer (view s) p) ≡ true
        → steps_read step_answer (with_step s p) (n + 1) ls ≡ steps_read row_step_answer (with_step s p) (n + 1) ls)
        → Option-elim o (refused_at wrong_form n) (after step_answer) ≡ Option-elim o (refused_at wrong_form n)
        (after row_step_answer)
    by_form none later = refl
    by_form (some p) later =
        rw (← row_answer_by_terms (view s) p k.reachable)
        (same_if_accepted (accepted (row_step_answer (view s) p)) _ _ _ (later p))

rows_by_rows : (s : Session) → Kept s → (n : ℕ) (ls : List Line) → rows_read step_answer s n ls
    ≡ rows_read row_step_answer s n ls
unfolding rows_read Option-elim
rows_by_rows s k n [] = refl
rows_by_rows s k n (l ∷ ls) =
    by_names (is_line step_names l)
    (by_form (row_of_line l) (λ r e. rows_by_rows (with_row s r) (kept_with s k (term r) e) (n + 1) ls))
  where
    after : (Book → Step → Answer) → Row → Reading
    after judge r =
        cond (accepted (term_answer (view s).rows r)) (rows_read judge (with_row s r) (n + 1) ls)
        (refused_at (term_answer (view s).rows r).number n)

    by_form : (o : Option Row)
        → ((r : Row) → accepted (term_answer (view s).rows r) ≡ true
        → rows_read step_answer (with_row s r) (n + 1) ls ≡ rows_read row_step_answer (with_row s r) (n + 1) ls)
        → Option-elim o (refused_at wrong_form n) (after step_answer) ≡ Option-elim o (refused_at wrong_form n)
        (after row_step_answer)
    by_form none later = refl
    by_form (some r) later = same_if_accepted (accepted (term_answer (view s).rows r)) _ _ _ (later r)

    by_names : (b : Bool) {t u : Reading} → t ≡ u → cond b (steps_read step_answer s (n + 1) ls) t
        ≡ cond b (steps_read row_step_answer s (n + 1) ls) u
    by_names true e = steps_by_rows s k (n + 1) ls
    by_names false e = e

lines_by_rows : (ls : List Line) → lines_read step_answer ls ≡ lines_read row_step_answer ls
unfolding lines_read
lines_by_rows [] = refl
lines_by_rows (l ∷ ls) = ap (λ t. cond (is_line row_names l) t (refused_at wrong_form 1))
    (rows_by_rows fresh_session fresh_kept 2 ls)

pub reading_by_rows : (bytes : List ℕ) → reading bytes ≡ lines_read row_step_answer (lines bytes)
unfolding reading
reading_by_rows bytes = lines_by_rows (lines bytes)
