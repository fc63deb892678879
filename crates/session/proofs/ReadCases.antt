-- Every answer of a reading is that of a case of the code's: a count, or a refusal at a line.
use Prim.Native.Nat.{ℕ, ◌+◌}
use mathlib.Core.Path.{refl, subst}
use mathlib.Core.Bool.{Bool, true, false, cond}
use mathlib.Core.List.{List, [], ◌∷◌}
use mathlib.Core.Option.{Option, none, some, Option-elim}
use lib.ListN.{length}
use borrow.Author.Tests.{ne_eqb}
use Rattle.std.specs.Prelude.{Ok, Err}
use Rattle.common.specs.Refusals.{wrong_form}
use Rattle.common.specs.represent.Refusal.{refusal_number}
use Rattle.common.proofs.Refusals.{refusal_some}
use Rattle.lines.specs.Line.{Line, lines, is_line}
use Rattle.bundles.specs.Bundle.{row_names, step_names, row_of_line, step_of_line}
use Rattle.calls.specs.Book.{Answer, accepted}
use Rattle.calls.specs.TermCall.{term_answer}
use Rattle.calls.specs.StepCall.{step_answer}
use Rattle.calls.specs.represent.Answers.{answer_of}
use Rattle.calls.proofs.Cases.{HasCase, term_case, step_case}
use Rattle.session.specs.declared.session.Session.{Session}
use Rattle.session.specs.View.{view, fresh_session, with_row, with_step}
use Rattle.session.specs.Reading.{Reading, refused_at, steps_read, rows_read, lines_read, reading}
use Rattle.session.specs.ReadCall.{read_answer_of}
use Rattle.session.specs.private.Parts.{wrong_form_at}

abbrev HasRead : Reading → Type 0
HasRead t = HasCase read_answer_of t.answer

no_form : (n : ℕ) → HasRead (refused_at wrong_form n)
no_form n = (Err (wrong_form_at n), refl)

-- a line of a form that is read, or of none
by_form : {A : Type 0} (o : Option A) (n : ℕ) (f : A → Reading) → ((a : A) → HasRead (f a))
    → HasRead (Option-elim o (refused_at wrong_form n) f)
unfolding Option-elim
by_form none n f all = no_form n
by_form (some a) n f all = all a

by_test : (b : Bool) (t u : Reading) → HasRead t → HasRead u → HasRead (cond b t u)
by_test true t u x y = x
by_test false t u x y = y

-- a line whose call is answered with a case of the code's
after_call : (a : Answer) → HasCase answer_of a → (n : ℕ) (t : Reading) → HasRead t
    → HasRead (cond (accepted a) t (refused_at a.number n))
after_call a (Ok k, e) n t told = subst (λ b. HasRead (cond (accepted b) t (refused_at b.number n))) e told
after_call a (Err r, e) n t told =
    subst (λ b. HasRead (cond (accepted b) t (refused_at b.number n))) e
    (rw (ne_eqb (refusal_number r) 0 (refusal_some r)) (Err (record { refusal = r; line = n }), refl))

steps_case : (s : Session) (n : ℕ) (ls : List Line) → HasRead (steps_read step_answer s n ls)
unfolding steps_read step_answer
steps_case s n [] = (Ok (length (view s).steps), refl)
steps_case s n (l ∷ ls) =
    by_form (step_of_line l) n _ (λ p. after_call (step_answer (view s) p) (step_case _ (view s) p) n _
    (steps_case (with_step s p) (n + 1) ls))

rows_case : (s : Session) (n : ℕ) (ls : List Line) → HasRead (rows_read step_answer s n ls)
unfolding rows_read
rows_case s n [] = no_form n
rows_case s n (l ∷ ls) =
    by_test (is_line step_names l) _ _ (steps_case s (n + 1) ls)
    (by_form (row_of_line l) n _ (λ r. after_call (term_answer (view s).rows r) (term_case (view s).rows r) n _
    (rows_case (with_row s r) (n + 1) ls)))

lines_case : (ls : List Line) → HasRead (lines_read step_answer ls)
unfolding lines_read
lines_case [] = no_form 1
lines_case (l ∷ ls) = by_test (is_line row_names l) _ _ (rows_case fresh_session 2 ls) (no_form 1)

pub reading_case : (bytes : List ℕ) → HasRead (reading bytes)
unfolding reading
reading_case bytes = lines_case (lines bytes)
