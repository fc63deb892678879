-- An accepted reading makes the calls of the lines, and they follow the book; a refused one leaves a fresh session.
use Prim.Native.Nat.{ℕ, ◌+◌}
use mathlib.Core.Path.{◌≡◌, refl, sym, ap, subst, ◌∙◌}
use mathlib.Core.Bool.{Bool, true, false, cond, ◌&&◌, false≢true}
use mathlib.Core.List.{List, [], ◌∷◌, ◌++◌, map}
use mathlib.Core.Option.{Option, none, some, Option-elim}
use native.Mathlib.Omega.{arith}
use lib.ListN.{length}
use borrow.Author.Tests.{eqb-true, eqb-false}
use Rattle.std.specs.Prelude.{Result, Ok, Err, OnErr}
use Rattle.common.proofs.Refusals.{refusal_some}
use Rattle.terms.specs.Row.{Row}
use Rattle.lines.specs.Line.{Line, line, lines, same_bytes, is_line}
use Rattle.lines.proofs.SameBytes.{same_bytes_lem}
use Rattle.session.specs.declared.session.Session.{Session}
use Rattle.session.specs.represent.Results.{ReadResult}
use Rattle.calls.specs.declared.answer.LineRefusal.{LineRefusal}
use Rattle.calls.specs.Book.{Step, Answer, answer, accepted}
use Rattle.calls.specs.TermCall.{term_answer}
use Rattle.calls.specs.Runs.{seen, done, then}
use Rattle.calls.specs.Calls.{term, step, CallSeen, AllAccepted}
use Rattle.session.specs.View.{view, fresh_session, with_row, with_step}
use Rattle.calls.specs.Promises.{row_step_answer}
use Rattle.session.specs.Promises.{CallRelation, SelectRelation, session, Met, CallsMade, SelectMet}
use Rattle.bundles.specs.Bundle.{row_names, step_names, row_of_line, step_of_line}
use Rattle.common.specs.Refusals.{wrong_form}
use Rattle.session.specs.Reading.{Reading, refused_at, steps_read, rows_read, lines_read}
use Rattle.session.specs.ReadCall.{read_answer_of, ReadMet}
use Rattle.session.specs.ReadGuarantee.{calls_of, IsBundle, ReadAccepted}
use Rattle.calls.proofs.Runs.{accepted_made, run_map}
use Rattle.session.proofs.ReadByRows.{reading_by_rows}
use Rattle.session.proofs.FollowsBook.{CallsKept, SelectsKept, calls_follow_book}
use Rattle.session.proofs.StepsAdded.{calls_held}

-- the line is the bytes and a newline
pub is_line_lem : (ys : List ℕ) (l : Line) → is_line ys l ≡ true → l ≡ line ys true
unfolding is_line
is_line_lem ys l e = by_end l.ended refl e
  where
    by_end : (b : Bool) → l.ended ≡ b → (b && same_bytes l.bytes ys) ≡ true → l ≡ line ys true
    by_end true s t = λ i. line (same_bytes_lem l.bytes ys t i) (s i)
    by_end false s t = absurd (false≢true t)

-- the step lines that are read from s, which leave u
record StepsMade (s : Session) (ls : List Line) (u : Session) : Type 0 where
  pub steps : List Step
  pub are_steps : map step_of_line ls ≡ map some steps
  pub seen : List CallSeen
  pub made : CallsMade s (map step steps) seen u
  pub accepted : AllAccepted seen

one_step : (s : Session) (p : Step) (l : Line) (ls : List Line) (u : Session) → step_of_line l ≡ some p
    → (row_step_answer (view s) p).number ≡ 0
    → StepsMade (with_step s p) ls u → StepsMade s (l ∷ ls) u
one_step s p l ls u is e later =
    record {
      steps = p ∷ later.steps;
      are_steps = λ i. is i ∷ later.are_steps i;
      seen = seen (row_step_answer (view s) p) (view (with_step s p)) ∷ later.seen;
      made = then (accepted_made session s (step p) e) later.made;
      accepted = (e, later.accepted);
    }

-- the reading from line n on, where that line is the step p
abbrev after_step : Session → ℕ → List Line → Step → Reading
after_step s n ls p =
    cond (accepted (row_step_answer (view s) p)) (steps_read row_step_answer (with_step s p) (n + 1) ls)
    (refused_at (row_step_answer (view s) p).number n)

step_line_made : (s : Session) (n : ℕ) (l : Line) (ls : List Line) (p : Step) → step_of_line l ≡ some p
    → (after_step s n ls p).answer.number ≡ 0
    → ((steps_read row_step_answer (with_step s p) (n + 1) ls).answer.number ≡ 0 → StepsMade (with_step s p) ls
    (steps_read row_step_answer (with_step s p) (n + 1) ls).session)
    → StepsMade s (l ∷ ls) (after_step s n ls p).session
step_line_made s n l ls p is e later = by_answer (accepted (row_step_answer (view s) p)) refl e
  where
    by_answer : (b : Bool) → accepted (row_step_answer (view s) p) ≡ b
        → (cond b (steps_read row_step_answer (with_step s p) (n + 1) ls)
        (refused_at (row_step_answer (view s) p).number n)).answer.number ≡ 0
        → StepsMade s (l ∷ ls) (cond b (steps_read row_step_answer (with_step s p) (n + 1) ls)
        (refused_at (row_step_answer (view s) p).number n)).session
    by_answer true t u = one_step s p l ls _ is (eqb-true _ 0 t) (later u)
    by_answer false t u = absurd (eqb-false (row_step_answer (view s) p).number 0 t u)

steps_made : (s : Session) (n : ℕ) (ls : List Line) → (steps_read row_step_answer s n ls).answer.number ≡ 0
    → StepsMade s ls (steps_read row_step_answer s n ls).session
unfolding steps_read Option-elim
steps_made s n [] e = record { steps = []; are_steps = refl; seen = []; made = done; accepted = tt }
steps_made s n (l ∷ ls) e = by_form (step_of_line l) refl e (λ p. steps_made (with_step s p) (n + 1) ls)
  where
    by_form : (o : Option Step) → step_of_line l ≡ o → (Option-elim o (refused_at wrong_form n)
        (after_step s n ls)).answer.number ≡ 0
        → ((p : Step) → (steps_read row_step_answer (with_step s p) (n + 1) ls).answer.number ≡ 0
        → StepsMade (with_step s p) ls (steps_read row_step_answer (with_step s p) (n + 1) ls).session)
        → StepsMade s (l ∷ ls) (Option-elim o (refused_at wrong_form n) (after_step s n ls)).session
    by_form none is e later = absurd (omega arith)
    by_form (some p) is e later = step_line_made s n l ls p is e (later p)

-- the term lines that are read from s, with the second names line and the step lines after them, which leave u
record RowsMade (s : Session) (ls : List Line) (u : Session) : Type 0 where
  pub row_lines : List Line
  pub step_lines : List Line
  pub text : ls ≡ row_lines ++ line step_names true ∷ step_lines
  pub rows : List Row
  pub are_rows : map row_of_line row_lines ≡ map some rows
  pub steps : List Step
  pub are_steps : map step_of_line step_lines ≡ map some steps
  pub seen : List CallSeen
  pub made : CallsMade s (calls_of rows steps) seen u
  pub accepted : AllAccepted seen

names_made : (s : Session) (l : Line) (ls : List Line) (u : Session) → is_line step_names l ≡ true → StepsMade s ls u
    → RowsMade s (l ∷ ls) u
names_made s l ls u is later =
    record {
      row_lines = [];
      step_lines = ls;
      text = ap (λ k. k ∷ ls) (is_line_lem step_names l is);
      rows = [];
      are_rows = refl;
      steps = later.steps;
      are_steps = later.are_steps;
      seen = later.seen;
      made = later.made;
      accepted = later.accepted;
    }

one_row : (s : Session) (r : Row) (l : Line) (ls : List Line) (u : Session) → row_of_line l ≡ some r
    → (term_answer (view s).rows r).number ≡ 0
    → RowsMade (with_row s r) ls u → RowsMade s (l ∷ ls) u
one_row s r l ls u is e later =
    record {
      row_lines = l ∷ later.row_lines;
      step_lines = later.step_lines;
      text = ap (λ ks. l ∷ ks) later.text;
      rows = r ∷ later.rows;
      are_rows = λ i. is i ∷ later.are_rows i;
      steps = later.steps;
      are_steps = later.are_steps;
      seen = seen (term_answer (view s).rows r) (view (with_row s r)) ∷ later.seen;
      made = then (accepted_made session s (term r) e) later.made;
      accepted = (e, later.accepted);
    }

-- the reading from line n on, where that line is the row r
abbrev after_row : Session → ℕ → List Line → Row → Reading
after_row s n ls r =
    cond (accepted (term_answer (view s).rows r)) (rows_read row_step_answer (with_row s r) (n + 1) ls)
    (refused_at (term_answer (view s).rows r).number n)

row_line_made : (s : Session) (n : ℕ) (l : Line) (ls : List Line) (r : Row) → row_of_line l ≡ some r
    → (after_row s n ls r).answer.number ≡ 0
    → ((rows_read row_step_answer (with_row s r) (n + 1) ls).answer.number ≡ 0 → RowsMade (with_row s r) ls
    (rows_read row_step_answer (with_row s r) (n + 1) ls).session)
    → RowsMade s (l ∷ ls) (after_row s n ls r).session
row_line_made s n l ls r is e later = by_answer (accepted (term_answer (view s).rows r)) refl e
  where
    by_answer : (b : Bool) → accepted (term_answer (view s).rows r) ≡ b
        → (cond b (rows_read row_step_answer (with_row s r) (n + 1) ls)
        (refused_at (term_answer (view s).rows r).number n)).answer.number ≡ 0
        → RowsMade s (l ∷ ls) (cond b (rows_read row_step_answer (with_row s r) (n + 1) ls)
        (refused_at (term_answer (view s).rows r).number n)).session
    by_answer true t u = one_row s r l ls _ is (eqb-true _ 0 t) (later u)
    by_answer false t u = absurd (eqb-false (term_answer (view s).rows r).number 0 t u)

rows_made : (s : Session) (n : ℕ) (ls : List Line) → (rows_read row_step_answer s n ls).answer.number ≡ 0
    → RowsMade s ls (rows_read row_step_answer s n ls).session
unfolding rows_read Option-elim
rows_made s n [] e = absurd (omega arith)
rows_made s n (l ∷ ls) e = by_names (is_line step_names l) refl e (λ r. rows_made (with_row s r) (n + 1) ls)
  where
    by_form : (o : Option Row) → row_of_line l ≡ o → (Option-elim o (refused_at wrong_form n)
        (after_row s n ls)).answer.number ≡ 0
        → ((r : Row) → (rows_read row_step_answer (with_row s r) (n + 1) ls).answer.number ≡ 0 →
        RowsMade (with_row s r) ls
        (rows_read row_step_answer (with_row s r) (n + 1) ls).session)
        → RowsMade s (l ∷ ls) (Option-elim o (refused_at wrong_form n) (after_row s n ls)).session
    by_form none is e later = absurd (omega arith)
    by_form (some r) is e later = row_line_made s n l ls r is e (later r)

    by_names : (b : Bool) → is_line step_names l ≡ b
        → (cond b (steps_read row_step_answer s (n + 1) ls) (Option-elim (row_of_line l) (refused_at wrong_form n)
        (after_row s n ls))).answer.number ≡ 0
        → ((r : Row) → (rows_read row_step_answer (with_row s r) (n + 1) ls).answer.number ≡ 0 →
        RowsMade (with_row s r) ls
        (rows_read row_step_answer (with_row s r) (n + 1) ls).session)
        → RowsMade s (l ∷ ls) (cond b (steps_read row_step_answer s (n + 1) ls)
        (Option-elim (row_of_line l) (refused_at wrong_form n) (after_row s n ls))).session
    by_names true is e later = names_made s l ls _ is (steps_made s (n + 1) ls e)
    by_names false is e later = by_form (row_of_line l) refl e later

-- the whole bundle
record BundleMade (ls : List Line) (u : Session) : Type 0 where
  pub rows : List Row
  pub steps : List Step
  pub bundle : IsBundle ls rows steps
  pub seen : List CallSeen
  pub made : CallsMade fresh_session (calls_of rows steps) seen u
  pub accepted : AllAccepted seen

first_names_made : (l : Line) (ls : List Line) (u : Session) → is_line row_names l ≡ true → RowsMade fresh_session ls u
    → BundleMade (l ∷ ls) u
first_names_made l ls u is m =
    record {
      rows = m.rows;
      steps = m.steps;
      bundle = record {
        row_lines = m.row_lines;
        step_lines = m.step_lines;
        text = λ i. is_line_lem row_names l is i ∷ m.text i;
        are_rows = m.are_rows;
        are_steps = m.are_steps;
      };
      seen = m.seen;
      made = m.made;
      accepted = m.accepted;
    }

lines_made : (ls : List Line) → (lines_read row_step_answer ls).answer.number ≡ 0
    → BundleMade ls (lines_read row_step_answer ls).session
unfolding lines_read
lines_made [] e = absurd (omega arith)
lines_made (l ∷ ls) e = by_names (is_line row_names l) refl e
  where
    by_names : (b : Bool) → is_line row_names l ≡ b → (cond b (rows_read row_step_answer fresh_session 2 ls)
        (refused_at wrong_form 1)).answer.number ≡ 0
        → BundleMade (l ∷ ls) (cond b (rows_read row_step_answer fresh_session 2 ls) (refused_at wrong_form 1)).session
    by_names true is e = first_names_made l ls _ is (rows_made fresh_session 2 ls e)
    by_names false is e = absurd (omega arith)

-- an accepted reading tells how many steps its session holds, and a refused one leaves a fresh session
record Settled (r : Reading) : Type 0 where
  pub held : r.answer.number ≡ 0 → r.answer ≡ answer 0 (length (view r.session).steps)
  pub fresh : ¬ (r.answer.number ≡ 0) → r.session ≡ fresh_session

refused_settled : (k n : ℕ) → ¬ (k ≡ 0) → Settled (refused_at k n)
refused_settled k n f = record { held = λ e. absurd (f e); fresh = λ g. refl }

judged_settled : (a : Answer) (n : ℕ) (r : Reading) → Settled r
    → Settled (cond (accepted a) r (refused_at a.number n))
judged_settled a n r w = by_test (accepted a) refl
  where
    by_test : (b : Bool) → accepted a ≡ b → Settled (cond b r (refused_at a.number n))
    by_test true e = w
    by_test false e = refused_settled a.number n (eqb-false a.number 0 e)

either_settled : (b : Bool) (r t : Reading) → Settled r → Settled t → Settled (cond b r t)
either_settled true r t w v = w
either_settled false r t w v = v

form_settled : {A : Type 0} (o : Option A) (n : ℕ) (after : A → Reading) → ((x : A) → Settled (after x))
    → Settled (Option-elim o (refused_at wrong_form n) after)
unfolding Option-elim
form_settled none n after later = refused_settled wrong_form n (λ e. absurd (omega arith))
form_settled (some x) n after later = later x

steps_settled : (s : Session) (n : ℕ) (ls : List Line) → Settled (steps_read row_step_answer s n ls)
unfolding steps_read
steps_settled s n [] = record { held = λ e. refl; fresh = λ f. absurd (f refl) }
steps_settled s n (l ∷ ls) = form_settled (step_of_line l) n _ (λ p. judged_settled (row_step_answer (view s) p) n _
    (steps_settled (with_step s p) (n + 1) ls))

rows_settled : (s : Session) (n : ℕ) (ls : List Line) → Settled (rows_read row_step_answer s n ls)
unfolding rows_read
rows_settled s n [] = refused_settled wrong_form n (λ e. absurd (omega arith))
rows_settled s n (l ∷ ls) =
    either_settled (is_line step_names l) _ _ (steps_settled s (n + 1) ls)
    (form_settled (row_of_line l) n _ (λ r. judged_settled (term_answer (view s).rows r) n _
    (rows_settled (with_row s r) (n + 1) ls)))

lines_settled : (ls : List Line) → Settled (lines_read row_step_answer ls)
unfolding lines_read
lines_settled [] = refused_settled wrong_form 1 (λ e. absurd (omega arith))
lines_settled (l ∷ ls) =
    either_settled (is_line row_names l) _ _ (rows_settled fresh_session 2 ls)
    (refused_settled wrong_form 1 (λ e. absurd (omega arith)))

-- where select meets its promise, and calls that meet theirs can be made
module _ (Selected : SelectRelation) (Called : CallRelation)
    (select_tied : SelectsKept Selected SelectMet) (met_called : CallsKept Met Called)
  where
    pub read_accepted : (bytes : List ℕ) (t : ReadResult) → ReadMet bytes t
        → (read_answer_of t.answer).number ≡ 0 → ReadAccepted Selected Called bytes t
    read_accepted bytes t m e =
        let by_rows = reading_by_rows bytes in
        let answered = m.answer ∙ ap (λ r. r.answer) by_rows in
        let left = m.session ∙ ap (λ r. r.session) by_rows in
        let zero-told = sym (ap (λ a. a.number) answered) ∙ e in
        let made = lines_made (lines bytes) zero-told in
        let calls = calls_of made.rows made.steps in
        let run = subst (CallsMade fresh_session calls made.seen) (sym left) made.made in
        let holds = calls_held made.rows made.steps made.seen t.session run made.accepted in
        let held = ap (λ b. length b.steps) holds in
        let told = answered ∙ (lines_settled (lines bytes)).held zero-told in
        record {
          rows = made.rows;
          steps = made.steps;
          bundle = made.bundle;
          seen = made.seen;
          made = run_map met_called run;
          all_accepted = made.accepted;
          count = told ∙ ap (λ s. answer 0 (length (view s).steps)) (sym left) ∙ ap (answer 0) held;
          follows = calls_follow_book Selected select_tied calls made.seen t.session run;
        }

pub read_refused : (bytes : List ℕ) (t : ReadResult) → ReadMet bytes t
    → ¬ ((read_answer_of t.answer).number ≡ 0) → t.session ≡ fresh_session
read_refused bytes t m f =
    let by_rows = reading_by_rows bytes in
    m.session ∙ ap (λ r. r.session) by_rows
    ∙ (lines_settled (lines bytes)).fresh (λ e. f (ap (λ a. a.number) (m.answer ∙ ap (λ r. r.answer) by_rows) ∙ e))

pub refused_fresh : (bytes : List ℕ) (t : ReadResult) → ReadMet bytes t → OnErr t.answer (t.session ≡ fresh_session)
refused_fresh bytes t m = by_case t.answer refl
  where
    by_case : (o : Result ℕ LineRefusal) → o ≡ t.answer → OnErr o (t.session ≡ fresh_session)
    by_case (Ok n) is = tt
    by_case (Err e) is =
        read_refused bytes t m (λ z. refusal_some e.refusal (ap (λ o. (read_answer_of o).number) is ∙ z))
