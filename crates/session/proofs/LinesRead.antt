-- The reading of a bundle, call by call.
use Prim.Native.Nat.{ℕ, ◌+◌}
use mathlib.Core.Path.{◌≡◌, refl, sym, ap, ◌∙◌}
use mathlib.Core.Bool.{true, false, cond, false≢true}
use mathlib.Core.List.{List, [], ◌∷◌}
use mathlib.Core.Option.{none, some, Option-elim, some-ne-none}
use lib.ListN.{drop}
use Rattle.terms.specs.Row.{row_of_numbers}
use Rattle.lines.specs.Line.{Line, first_is}
use Rattle.lines.specs.Number.{numbers_of}
use Rattle.lines.specs.private.NumbersRead.{first_parts, first_numbers}
use Rattle.session.specs.declared.session.Session.{Session}
use Rattle.calls.specs.Book.{Answer, accepted, step_of_numbers}
use Rattle.calls.specs.TermCall.{term_answer}
use Rattle.calls.specs.represent.Tables.{row_width, step_width}
use Rattle.session.specs.View.{view, with_row, with_step}
use Rattle.calls.specs.Calls.{term, step}
use Rattle.calls.specs.Promises.{row_step_answer}
use Rattle.session.specs.Promises.{Met}
use Rattle.bundles.specs.Bundle.{step_names, row_of_line, step_of_line}
use Rattle.common.specs.Refusals.{wrong_form}
use Rattle.session.specs.Reading.{refused_at, steps_read, rows_read}
use Rattle.calls.proofs.Accepted.{if_accepted, if_refused}

module _ (s : Session) (n : ℕ) where
  -- the second names line
  pub names_read : (ls : List Line) → first_is step_names ls ≡ true → rows_read row_step_answer s n ls
      ≡ steps_read row_step_answer s (n + 1) (drop 1 ls)
  unfolding rows_read first_is
  names_read [] e = absurd (false≢true e)
  names_read (l ∷ ls) e = rw e

  pub row_wrong : (ls : List Line) → first_is step_names ls ≡ false → none ≡ first_numbers row_width ls
      → rows_read row_step_answer s n ls ≡ refused_at wrong_form n
  unfolding rows_read first_is first_parts numbers_of row_of_line Option-elim
  row_wrong [] e f = refl
  row_wrong (l ∷ ls) e f = rw (e, ← f)

  row_called : (ls : List Line) → first_is step_names ls ≡ false → (ns : List ℕ) → some ns ≡ first_numbers row_width ls
      → rows_read row_step_answer s n ls
      ≡ cond (accepted (term_answer (view s).rows (row_of_numbers ns)))
      (rows_read row_step_answer (with_row s (row_of_numbers ns)) (n + 1) (drop 1 ls))
      (refused_at (term_answer (view s).rows (row_of_numbers ns)).number n)
  unfolding rows_read first_is first_parts numbers_of row_of_line Option-elim
  row_called [] e ns f = absurd (some-ne-none _ f)
  row_called (l ∷ ls) e ns f = rw (e, ← f)

  -- a term line makes its call
  module _ (ls : List Line) (other : first_is step_names ls ≡ false) (ns : List ℕ)
      (first : some ns ≡ first_numbers row_width ls)
      (a : Answer) (t : Session) (m : Met s (term (row_of_numbers ns)) a t)
    where
      pub row_held : a.number ≡ 0 → rows_read row_step_answer s n ls ≡ rows_read row_step_answer t (n + 1) (drop 1 ls)
      row_held e =
          row_called ls other ns first ∙ sym (if_accepted _ _ m.answer _ _ e)
          ∙ ap (λ u. rows_read row_step_answer u (n + 1) (drop 1 ls))
          (if_accepted _ _ m.answer (with_row s (row_of_numbers ns)) s e ∙ sym m.left)

      pub row_refused : ¬ (a.number ≡ 0) → rows_read row_step_answer s n ls ≡ refused_at a.number n
      row_refused f = row_called ls other ns first ∙ sym (if_refused _ _ m.answer _ _ f)
          ∙ ap (λ o. refused_at o.number n) (sym m.answer)

  pub step_wrong : (ls : List Line) → ¬ (ls ≡ []) → none ≡ first_numbers step_width ls →
      steps_read row_step_answer s n ls
      ≡ refused_at wrong_form n
  unfolding steps_read first_parts numbers_of step_of_line Option-elim
  step_wrong [] full f = absurd (full refl)
  step_wrong (l ∷ ls) full f = rw (← f)

  step_called : (ls : List Line) (ns : List ℕ) → some ns ≡ first_numbers step_width ls
      → steps_read row_step_answer s n ls
      ≡ cond (accepted (row_step_answer (view s) (step_of_numbers ns)))
      (steps_read row_step_answer (with_step s (step_of_numbers ns)) (n + 1) (drop 1 ls))
      (refused_at (row_step_answer (view s) (step_of_numbers ns)).number n)
  unfolding steps_read first_parts numbers_of step_of_line Option-elim
  step_called [] ns f = absurd (some-ne-none _ f)
  step_called (l ∷ ls) ns f = rw (← f)

  -- a step line makes its call
  module _ (ls : List Line) (ns : List ℕ) (first : some ns ≡ first_numbers step_width ls) (a : Answer) (t : Session)
      (m : Met s (step (step_of_numbers ns)) a t) where
    pub step_held : a.number ≡ 0 → steps_read row_step_answer s n ls ≡ steps_read row_step_answer t (n + 1) (drop 1 ls)
    step_held e =
        step_called ls ns first ∙ sym (if_accepted _ _ m.answer _ _ e)
        ∙ ap (λ u. steps_read row_step_answer u (n + 1) (drop 1 ls))
        (if_accepted _ _ m.answer (with_step s (step_of_numbers ns)) s e ∙ sym m.left)

    pub step_refused : ¬ (a.number ≡ 0) → steps_read row_step_answer s n ls ≡ refused_at a.number n
    step_refused f = step_called ls ns first ∙ sym (if_refused _ _ m.answer _ _ f)
        ∙ ap (λ o. refused_at o.number n) (sym m.answer)
