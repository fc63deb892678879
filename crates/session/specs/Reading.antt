-- The reading of a bundle: the calls that it makes, line by line, from a fresh session.
use Rattle.std.specs.Prelude.{ℕ, ◌+◌, cond, List, [], ◌∷◌, length}
use Rattle.std.proofs.Math.Option.{Option-elim}
use Rattle.lines.specs.Line.{Line, lines, is_line}
use Rattle.session.specs.declared.session.Session.{Session}
use Rattle.calls.specs.Book.{Step, Book, Answer, answer, accepted}
use Rattle.common.specs.Refusals.{wrong_form}
use Rattle.calls.specs.TermCall.{term_answer}
use Rattle.calls.specs.StepCall.{step_answer}
use Rattle.session.specs.View.{view, fresh_session, with_row, with_step}
use Rattle.bundles.specs.Bundle.{row_names, step_names, row_of_line, step_of_line}

-- what a reading answers, and the session that it leaves
pub record Reading : Type 0 where
  pub answer : Answer
  pub session : Session

-- line n is refused with the number k
abbrev pub refused_at : (k n : ℕ) → Reading
refused_at k n = record { answer = answer k n; session = fresh_session }

-- `judge` is how a step call is answered: by terms in what read promises, by row numbers in what its parts promise
module _ (judge : Book → Step → Answer) where
  -- step calls on the session s, one for each line from line n on
  unfoldable pub steps_read : Session → (n : ℕ) → List Line → Reading
  steps_read s n [] = record { answer = answer 0 (length (view s).steps); session = s }
  steps_read s n (l ∷ ls) =
      Option-elim (step_of_line l) (refused_at wrong_form n)
      (λ p. let a = judge (view s) p in cond (accepted a) (steps_read (with_step s p) (n + 1) ls)
      (refused_at a.number n))

  -- term calls on the session s, one for each line from line n on, until the second names line
  unfoldable pub rows_read : Session → (n : ℕ) → List Line → Reading
  rows_read s n [] = refused_at wrong_form n
  rows_read s n (l ∷ ls) =
      cond (is_line step_names l) (steps_read s (n + 1) ls)
      (Option-elim (row_of_line l) (refused_at wrong_form n)
      (λ r. let a = term_answer (view s).rows r in cond (accepted a) (rows_read (with_row s r) (n + 1) ls)
      (refused_at a.number n)))

  -- the first names line, and then the others
  unfoldable pub lines_read : List Line → Reading
  lines_read [] = refused_at wrong_form 1
  lines_read (l ∷ ls) = cond (is_line row_names l) (rows_read fresh_session 2 ls) (refused_at wrong_form 1)

-- the book's answers, as every call on a session that calls lead to gives them
unfoldable pub reading : List ℕ → Reading
reading bytes = lines_read step_answer (lines bytes)
