-- From the reading of a bundle's parts to the call read.
use Prim.Native.Nat.{ℕ, ◌≤◌}
use Rattle.std.specs.Prelude.{Result, Ok, Err, is_ok}
use Rattle.common.specs.represent.Refusal.{refusal_number}
use Rattle.common.proofs.Refusals.{refusal_some}
use mathlib.Core.Path.{◌≡◌, refl, sym, ap, ◌∙◌}
use mathlib.Core.Bool.{true, false, false≢true}
use mathlib.Core.List.{List, [], ◌∷◌}
use lib.ListN.{length, drop}
use borrow.Author.Tests.{ne_eqb}
use Rattle.lines.specs.Ascii.{ascii}
use Rattle.lines.specs.Line.{Line, lines, first_is}
use Rattle.lines.proofs.Start.{line_passed}
use Rattle.session.specs.represent.Results.{ReadResult}
use Rattle.session.specs.declared.read.RowsEnd.{RowsEnd}
use Rattle.calls.specs.declared.answer.LineRefusal.{LineRefusal}
use Rattle.session.specs.declared.session.Session.{Session}
use Rattle.calls.specs.Book.{accepted}
use Rattle.session.specs.View.{fresh_session}
use Rattle.bundles.specs.Bundle.{row_names}
use Rattle.calls.specs.Promises.{row_step_answer}
use Rattle.common.specs.Refusals.{wrong_form}
use Rattle.session.specs.Reading.{refused_at, steps_read, rows_read, lines_read, reading}
use Rattle.session.specs.ReadCall.{read_answer_of, reading_of, ReadMet}
use Rattle.session.specs.private.Parts.{holding}
use Rattle.session.specs.private.Parts.{after_rows, RowsReadMet, after_steps, StepsReadMet}
use Rattle.session.proofs.LineCalls.{row_names_free}
use Rattle.session.proofs.ReadByRows.{reading_by_rows}

pub read_met : (bytes : List ℕ) (t : ReadResult) → reading_of t ≡ reading bytes → ReadMet bytes t
read_met bytes t e =
    record {
      answer = ap (λ r. r.answer) e;
      variant = variant t.answer ∙ ap (λ r. accepted r.answer) e;
      session = ap (λ r. r.session) e;
    }
  where
    variant : (a : Result ℕ LineRefusal) → is_ok a ≡ accepted (read_answer_of a)
    variant (Ok n) = refl
    variant (Err e) = sym (ne_eqb (refusal_number e.refusal) 0 (refusal_some e.refusal))

no_names_read : (ls : List Line) → first_is row_names ls ≡ false → lines_read row_step_answer ls
    ≡ refused_at wrong_form 1
unfolding lines_read first_is
no_names_read [] e = refl
no_names_read (l ∷ ls) e = rw e

first_names_read : (ls : List Line) → first_is row_names ls ≡ true → lines_read row_step_answer ls
    ≡ rows_read row_step_answer fresh_session 2 (drop 1 ls)
unfolding lines_read first_is
first_names_read [] e = absurd (false≢true e)
first_names_read (l ∷ ls) e = rw e

-- the first names line is missing
pub no_names : (bytes : List ℕ) → first_is row_names (lines bytes) ≡ false → refused_at wrong_form 1 ≡ reading bytes
no_names bytes e = sym (reading_by_rows bytes ∙ no_names_read (lines bytes) e)

fresh_tables : fresh_session ≡ holding fresh_session.rows 0 fresh_session.steps 0
unfolding fresh_session
fresh_tables = refl

module _ (bytes : List ℕ) (e : first_is row_names (lines bytes) ≡ true) where
  -- the first line is 11 bytes long
  pub first_line : 11 ≤ length bytes
  unfolding row_names ascii
  first_line = (line_passed row_names bytes 0 row_names_free e).inside

  from_line_2 : reading bytes ≡ rows_read row_step_answer fresh_session 2 (lines (drop 11 bytes))
  unfolding row_names ascii
  from_line_2 = reading_by_rows bytes ∙ first_names_read (lines bytes) e
      ∙ ap (rows_read row_step_answer fresh_session 2)
      (sym (line_passed row_names bytes 0 row_names_free e).rest)

  pub rows_read_lem : (xs ys : List ℕ) (n : ℕ) → xs ≡ fresh_session.rows → (t : Result RowsEnd LineRefusal)
      → RowsReadMet bytes 11 xs ys n t → after_rows bytes ys n t ≡ reading bytes
  rows_read_lem xs ys n fresh t m =
      m.reading ∙ rw fresh (ap (λ s. rows_read row_step_answer s 2 (lines (drop 11 bytes))) (sym fresh_tables))
      ∙ sym from_line_2

pub steps_read_lem : (bytes ys : List ℕ) (n line at : ℕ) (zs₀ zs : List ℕ) → zs₀ ≡ fresh_session.steps
    → (t : Result ℕ LineRefusal) → StepsReadMet bytes at line ys n zs₀ zs t
    → steps_read row_step_answer (holding ys n fresh_session.steps 0) line (lines (drop at bytes)) ≡ reading bytes
    → after_steps ys n zs t ≡ reading bytes
steps_read_lem bytes ys n line at zs₀ zs fresh t m e =
    m.reading ∙ ap (λ ws. steps_read row_step_answer (holding ys n ws 0) line (lines (drop at bytes))) fresh ∙ e

-- a fresh session with other tables of rows and steps
pub fresh_with : (s : Session) → s ≡ fresh_session → (xs : List ℕ) (n : ℕ) (ys : List ℕ) (m : ℕ)
    → record { rows = xs; row_count = n; steps = ys; step_count = m; points = s.points; point_count = s.point_count }
    ≡ holding xs n ys m
unfolding fresh_session
fresh_with s e xs n ys m =
    ap (λ (t : Session). record {
      rows = xs;
      row_count = n;
      steps = ys;
      step_count = m;
      points = t.points;
      point_count = t.point_count;
    }) e
