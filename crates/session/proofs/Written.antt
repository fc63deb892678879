-- What a write call leaves, and what is read from it.
use Rattle.calls.specs.represent.Answers.{NumberOrRefusal, answer_of}
use Prim.Native.Nat.{ℕ, ◌+◌, ◌*◌, ◌≤◌, ◌<◌}
use mathlib.Core.Path.{◌≡◌, refl, sym, ap, ap₂, ◌∙◌}
use mathlib.Core.Bool.{Bool, true, false, cond}
use mathlib.Core.List.{List, [], ◌∷◌, ◌++◌, append_assoc}
use native.Mathlib.Omega.{arith}
use lib.Dec.{leb}
use lib.ListN.{length, take, drop}
use lib.Seq.{take_at}
use borrow.Author.Tests.{le-leb, lt-leb}
use Rattle.terms.specs.Row.{Row, table_of}
use Rattle.common.specs.Limits.{max_bytes}
use Rattle.lines.specs.Line.{newline, lines}
use Rattle.session.specs.declared.session.Session.{Session}
use Rattle.std.specs.Prelude.{Ok, Err}
use Rattle.common.specs.declared.refusal.Refusal.TheVariants.{ShortBuffer}
use Rattle.calls.specs.Book.{Step, Book, answer}
use Rattle.common.specs.Refusals.{short_buffer}
use Rattle.calls.specs.Calls.{CallSeen, AllAccepted}
use Rattle.calls.specs.declared.held.Held.{Held}
use Rattle.calls.specs.represent.Tables.{first_row_numbers, first_step_numbers, steps_of}
use Rattle.bundles.specs.Bundle.{row_names, step_names, bundle_text}
use Rattle.bundles.specs.private.TextPut.{held_text}
use Rattle.bundles.proofs.Lengths.{bundle_short}
use Rattle.bundles.proofs.Spelling.{text_of, lines_joined, text_append, rows_spelled, steps_spelled}
use Rattle.session.specs.View.{view, fresh_session}
use Rattle.session.specs.Promises.{CallsMade}
use Rattle.session.specs.WriteCall.{session_text, WriteMet}
use Rattle.session.specs.ReadGuarantee.{calls_of, IsBundle}
use Rattle.session.proofs.Sorted.{AllSorted}
use Rattle.session.proofs.StepsAdded.{calls_held}

module _ (s : Session) (buffer : List ℕ) (w : NumberOrRefusal) (left : List ℕ) (m : WriteMet s buffer w left) where
  -- an accepted write leaves the text at the start
  pub written_text : (answer_of w).number ≡ 0 → take (answer_of w).value left ≡ session_text s
  written_text e = by_test (leb (length (session_text s)) (length buffer)) m.answer m.bytes
    where
      by_test : (b : Bool) → answer_of w ≡ cond b (answer 0 (length (session_text s)))
          (answer short_buffer (length (session_text s)))
          → left ≡ cond b (session_text s ++ drop (length (session_text s)) buffer) buffer
          → take (answer_of w).value left ≡ session_text s
      by_test true told bytes =
          ap₂ (λ n ys. take n ys) (ap (λ a. a.value) told) bytes
          ∙ take_at (session_text s) (drop (length (session_text s)) buffer) (length (session_text s)) refl
      by_test false told bytes = absurd (omega (arith, sym (ap (λ a. a.number) told) ∙ e))

  pub written_where_room : length (session_text s) ≤ length buffer → (answer_of w).number ≡ 0
  written_where_room h = ap (λ a. a.number) m.answer ∙ rw (le-leb (length (session_text s)) (length buffer) h)

-- 40 + 15 * 1024 + 23 * 2048 is 62,504
pub sorted_short : {b : Book} → AllSorted b → length (bundle_text b.rows b.steps) ≤ 62504
sorted_short {b} o =
    let short = bundle_short b.rows b.steps o.held.rows_short o.held.steps_short in
    omega (arith, short, o.fits.rows, o.fits.steps)

-- so a program takes it
pub sorted_taken : {b : Book} → AllSorted b → length (bundle_text b.rows b.steps) ≤ max_bytes
sorted_taken o = let short = sorted_short o in omega (arith, short)

-- a bundle has one text
bundle_spelled : (bytes : List ℕ) (rs : List Row) (ps : List Step) → IsBundle (lines bytes) rs ps
    → bytes ≡ bundle_text rs ps
unfolding text_of bundle_text
bundle_spelled bytes rs ps b =
    let rows = rows_spelled b.row_lines rs b.are_rows in
    let steps = steps_spelled b.step_lines ps b.are_steps in
    sym (lines_joined bytes) ∙ ap text_of b.text ∙ append_assoc row_names (newline ∷ []) _
    ∙ ap (λ w. row_names ++ newline ∷ w)
    (text_append b.row_lines _ ∙ ap₂ (λ u w. u ++ w) rows (append_assoc step_names (newline ∷ []) _
    ∙ ap (λ w. step_names ++ newline ∷ w) steps))

-- what the calls of a bundle leave has its bytes for text
pub read_text : (bytes : List ℕ) (rs : List Row) (ps : List Step) (os : List CallSeen) (u : Session)
    → IsBundle (lines bytes) rs ps
    → CallsMade fresh_session (calls_of rs ps) os u → AllAccepted os → session_text u ≡ bytes
read_text bytes rs ps os u b run taken =
    ap (λ b. bundle_text b.rows b.steps) (calls_held rs ps os u run taken) ∙ sym (bundle_spelled bytes rs ps b)

-- the bundle of the rows and steps that a session holds is its text
pub session_tables : (s : Session) (held : Held) → held.rows.now ≡ first_row_numbers s.row_count s.rows
    → held.steps.now ≡ first_step_numbers s.step_count s.steps → held_text held ≡ session_text s
unfolding view
session_tables s held e f = ap₂ (λ us vs. bundle_text (table_of us) (steps_of vs)) e f

-- the answer, where the text of the session has the length told
module _ (s : Session) (buffer : List ℕ) (size : ℕ) (text : List ℕ) (told : size ≡ length text)
    (e : text ≡ session_text s) where
  pub write_refused : length buffer < size → WriteMet s buffer (Err (ShortBuffer size)) buffer
  write_refused h =
      let is : size ≡ length (session_text s) = told ∙ ap length e in
      let short = lt-leb (length (session_text s)) (length buffer) (omega arith) in
      record { answer = rw short (ap (answer short_buffer) is); bytes = rw short }

  pub write_held : size ≤ length buffer → (left : List ℕ) → left ≡ text ++ drop (length text) buffer
      → WriteMet s buffer (Ok size) left
  write_held h left f =
      let is : size ≡ length (session_text s) = told ∙ ap length e in
      let fits = le-leb (length (session_text s)) (length buffer) (omega arith) in
      record {
        answer = rw fits (ap (answer 0) is);
        bytes = rw fits (f ∙ ap (λ us. us ++ drop (length us) buffer) e);
      }
