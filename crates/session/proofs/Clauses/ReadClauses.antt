-- Each clause of what is guaranteed of read and write, written out once more: without one of them this fails.
use Rattle.calls.specs.represent.Answers.{NumberOrRefusal, answer_of}
use Prim.Native.Nat.{ℕ, ◌≤◌, ◌<◌}
use mathlib.Core.Path.{◌≡◌, refl, sym, ap, subst, ◌∙◌}
use mathlib.Core.Bool.{Bool, true, false, cond}
use mathlib.Core.List.{List, ◌∷◌, ◌++◌, map}
use mathlib.Core.Option.{some}
use native.Mathlib.Omega.{arith}
use lib.Dec.{leb}
use lib.ListN.{length, take, drop}
use borrow.Author.Tests.{leb-true, leb-false}
use Rattle.terms.specs.Row.{Row}
use Rattle.common.specs.Lists.{Every}
use Rattle.lines.specs.Line.{line, lines}
use Rattle.lines.specs.Written.{AllFit}
use Rattle.calls.specs.Book.{Step, answer}
use Rattle.calls.specs.Runs.{Run}
use Rattle.calls.specs.Calls.{Call, term, step, CallSeen}
use Rattle.session.specs.declared.session.Session.{Session}
use Rattle.session.specs.represent.Results.{ReadResult}
use Rattle.session.specs.View.{view, fresh_session}
use Rattle.terms.specs.Row.{row_numbers}
use Rattle.calls.specs.Book.{step_numbers}
use Rattle.session.specs.Promises.{CallRelation, SelectRelation}
use Rattle.bundles.specs.Bundle.{row_names, step_names, row_of_line, step_of_line, bundle_text}
use Rattle.session.specs.ReadCall.{read_answer_of}
use Rattle.session.specs.FollowsBook.{FollowsBook}
use Rattle.session.specs.SessionLaws.{without_points}
use Rattle.session.specs.WriteCall.{session_text, WriteRelation, WriteMet}
use Rattle.session.specs.ReadGuarantee.{CallFits, ReadAccepted, ReadGuarantee}

abbrev bundle_calls : List Row → List Step → List Call
bundle_calls rs ps = map term rs ++ map step ps

abbrev AllAccepted : List CallSeen → Type 0
AllAccepted os = Every (λ o. o.answer.number ≡ 0) os

module _ (Selected : SelectRelation) (Called : CallRelation) (Read : List ℕ → ReadResult → Type 0)
    (Write : WriteRelation) (guarantee : ReadGuarantee Selected Called Read Write)
  where
    module _ (bytes : List ℕ) (t : ReadResult) (is_read : Read bytes t) where
      pub leaves_fresh : ¬ ((read_answer_of t.answer).number ≡ 0) → t.session ≡ fresh_session
      leaves_fresh = guarantee.refused bytes t is_read

      module _ (accepts : (read_answer_of t.answer).number ≡ 0) where
        abbrev read : ReadAccepted Selected Called bytes t
        read = guarantee.accepted bytes t is_read accepts

        abbrev calls : List Call
        calls = bundle_calls read.rows read.steps

        pub lines_read_lem : lines bytes
            ≡ line row_names true ∷ (read.bundle.row_lines ++ line step_names true ∷ read.bundle.step_lines)
        lines_read_lem = read.bundle.text

        pub rows_and_steps : (map row_of_line read.bundle.row_lines ≡ map some read.rows)
            × (map step_of_line read.bundle.step_lines ≡ map some read.steps)
        rows_and_steps = (read.bundle.are_rows, read.bundle.are_steps)

        pub calls_made_lem : Run view Called fresh_session calls read.seen t.session
        calls_made_lem = read.made

        pub answers_seen : AllAccepted read.seen × (read_answer_of t.answer ≡ answer 0 (length read.steps))
        answers_seen = (read.all_accepted, read.count)

        pub book_followed : FollowsBook Selected calls read.seen t.session
        book_followed = read.follows

    pub text_read : (rs : List Row) (ps : List Step) (os : List CallSeen) (s : Session)
        → Every (λ r. AllFit (row_numbers r)) rs → Every (λ p. AllFit (step_numbers p)) ps
        → Run view Called fresh_session (bundle_calls rs ps) os s → AllAccepted os
        → (t : ReadResult) → Read (bundle_text rs ps) t
        → (read_answer_of t.answer ≡ answer 0 (length ps)) × (t.session ≡ s)
    text_read = guarantee.reads_back

    -- a write call that is accepted, and the text that it leaves
    abbrev Filed : Session → (text : List ℕ) → Type 0
    Filed s text = (buffer : List ℕ) × (left : List ℕ) × (w : NumberOrRefusal) × Write s buffer w left
        × ((answer_of w).number ≡ 0) × (text ≡ take (answer_of w).value left)

    abbrev AllFit16 : List Call → Type 0
    AllFit16 cs = Every CallFits cs

    pub filed_read : (cs : List Call) (os : List CallSeen) (s : Session) → Run view Called fresh_session cs os s
        → AllFit16 cs
        → (text : List ℕ) → Filed s text → (t : ReadResult) → Read text t
        → (read_answer_of t.answer ≡ answer 0 (length (view s).steps)) × (t.session ≡ without_points s)
    filed_read cs os s run fits text (buffer, left, w, m, e, is) t r =
        guarantee.written_reads_back cs os s run fits buffer left w m e t (subst (λ bytes. Read bytes t) is r)

    pub read_filed : (bytes : List ℕ) (t : ReadResult) → Read bytes t → (read_answer_of t.answer).number ≡ 0
        → (text : List ℕ) → Filed t.session text → text ≡ bytes
    read_filed bytes t r e text (buffer, left, w, m, taken, is) = is
        ∙ guarantee.same_bytes bytes t r e buffer left w m taken

    pub room_for_all : (cs : List Call) (os : List CallSeen) (s : Session) → Run view Called fresh_session cs os s
        → AllFit16 cs
        → (buffer left : List ℕ) (w : NumberOrRefusal) → Write s buffer w left → 65536 ≤ length buffer
        → (answer_of w).number ≡ 0
    room_for_all = guarantee.always_room

-- what a write call promises of the session's bundle and every byte of the buffer
module _ (s : Session) (buffer : List ℕ) (w : NumberOrRefusal) (left : List ℕ) (met : WriteMet s buffer w left) where
  abbrev size : ℕ
  size = length (session_text s)

  abbrev Told : Bool → Type 0
  Told b = answer_of w ≡ cond b (answer 0 size) (answer 16 size)

  abbrev Left : Bool → Type 0
  Left b = left ≡ cond b (session_text s ++ drop size buffer) buffer

  pub text_left : (answer_of w).number ≡ 0
      → (size ≤ length buffer) × (answer_of w ≡ answer 0 size) × (left ≡ session_text s ++ drop size buffer)
  text_left e = by_test (leb size (length buffer)) refl met.answer met.bytes
    where
      by_test : (b : Bool) → leb size (length buffer) ≡ b → Told b → Left b
          → (size ≤ length buffer) × (answer_of w ≡ answer 0 size) × (left ≡ session_text s ++ drop size buffer)
      by_test true fits told bytes = (leb-true size (length buffer) fits, told, bytes)
      by_test false fits told bytes = absurd (omega (arith, sym (ap (λ a. a.number) told) ∙ e))

  pub buffer_left : ¬ ((answer_of w).number ≡ 0)
      → (length buffer < size) × (answer_of w ≡ answer 16 size) × (left ≡ buffer)
  buffer_left f = by_test (leb size (length buffer)) refl met.answer met.bytes
    where
      by_test : (b : Bool) → leb size (length buffer) ≡ b → Told b → Left b
          → (length buffer < size) × (answer_of w ≡ answer 16 size) × (left ≡ buffer)
      by_test true fits told bytes = absurd (f (ap (λ a. a.number) told))
      by_test false fits told bytes = (leb-false size (length buffer) fits, told, bytes)
