-- What filing a script means: its lines' calls are made, and what they leave is written.
use Prim.Native.Nat.{ℕ, ◌+◌}
use mathlib.Core.Path.{◌≡◌, refl, sym, ap, ap₂, ◌∙◌}
use mathlib.Core.Bool.{Bool, true, false, cond}
use mathlib.Core.List.{List, [], ◌∷◌, ◌++◌}
use mathlib.Core.Option.{Option, none, some}
use native.Mathlib.Omega.{arith}
use lib.Dec.{eqb, leb}
use lib.ListN.{length, take, drop}
use lib.Seq.{take_at}
use borrow.Author.Tests.{eqb-true, eqb-false}
use Rattle.lines.specs.Line.{Line, lines}
use Rattle.selector_grammar.specs.Bytes.{Bytes}
use Rattle.calls.specs.Book.{Answer, answer, accepted}
use Rattle.common.specs.Refusals.{short_buffer}
use Rattle.calls.specs.Calls.{Call, CallSeen, AllAccepted}
use Rattle.calls.specs.Runs.{next, done, then, seen}
use Rattle.calls.proofs.Runs.{made}
use Rattle.session.specs.declared.session.Session.{Session}
use Rattle.session.specs.View.{view, fresh_session}
use Rattle.session.specs.Promises.{session_answer, session, CallsMade}
use Rattle.session.specs.Reading.{Reading, refused_at, reading}
use Rattle.session.specs.WriteCall.{session_text, write_answer, write_buffer}
use Rattle.script_bundle.specs.Filing.{Action, lends, makes, line_action, line_number, line_session, line_names}
use Rattle.script_bundle.specs.Filing.{lines_filed}
use Rattle.script_bundle.specs.Filing.{filed}
use Rattle.script_bundle.specs.Filing.{file_answer, file_buffer, FileMet, calls_from, calls_in, action_calls}
use Rattle.script_bundle.proofs.Fits.{calls_fit}
use Rattle.host_calls.proofs.ReadBack.{text_reads_back}
use Rattle.host_calls.proofs.Selects.{Both, both}
use Rattle.host_calls.specs.FileGuarantee.{FileRelation, Filed, FileGuarantee}

-- calls made from s that are all accepted and leave t
record AllMade (s : Session) (cs : List Call) (t : Session) : Type 0 where
  pub shown : List CallSeen
  pub run : CallsMade s cs shown t
  pub taken : AllAccepted shown

-- a line's call before others
by_action : (s : Session) (o : Option Action) (cs : List Call) (t : Session) → line_number s o ≡ 0
    → AllMade (line_session s o) cs t → AllMade s (action_calls o ++ cs) t
by_action s none cs t e later = absurd (omega (arith, e))
by_action s (some (lends names)) cs t e later = later
by_action s (some (makes c)) cs t e later =
    record {
      shown = seen (session_answer s c) (view (next session s c)) ∷ later.shown;
      run = then (made session s c) later.run;
      taken = (e, later.taken);
    }

module _ (s : Session) (names : Bytes) (n : ℕ) (ls : List Line) (o : Option Action) where
  abbrev later : Reading
  later = lines_filed (line_session s o) (line_names names o) (n + 1) ls

  by_number : (b : Bool) → eqb (line_number s o) 0 ≡ b
      → (later.answer.number ≡ 0
      → AllMade (line_session s o) (calls_from (line_names names o) ls) later.session)
      → (cond b later (refused_at (line_number s o) n)).answer.number ≡ 0
      → AllMade s (action_calls o ++ calls_from (line_names names o) ls)
      (cond b later (refused_at (line_number s o) n)).session
  by_number true q rest z = by_action s o _ _ (eqb-true (line_number s o) 0 q) (rest z)
  by_number false q rest z = absurd (eqb-false (line_number s o) 0 q z)

-- lines that are all taken make their calls
all_made : (s : Session) (names : Bytes) (n : ℕ) (ls : List Line) → (lines_filed s names n ls).answer.number ≡ 0
    → AllMade s (calls_from names ls) (lines_filed s names n ls).session
unfolding lines_filed calls_from
all_made s names n [] e = record { shown = []; run = done; taken = tt }
all_made s names n (l ∷ ls) e =
    by_number s names n ls (line_action names l) (eqb (line_number s (line_action names l)) 0) refl
    (all_made (line_session s (line_action names l)) (line_names names (line_action names l)) (n + 1) ls) e

-- what a write answers and leaves
module _ (bundle buffer left : Bytes) (a : Answer) (told : a ≡ write_answer bundle (length buffer))
    (bytes : left ≡ write_buffer bundle buffer)
  where
    written : a.number ≡ 0 → take a.value left ≡ bundle
    written e = by_test (leb (length bundle) (length buffer)) told bytes
      where
        by_test : (b : Bool) → a ≡ cond b (answer 0 (length bundle)) (answer short_buffer (length bundle))
            → left ≡ cond b (bundle ++ drop (length bundle) buffer) buffer → take a.value left ≡ bundle
        by_test true t l =
            ap₂ (λ n ys. take n ys) (ap (λ (q : Answer). q.value) t) l
            ∙ take_at bundle (drop (length bundle) buffer) (length bundle) refl
        by_test false t l = absurd (omega (arith, sym (ap (λ (q : Answer). q.number) t) ∙ e))

    not_written : ¬ (a.number ≡ 0) → left ≡ buffer
    not_written f = by_test (leb (length bundle) (length buffer)) told bytes
      where
        by_test : (b : Bool) → a ≡ cond b (answer 0 (length bundle)) (answer short_buffer (length bundle))
            → left ≡ cond b (bundle ++ drop (length bundle) buffer) buffer → left ≡ buffer
        by_test true t l = absurd (f (ap (λ (q : Answer). q.number) t))
        by_test false t l = l

module _ (script buffer left : Bytes) (a : Answer) (told : a ≡ file_answer script (length buffer))
    (bytes : left ≡ file_buffer script buffer)
  where
    abbrev bundle : Bytes
    bundle = session_text (filed script).session

    cases : ((filed script).answer.number ≡ 0
        → Both (filed script).answer (write_answer bundle (length buffer)) a (write_buffer bundle buffer) buffer left)
        × (a.number ≡ 0 → (filed script).answer.number ≡ 0)
        × (¬ ((filed script).answer.number ≡ 0) → left ≡ buffer)
    unfolding file_answer file_buffer
    cases = both _ _ a _ buffer left told bytes

    accepted_filed : a.number ≡ 0 → Filed script (take a.value left)
    unfolding filed
    accepted_filed e =
        let here = cases.0 (cases.1 e) in
        let text = written bundle buffer left a here.answer here.bytes e in
        let calls = all_made fresh_session [] 1 (lines script) (cases.1 e) in
        record {
          seen = calls.shown;
          session = (filed script).session;
          made = calls.run;
          all_accepted = calls.taken;
          bundle_is = text;
          read_back = ap reading text
              ∙ text_reads_back (calls_in script) calls.shown (filed script).session calls.run
              (calls_fit [] (lines script));
        }

    refused_kept : ¬ (a.number ≡ 0) → left ≡ buffer
    refused_kept f = by_test (accepted (filed script).answer) refl
      where
        by_test : (b : Bool) → accepted (filed script).answer ≡ b → left ≡ buffer
        by_test true q =
            let here = cases.0 (eqb-true (filed script).answer.number 0 q) in
            not_written bundle buffer left a here.answer here.bytes f
        by_test false q = cases.2 (eqb-false (filed script).answer.number 0 q)

-- where a script is answered, and leaves the buffer, as it is defined
pub file_guarantee_by : (Files : FileRelation)
    → ((script buffer left : Bytes) (a : Answer) → Files script buffer a left → FileMet script buffer a left)
    → FileGuarantee Files
file_guarantee_by Files tied =
    record {
      accepted = λ script buffer left a m.
          let met = tied script buffer left a m in
          accepted_filed script buffer left a met.answer met.bytes;
      refused = λ script buffer left a m.
          let met = tied script buffer left a m in
          refused_kept script buffer left a met.answer met.bytes;
    }
