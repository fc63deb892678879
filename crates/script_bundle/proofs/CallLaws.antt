-- What the functions that file a script leave, by what they call.
use Rattle.std.specs.Prelude.{Result, Ok, Err}
use Prim.Native.Nat.{ℕ, ◌≤◌, ◌<◌, min}
use mathlib.Core.Path.{◌≡◌, refl, sym, ap, subst, ◌∙◌}
use mathlib.Core.List.{[]}
use mathlib.Core.Option.{some}
use native.Mathlib.Omega.{arith}
use denote.Ref.{Bor}
use lib.ListN.{length, take, length-map}
use lib.Seq.{take_all}
use borrow.Author.Tests.{le-leb, lt-leb, ne_eqb}
use Rattle.common.specs.Limits.{max_bytes}
use Rattle.common.specs.declared.refusal.Refusal.{Refusal}
use Rattle.common.specs.declared.refusal.Refusal.TheVariants as refusals
use Rattle.common.specs.represent.Refusal.{refusal_number}
use Rattle.common.proofs.Refusals.{refusal_some}
use Rattle.lines.specs.Line.{lines}
use Rattle.selector_grammar.specs.Bytes.{Bytes}
use Rattle.calls.specs.Calls.{Call, text}
use Rattle.calls.specs.represent.Answers.{NumberOrRefusal, DoneOrRefusal, answer_with, answer_of, done_answer_of}
use Rattle.calls.specs.represent.Answers.{refusal_answer}
use Rattle.calls.specs.represent.Answers.{line_answer}
use Rattle.calls.specs.declared.answer.LineRefusal.{LineRefusal}
use Rattle.session.specs.declared.session.Session.{Session}
use Rattle.session.specs.View.{fresh_session}
use Rattle.session.specs.Promises.{Met}
use Rattle.session.specs.WriteCall.{WriteMet}
use Rattle.script.specs.Rest.{newline_for_space, names_of}
use Rattle.script_bundle.specs.declared.Filed.{Filed}
use Rattle.script_bundle.specs.Filing.{makes, lending, lines_filed, filed, file_answer, file_buffer, FileMet}
use Rattle.script_bundle.specs.private.FilingMade.{lent_by, done, ActionDone, LinesMet}

-- a call that met its promise
pub call_done : (f : Filed) (c : Call) {A : Type 0} (value : A → ℕ) (r : Result A Refusal) (u : Session)
    → Met f.session c (answer_with value refusal_answer r) u
    → ActionDone f (some (makes c)) (done r) (record { session = u; names = f.names })
call_done f c value (Ok a) u m =
    record { number = sym (ap (λ a. a.number) m.answer); session = m.left; list = refl }
call_done f c value (Err k) u m = ap (λ a. a.number) m.answer

-- one whose answer has no value
pub done_by : (f : Filed) (c : Call) (r : DoneOrRefusal) (u : Session) → Met f.session c (done_answer_of r) u
    → ActionDone f (some (makes c)) r (record { session = u; names = f.names })
done_by f c (Ok a) u m = call_done f c (λ u. 0) (Ok a) u m
done_by f c (Err k) u m = call_done f c {A = Unit {0}} (λ u. 0) (Err k) u m

-- a text call with the names that are lent, all of which are put into the list
pub text_done : (f : Filed) (size : ℕ) (list left : Bytes) → length list ≡ max_bytes
    → (size ≡ min (length f.names.bytes.now) (length list))
    × (take size left ≡ take size (lent_by f)) × (length left ≡ length list)
    → (t : Bytes) (r : NumberOrRefusal) (u : Session) → Met f.session (text (take size left) t) (answer_of r) u
    → ActionDone f (some (makes (text (lent_by f) t))) (done r) (record { session = u; names = f.names })
unfolding names_of
text_done f size list left room put t r u m =
    let same_size : length (lent_by f) ≡ length f.names.bytes.now = length-map f.names.bytes.now newline_for_space in
    let all = take_all size (lent_by f) (omega (arith, same_size, f.names.few, room, put.0)) in
    call_done f _ (λ n. n) r u (subst (λ ys. Met f.session (text ys t) (answer_of r) u) (put.1 ∙ all) m)

-- the names of a line that are not too many, and too many
module _ (f : Filed) (rest : Bor Bytes) where
  size_is : length (names_of rest.now) ≡ length rest.now
  unfolding names_of
  size_is = length-map rest.now newline_for_space

  pub lent : (few : length rest.now ≤ max_bytes) → ActionDone f (lending (names_of rest.now)) (Ok tt)
      (record { session = f.session; names = record { bytes = rest; few = few } })
  unfolding lending
  lent few =
      rw (le-leb (length (names_of rest.now)) max_bytes (omega (arith, size_is)))
      (record { number = refl; session = refl; list = refl })

  pub not_lent : max_bytes < length rest.now → ActionDone f (lending (names_of rest.now)) (Err refusals.WrongForm) f
  unfolding lending
  not_lent h = rw (lt-leb (length (names_of rest.now)) max_bytes (omega (arith, size_is))) refl

pub filed_from_start : (script : Bytes) (f : Filed) → (f.session ≡ fresh_session) × (f.names.bytes.now ≡ [])
    → filed script ≡ lines_filed f.session (lent_by f) 1 (lines script)
unfolding filed names_of
filed_from_start script f start = rw (start.0, start.1)

-- the bundle is written where no line is refused
module _ (script buffer : Bytes) where
  pub file_refused : (e : LineRefusal) (s : Session) → LinesMet script (Err e) s
      → FileMet script buffer (line_answer e) buffer
  unfolding file_answer file_buffer
  file_refused e s m =
      let no = ne_eqb (refusal_number e.refusal) 0 (refusal_some e.refusal) in
      record { answer = rw (← m) (rw no); bytes = rw (← m) (rw no) }

  pub file_written : (s : Session) → LinesMet script (Ok tt) s → (w : NumberOrRefusal) (left : Bytes)
      → WriteMet s buffer w left → FileMet script buffer (answer_of w) left
  unfolding file_answer file_buffer
  file_written s m w left written =
      record { answer = written.answer ∙ rw (← m); bytes = written.bytes ∙ rw (← m) }
