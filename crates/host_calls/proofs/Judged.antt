-- The answers of the exports, by the answers of the session's calls that they make.
use Prim.Native.Nat.{ℕ}
use mathlib.Core.Path.{◌≡◌, refl, sym, ap, subst, ◌∙◌}
use mathlib.Core.Bool.{true, false, cond}
use mathlib.Core.List.{List}
use native.Mathlib.Omega.{arith}
use lib.ListN.{length}
use borrow.Author.Tests.{eq-eqb, ne_eqb}
use Rattle.std.specs.Prelude.{Option, Some, None, Ok, Err, is_ok, ok_or}
use Rattle.common.proofs.Refusals.{refusal_some}
use Rattle.common.proofs.Results.{Mapped, mapped_ok, mapped_err}
use Rattle.common.specs.declared.refusal.Refusal.{Refusal}
use Rattle.common.specs.declared.refusal.Refusal.TheVariants.{NotCovered}
use Rattle.terms.specs.represent.RowTypes.{PlaceIs}
use Rattle.selector_grammar.specs.Bytes.{Bytes}
use Rattle.calls.specs.Book.{Book, Answer, accepted}
use Rattle.calls.specs.Calls.{Call, text}
use Rattle.calls.specs.Promises.{SelectMade}
use Rattle.calls.specs.SelectCall.{select_answer, select_buffer}
use Rattle.calls.specs.represent.Answers.{NumberOrRefusal, answer_of, refusal_answer, line_answer}
use Rattle.calls.proofs.Accepted.{if_accepted, if_refused}
use Rattle.replacement.specs.Covered.{step_saying}
use Rattle.session.specs.declared.session.Session.{Session}
use Rattle.session.specs.represent.Results.{ReadResult}
use Rattle.session.specs.View.{view, fresh_session}
use Rattle.session.specs.Promises.{session_answer, session_with, Met}
use Rattle.session.specs.Reading.{reading}
use Rattle.session.specs.ReadCall.{read_answer_of, ReadMet}
use Rattle.host_calls.specs.ClaimCall.{claimed, the_claim, the_bundle, old_selector, new_selector}
use Rattle.host_calls.specs.ClaimCall.{said_answer, new_claimed, old_claimed, claim_answer}
use Rattle.host_calls.specs.private.ClaimTypes.{claimed_of}
use Rattle.host_calls.specs.declared.claim.ClaimRefusal.{ClaimRefusal}
use Rattle.host_calls.specs.declared.claim.ClaimRefusal.TheVariants.{Bundle, OldSelector, NewSelector, Claim}
use Rattle.session.specs.TextRead.{read_answer, read_rows}
use Rattle.host_calls.specs.TextSelect.{text_select_answer, text_select_buffer, TextSelectMade}

-- a call c on s that is answered so and leaves u
module _ (s : Session) (c : Call) (r : NumberOrRefusal) (u : Session) (m : Met s c (answer_of r) u) where
  -- it is refused: so is what asks for more after it
  after_refused : {A : Type 0} (G : Answer → A) (x : A) (k : Refusal) → r ≡ Err k
      → G (refusal_answer k) ≡ cond (accepted (session_answer s c)) x (G (session_answer s c))
  after_refused G x k is =
      let told : answer_of (Err k) ≡ session_answer s c = sym (ap answer_of is) ∙ m.answer in
      ap G told ∙ if_refused (answer_of (Err k)) (session_answer s c) told x (G (session_answer s c)) (refusal_some k)

  -- it is accepted: what comes after it is asked of what it leaves
  after_accepted : {A : Type 0} (F : Session → ℕ → A) (y : A) (i : ℕ) → r ≡ Ok i
      → F u i ≡ cond (accepted (session_answer s c)) (F (session_with s c) (session_answer s c).value) y
  after_accepted F y i is =
      let told : answer_of (Ok i) ≡ session_answer s c = sym (ap answer_of is) ∙ m.answer in
      let left : u ≡ session_with s c =
      m.left ∙ sym (if_accepted (answer_of (Ok i)) (session_answer s c) told (session_with s c) s refl) in
      ap (λ (z : Session). F z i) left
      ∙ ap (λ (a : Answer). F (session_with s c) a.value) told
      ∙ if_accepted (answer_of (Ok i)) (session_answer s c) told (F (session_with s c) (session_answer s c).value) y
      refl

-- the step that says so, or none
step_told : (b : Book) (old new : ℕ) (o : Option ℕ) → PlaceIs o (step_saying b old new)
    → claimed_of (ok_or o (Claim (NotCovered 1))) ≡ claimed the_claim (said_answer b old new)
unfolding said_answer
step_told b old new (Some i) is = rw (is.0, ne_eqb i 0 (λ e. omega (arith, is.1)))
step_told b old new None is = rw (eq-eqb (step_saying b old new) 0 is)

-- a claim, call by call: the bundle is read with the result t
module _ (bundle names old new : Bytes) (t : ReadResult) (m : ReadMet bundle t) where
  pub bundle_refused : (d : ClaimRefusal) → Mapped Bundle t.answer (Err d)
      → claimed_of (Err d) ≡ claim_answer bundle names old new
  unfolding claim_answer
  bundle_refused d is =
      let (e, q, gives) = mapped_err Bundle t.answer d is in
      let refused : accepted (reading bundle).answer ≡ false = sym m.variant ∙ ap is_ok q in
      let told : line_answer e ≡ (reading bundle).answer = sym (ap read_answer_of q) ∙ m.answer in
      rw gives (ap (claimed the_bundle) told ∙ rw refused)

  -- it is accepted, and the old selector is asked
  module _ (n : ℕ) (read : Mapped Bundle t.answer (Ok n)) (r : NumberOrRefusal) (u : Session)
      (first : Met t.session (text names old) (answer_of r) u) where
    bundle_accepted : old_claimed t.session names old new ≡ claim_answer bundle names old new
    unfolding claim_answer
    bundle_accepted =
        let taken : accepted (reading bundle).answer ≡ true =
        sym m.variant ∙ ap is_ok (mapped_ok Bundle t.answer n read) in
        ap (λ (z : Session). old_claimed z names old new) m.session ∙ rw taken

    pub old_refused : (d : ClaimRefusal) → Mapped OldSelector r (Err d)
        → claimed_of (Err d) ≡ claim_answer bundle names old new
    unfolding old_claimed
    old_refused d is =
        let (k, q, gives) = mapped_err OldSelector r d is in
        rw gives (after_refused t.session (text names old) r u first (claimed old_selector) _ k q ∙ bundle_accepted)

    -- it is accepted, and the new selector is asked
    module _ (i : ℕ) (left : Mapped OldSelector r (Ok i)) (q : NumberOrRefusal) (v : Session)
        (second : Met u (text names new) (answer_of q) v) where
      old_accepted : new_claimed u names i new ≡ claim_answer bundle names old new
      unfolding old_claimed
      old_accepted =
          after_accepted t.session (text names old) r u first (λ z k. new_claimed z names k new) _ i
          (mapped_ok OldSelector r i left)
          ∙ bundle_accepted

      pub new_refused : (d : ClaimRefusal) → Mapped NewSelector q (Err d)
          → claimed_of (Err d) ≡ claim_answer bundle names old new
      unfolding new_claimed
      new_refused d is =
          let (k, same, gives) = mapped_err NewSelector q d is in
          rw gives (after_refused u (text names new) q v second (claimed new_selector) _ k same ∙ old_accepted)

      -- it is accepted, and the claim is answered
      pub claim_told : (j : ℕ) → Mapped NewSelector q (Ok j) → (o : Option ℕ)
          → PlaceIs o (step_saying (view v) i j)
          → claimed_of (ok_or o (Claim (NotCovered 1))) ≡ claim_answer bundle names old new
      unfolding new_claimed
      claim_told j right o is =
          step_told (view v) i j o is
          ∙ after_accepted u (text names new) q v second (λ z k. claimed the_claim (said_answer (view z) i k)) _ j
          (mapped_ok NewSelector q j right)
          ∙ old_accepted

-- a select after the text call on a fresh session
module _ (names t : Bytes) (xs : List ℕ) (x limit : ℕ) (buffer : List ℕ) (s : Session) (fresh : s ≡ fresh_session)
    (r : NumberOrRefusal) (u : Session) (m : Met s (text names t) (answer_of r) u)
  where
    made : Met fresh_session (text names t) (answer_of r) u
    made = subst (λ (z : Session). Met z (text names t) (answer_of r) u) fresh m

    pub select_refused : (k : Refusal) → r ≡ Err k
        → TextSelectMade names t xs x limit buffer (refusal_answer k) buffer
    unfolding text_select_answer text_select_buffer read_answer read_rows
    select_refused k is =
        record {
          answer = after_refused fresh_session (text names t) r u made (λ (a : Answer). a) _ k is;
          bytes = after_refused fresh_session (text names t) r u made (λ (a : Answer). buffer) _ k is;
        }

    pub select_accepted : (i : ℕ) → r ≡ Ok i → (o : NumberOrRefusal) (left : List ℕ)
        → SelectMade (view u).rows i xs x limit buffer o left
        → TextSelectMade names t xs x limit buffer (answer_of o) left
    unfolding text_select_answer text_select_buffer read_answer read_rows
    select_accepted i is o left selected =
        record {
          answer = selected.answer
              ∙ after_accepted fresh_session (text names t) r u made
              (λ z i. select_answer (view z).rows i xs x limit (length buffer)) _ i is;
          bytes = selected.bytes
              ∙ after_accepted fresh_session (text names t) r u made
              (λ z i. select_buffer (view z).rows i xs x limit buffer) _ i is;
        }
