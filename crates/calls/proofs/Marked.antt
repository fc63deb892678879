-- What an accepted select leaves in the buffer.
use Prim.Native.Nat.{ℕ, zero, suc, ◌≤◌, ◌<◌}
use mathlib.Core.Path.{◌≡◌, refl, sym, ap, ◌∙◌}
use mathlib.Core.Bool.{Bool, not, cond}
use mathlib.Core.List.{List}
use mathlib.Core.Logic.{◌≢◌, ⊎_elim}
use mathlib.Core.Option.{Option, none, some, Option-elim}
use native.Mathlib.Omega.{arith}
use lib.Dec.{T, leb, ltb}
use lib.ListN.{length, get_or, length-set}
use lib.Seq.{get_or-set_same, get_or-set_other}
use borrow.Author.Tests.{leb-false, ltb-false}
use Rattle.xpath.specs.Document.{document_of, document_refusal, well_formed}
use Rattle.xpath.specs.Meaning.{selects}
use Rattle.common.proofs.Reflect.{below_suc}
use Rattle.xpath.proofs.Refusal.{accepted_iff}
use Rattle.terms.specs.Row.{Row}
use Rattle.terms.specs.Fields.{held_path}
use Rattle.terms.specs.Terms.{path_at}
use Rattle.selection.specs.Marks.{written}
use Rattle.calls.specs.Book.{Answer, answer}
use Rattle.common.specs.Refusals as refusals
use Rattle.calls.specs.SelectCall.{select_answer, select_buffer}
use Rattle.calls.specs.represent.Answers.{NumberOrRefusal, answer_of}
use Rattle.calls.specs.Promises.{SelectMade}
use Rattle.calls.proofs.Accepted.{test_failed, if_accepted, if_refused}

length_written : (n : ℕ) (f : ℕ → Bool) (buffer : List ℕ) → length (written n f buffer) ≡ length buffer
unfolding written
length_written zero f buffer = refl
length_written (suc n) f buffer = length-set (written n f buffer) n (cond (f n) 1 0) ∙ length_written n f buffer

written_at : (n : ℕ) (f : ℕ → Bool) (buffer : List ℕ) → n ≤ length buffer → (y : ℕ) → y < n
    → get_or (written n f buffer) y 0 ≡ cond (f y) 1 0
unfolding written
written_at zero f buffer l y h = absurd (omega arith)
written_at (suc n) f buffer l y h =
    ⊎_elim
    (λ e. rw e (get_or-set_same (written n f buffer) n (cond (f n) 1 0) 0 (omega (arith, length_written n f buffer))))
    (λ k. let o : y ≢ n = λ e. absurd (omega arith) in
    get_or-set_other (written n f buffer) n y (cond (f n) 1 0) 0 o ∙ written_at n f buffer (omega arith) y k)
    (below_suc h)

written_past : (n : ℕ) (f : ℕ → Bool) (buffer : List ℕ) (y : ℕ) → n ≤ y
    → get_or (written n f buffer) y 0 ≡ get_or buffer y 0
unfolding written
written_past zero f buffer y h = refl
written_past (suc n) f buffer y h =
    let o : y ≢ n = λ e. absurd (omega arith) in
    get_or-set_other (written n f buffer) n y (cond (f n) 1 0) 0 o ∙ written_past n f buffer y (omega arith)

-- an accepted answer is no refusal 8
pub no_refusal : (o : Option ℕ) (t : Answer) → (Option-elim o t (λ v. answer refusals.bad_document v)).number ≡ 0
    → (o ≡ none) × (t.number ≡ 0)
unfolding Option-elim
no_refusal none t e = (refl, e)
no_refusal (some v) t e = absurd (omega arith)

module _ (rs : List Row) (row : ℕ) (xs : List ℕ) (x limit : ℕ) where
  pub record SelectAccepted (room : ℕ) : Type 0 where
    pub document : document_refusal xs ≡ none
    pub context : x < length (document_of xs)
    pub marks : length (document_of xs) ≤ room

  select_accepted : (room : ℕ) → (select_answer rs row xs x limit room).number ≡ 0 → SelectAccepted room
  unfolding select_answer
  select_accepted room e =
      let t₈ = no_refusal (document_refusal xs) _ e in
      let t₉ = test_failed (leb (length (document_of xs)) x) _ _ (omega arith) t₈.1 in
      let p₉ = test_failed (not (held_path rs row)) _ _ (omega arith) t₉.1 in
      let t₁₄ = test_failed (ltb room (length (document_of xs))) _ _ (omega arith) p₉.1 in
      record { document = t₈.0; context = leb-false _ _ t₉.0; marks = ltb-false _ _ t₁₄.0 }

  module _ (buffer left : List ℕ) (t : NumberOrRefusal) (m : SelectMade rs row xs x limit buffer t left) where
    pub select_leaves : ¬ ((answer_of t).number ≡ 0) → left ≡ buffer
    unfolding select_buffer
    select_leaves f = m.bytes ∙ sym (if_refused _ _ m.answer _ _ f)

    module _ (e : (answer_of t).number ≡ 0) where
      pub select_takes : SelectAccepted (length buffer)
      select_takes = select_accepted (length buffer) (sym (ap (λ a. a.number) m.answer) ∙ e)

      written_left : left ≡ written (length (document_of xs)) (selects (document_of xs) (path_at rs row) x) buffer
      unfolding select_buffer
      written_left = m.bytes ∙ sym (if_accepted _ _ m.answer _ _ e)

      pub select_well_formed : T (well_formed (document_of xs))
      select_well_formed = ((accepted_iff xs).0 select_takes.document).2

      pub select_marks : (y : ℕ) → y < length (document_of xs)
          → get_or left y 0 ≡ cond (selects (document_of xs) (path_at rs row) x y) 1 0
      select_marks y l = rw written_left (written_at (length (document_of xs)) _ buffer select_takes.marks y l)

      pub select_stays : (y : ℕ) → length (document_of xs) ≤ y → get_or left y 0 ≡ get_or buffer y 0
      select_stays y l = rw written_left (written_past (length (document_of xs)) _ buffer y l)
