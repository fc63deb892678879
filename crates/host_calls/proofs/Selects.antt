-- What a select by a selector as text means: its row's path is the text's.
use Prim.Native.Nat.{ℕ}
use mathlib.Core.Path.{◌≡◌, refl, sym, ap, ◌∙◌}
use mathlib.Core.Bool.{Bool, true, false, cond}
use mathlib.Core.List.{List}
use lib.ListN.{length}
use borrow.Author.Tests.{eqb-true, eqb-false}
use Rattle.xpath.specs.Document.{document_of}
use Rattle.xpath.specs.Term.{Path}
use Rattle.xpath.specs.Meaning.{selects}
use Rattle.terms.specs.Row.{Row}
use Rattle.terms.specs.Terms.{as_path, path_at}
use Rattle.selector_grammar.specs.Bytes.{Bytes}
use Rattle.selector_grammar.specs.Words.{number_of}
use Rattle.selector_grammar.specs.Denotes.{union_of}
use Rattle.calls.specs.Book.{Answer, accepted}
use Rattle.calls.specs.SelectCall.{select_answer, select_buffer}
use Rattle.calls.specs.Promises.{SelectMade}
use Rattle.calls.specs.represent.Answers.{NumberOrRefusal, answer_of}
use Rattle.calls.proofs.Cases.{select_case}
use Rattle.calls.proofs.Marked.{select_leaves, select_takes, select_well_formed, select_marks}
use Rattle.calls.proofs.Marked.{select_stays}
use Rattle.session.specs.View.{fresh_session}
use Rattle.session.proofs.Simulation.{fresh_kept}
use Rattle.session.specs.TextRead.{read_answer, read_rows}
use Rattle.host_calls.specs.TextSelect.{text_select_answer, text_select_buffer}
use Rattle.host_calls.specs.TextSelect.{TextSelectMade}
use Rattle.host_calls.specs.SelectGuarantee.{TextSelectRelation, TextSelected, SelectGuarantee}
use Rattle.session.proofs.Texts.{TextHeld, text_held}

-- an answer that comes after another one: both accept, or the first refuses
pub record Both (r s a : Answer) (c d e : List ℕ) : Type 0 where
  pub first : r.number ≡ 0
  pub answer : a ≡ s
  pub bytes : e ≡ c

pub both : (r s a : Answer) (c d e : List ℕ) → a ≡ cond (accepted r) s r → e ≡ cond (accepted r) c d
    → (r.number ≡ 0 → Both r s a c d e) × (a.number ≡ 0 → r.number ≡ 0) × (¬ (r.number ≡ 0) → e ≡ d)
both r s a c d e told left = by_test (accepted r) refl told left
  where
    by_test : (b : Bool) → accepted r ≡ b → a ≡ cond b s r → e ≡ cond b c d
        → (r.number ≡ 0 → Both r s a c d e) × (a.number ≡ 0 → r.number ≡ 0) × (¬ (r.number ≡ 0) → e ≡ d)
    by_test true q z w = (
      λ n. record { first = n; answer = z; bytes = w },
      λ n. eqb-true r.number 0 q,
      λ f. absurd (f (eqb-true r.number 0 q)),
    )
    by_test false q z w = (
      λ n. absurd (eqb-false r.number 0 q n),
      λ n. sym (ap (λ (o : Answer). o.number) z) ∙ n,
      λ f. w,
    )

module _ (names t : Bytes) (xs : List ℕ) (x limit : ℕ) (buffer left : List ℕ) (a : Answer)
    (told : a ≡ text_select_answer names t xs x limit (length buffer))
    (bytes : left ≡ text_select_buffer names t xs x limit buffer)
  where
    abbrev rows : List Row
    rows = read_rows names t

    abbrev row : ℕ
    row = (read_answer names t).value

    cases : ((read_answer names t).number ≡ 0
        → Both (read_answer names t) (select_answer rows row xs x limit (length buffer)) a
        (select_buffer rows row xs x limit buffer) buffer left)
        × (a.number ≡ 0 → (read_answer names t).number ≡ 0)
        × (¬ ((read_answer names t).number ≡ 0) → left ≡ buffer)
    unfolding text_select_answer text_select_buffer
    cases = both _ _ a _ buffer left told bytes

    -- where the text is accepted, the select is made
    module _ (taken : (read_answer names t).number ≡ 0) where
      abbrev shown : (o : NumberOrRefusal) × (answer_of o ≡ select_answer rows row xs x limit (length buffer))
      shown = select_case rows row xs x limit (length buffer)

      made : SelectMade rows row xs x limit buffer shown.0 left
      made = record { answer = shown.1; bytes = (cases.0 taken).bytes }

      number : (answer_of shown.0).number ≡ a.number
      number = ap (λ (o : Answer). o.number) (shown.1 ∙ sym (cases.0 taken).answer)

      held : TextHeld fresh_session names t
      unfolding read_answer
      held = text_held fresh_session names t fresh_kept taken

      path : path_at rows row ≡ union_of (number_of names) held.tree
      unfolding read_answer read_rows as_path
      path = ap as_path (held.term held.tree held.spells)

      pub selected : a.number ≡ 0 → TextSelected names t xs x buffer left
      selected e =
          let n = number ∙ e in
          record {
            document = select_well_formed rows row xs x limit buffer left shown.0 made n;
            inside = (select_takes rows row xs x limit buffer left shown.0 made n).context;
            room = (select_takes rows row xs x limit buffer left shown.0 made n).marks;
            tree = held.tree;
            spells = held.spells;
            marks = λ y h.
                select_marks rows row xs x limit buffer left shown.0 made n y h
                ∙ ap (λ (p : Path). cond (selects (document_of xs) p x y) 1 0) path;
            later = select_stays rows row xs x limit buffer left shown.0 made n;
          }

      pub kept : ¬ (a.number ≡ 0) → left ≡ buffer
      kept f = select_leaves rows row xs x limit buffer left shown.0 made (λ n. f (sym number ∙ n))

    pub accepted_selected : a.number ≡ 0 → TextSelected names t xs x buffer left
    accepted_selected e = selected (cases.1 e) e

    pub refused_kept : ¬ (a.number ≡ 0) → left ≡ buffer
    refused_kept f = by_test (accepted (read_answer names t)) refl
      where
        by_test : (b : Bool) → accepted (read_answer names t) ≡ b → left ≡ buffer
        by_test true q = kept (eqb-true (read_answer names t).number 0 q) f
        by_test false q = cases.2 (eqb-false (read_answer names t).number 0 q)

-- where a select by text is answered, and leaves the buffer, as it is defined
pub select_guarantee_by : (Selects : TextSelectRelation)
    → ((names t : Bytes) (xs : List ℕ) (x limit : ℕ) (buffer left : List ℕ) (a : Answer)
    → Selects names t xs x limit buffer a left → TextSelectMade names t xs x limit buffer a left)
    → SelectGuarantee Selects
select_guarantee_by Selects tied =
    record {
      accepted = λ names t xs x limit buffer left a m.
          let made = tied names t xs x limit buffer left a m in
          accepted_selected names t xs x limit buffer left a made.answer made.bytes;
      refused = λ names t xs x limit buffer left a m.
          let made = tied names t xs x limit buffer left a m in
          refused_kept names t xs x limit buffer left a made.answer made.bytes;
    }
