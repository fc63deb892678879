-- The answer of a select by a text, by those of the text call and of the select on what it leaves.
use Prim.Native.Nat.{ℕ}
use mathlib.Core.Path.{◌≡◌, refl, sym, ap, subst, ◌∙◌}
use mathlib.Core.Bool.{Bool}
use Rattle.std.specs.Prelude.{Result, Ok, Err}
use Rattle.std.specs.Global.{Vec}
use Rattle.common.proofs.Refusals.{refusal_some}
use Rattle.common.specs.declared.refusal.Refusal.{Refusal}
use Rattle.xpath.specs.Document.{Document}
use Rattle.selector_grammar.specs.Bytes.{Bytes}
use Rattle.calls.specs.Book.{Answer}
use Rattle.calls.specs.Calls.{text}
use Rattle.calls.specs.represent.Answers.{NumberOrRefusal, answer_of}
use Rattle.calls.proofs.Accepted.{if_accepted}
use Rattle.session.specs.declared.session.Session.{Session}
use Rattle.session.specs.View.{view, fresh_session}
use Rattle.session.specs.Promises.{session_answer, session_with, Met}
use Rattle.session.specs.TextRead.{read_answer, read_rows}
use Rattle.document_calls.specs.Selections.{NodesSelected}
use Rattle.document_calls.specs.declared.selection_error.SelectionError.{SelectionError}
use Rattle.document_calls.specs.declared.selection_error.SelectionError.TheVariants.{Refused}
use Rattle.session_documents.specs.TextNodes.{TextNodesSelected}

module _ (names t : Bytes) (d : Document) (x : ℕ) (s u : Session) (fresh : s ≡ fresh_session) (o : NumberOrRefusal)
    (m : Met s (text names t) (answer_of o) u)
  where
    made : Met fresh_session (text names t) (answer_of o) u
    made = subst (λ (z : Session). Met z (text names t) (answer_of o) u) fresh m

    told : answer_of o ≡ read_answer names t
    unfolding read_answer
    told = made.answer

    pub text_refused : (e : Refusal) → o ≡ Err e → TextNodesSelected names t d x (Err (Refused e))
    text_refused e is =
        let same = sym (ap answer_of is) ∙ told in
        record {
          refused = λ f. (e, refl, same);
          accepted = λ n. absurd (refusal_some e (ap (λ (a : Answer). a.number) same ∙ n));
        }

    pub text_accepted : (i : ℕ) → o ≡ Ok i → (r : Result (Vec Bool) SelectionError)
        → NodesSelected (view u).rows i d x r → TextNodesSelected names t d x r
    unfolding read_answer read_rows
    text_accepted i is r selected =
        let same : answer_of (Ok i) ≡ session_answer fresh_session (text names t) = sym (ap answer_of is) ∙ told in
        let left : u ≡ session_with fresh_session (text names t) =
        made.left
        ∙ sym (if_accepted (answer_of (Ok i)) (session_answer fresh_session (text names t)) same
        (session_with fresh_session (text names t)) fresh_session refl) in
        record {
          refused = λ f. absurd (f (sym (ap (λ (a : Answer). a.number) same)));
          accepted = λ n.
              subst (λ (k : ℕ). NodesSelected (view (session_with fresh_session (text names t))).rows k d x r)
              (ap (λ (a : Answer). a.value) same)
              (subst (λ (z : Session). NodesSelected (view z).rows i d x r) left selected);
        }
