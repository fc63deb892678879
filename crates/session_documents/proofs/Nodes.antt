-- What the marks of a select on a document of any size mean, where the calls meet their promises.
use Prim.Native.Nat.{ℕ, ◌<◌}
use mathlib.Core.Path.{◌≡◌, refl, sym, ap, subst, ◌∙◌}
use mathlib.Core.Bool.{Bool, true, false, not, cond}
use mathlib.Core.List.{List}
use mathlib.Core.Logic.{⊎_elim}
use mathlib.Core.Option.{Option, none, some}
use native.Mathlib.Omega.{arith}
use lib.Dec.{T, leb}
use lib.ListN.{length, get_or}
use borrow.Author.Tests.{leb-false, lt-leb, not-false}
use Rattle.std.specs.Prelude.{Result, Ok, Err}
use Rattle.std.specs.Global.{Vec}
use Rattle.common.proofs.Reflect.{eq_or_ne}
use Rattle.common.specs.declared.refusal.Refusal.TheVariants.{BadArgument}
use Rattle.xpath.specs.Document.{document_of, document_refusal}
use Rattle.xpath.specs.Document as xpath
use Rattle.xpath.specs.Term.{Path}
use Rattle.xpath.specs.Meaning.{selects}
use Rattle.terms.specs.Row.{Row}
use Rattle.terms.specs.Fields.{held_path}
use Rattle.terms.specs.Terms.{as_path, path_at}
use Rattle.documents.specs.Documents.{doc}
use Rattle.documents.specs.declared.document.Document.{Document}
use Rattle.selector_grammar.specs.Bytes.{Bytes}
use Rattle.selector_grammar.specs.Words.{number_of}
use Rattle.selector_grammar.specs.Denotes.{union_of}
use Rattle.calls.specs.Book.{Answer, Book, no_step}
use Rattle.calls.specs.StepCall.{claim_of}
use Rattle.calls.specs.Calls.{book_after}
use Rattle.calls.specs.SelectCall.{select_answer}
use Rattle.calls.proofs.Accepted.{test_failed}
use Rattle.calls.proofs.ByTerms.{containment_sides}
use Rattle.calls.proofs.Marked.{no_refusal, select_takes, select_marks}
use Rattle.session.specs.declared.session.Session.{Session}
use Rattle.session.specs.View.{view, fresh_session}
use Rattle.session.specs.Promises.{CallRelation, SelectRelation, SelectMet}
use Rattle.session.specs.FollowsBook.{BookGuarantee}
use Rattle.session.specs.TextRead.{read_answer, read_rows}
use Rattle.session.proofs.FollowsBook.{SelectsKept}
use Rattle.session.proofs.Simulation.{fresh_kept}
use Rattle.session.proofs.Texts.{TextHeld, text_held}
use Rattle.document_calls.specs.Selections.{refusal_of, NodesSelected}
use Rattle.document_calls.specs.declared.selection_error.SelectionError.{SelectionError}
use Rattle.document_calls.specs.declared.selection_error.SelectionError.TheVariants.{Refused, OutOfMemory}
use Rattle.session_documents.specs.TextNodes.{TextNodesSelected}
use Rattle.session_documents.specs.NodesGuarantee.{NodesRelation, MarkedAlike, NodesAlike, NodesContained, TextNodes}

-- no refusal: the context node is in the document
inside_by : (outside path : Bool)
    → none ≡ cond outside (some (BadArgument 1)) (cond (not path) (some (BadArgument 2)) none) → outside ≡ false
inside_by true path e = absurd (cc e)
inside_by false path e = refl

inside_of : (rs : List Row) (row : ℕ) (d : xpath.Document) (x : ℕ) → none ≡ refusal_of (leb (length d) x) rs row
    → x < length d
inside_of rs row d x e = leb-false (length d) x (inside_by (leb (length d) x) (held_path rs row) e)

-- where `select` accepts, the row is a held path
path_taken : (rs : List Row) (row : ℕ) (xs : List ℕ) (x limit room : ℕ)
    → (select_answer rs row xs x limit room).number ≡ 0 → held_path rs row ≡ true
unfolding select_answer
path_taken rs row xs x limit room e =
    let known = no_refusal (document_refusal xs) _ e in
    let inside = test_failed (leb (length (document_of xs)) x) _ _ (omega arith) known.1 in
    not-false (held_path rs row) (test_failed (not (held_path rs row)) _ _ (omega arith) inside.1).0

-- marks as bytes, and marks of a document of any size
alike : (rs : List Row) (row : ℕ) (d : xpath.Document) (x : ℕ) → x < length d → held_path rs row ≡ true
    → (bytes : List ℕ)
    → ((y : ℕ) → y < length d → get_or bytes y 0 ≡ cond (selects d (path_at rs row) x y) 1 0)
    → (r : Result (Vec Bool) SelectionError) → NodesSelected rs row d x r → MarkedAlike (length d) bytes r
alike rs row d x h p bytes marks (Ok v) n =
    λ y l. marks y l ∙ sym (ap (λ (b : Bool). cond b 1 0) (n.1.each y l))
alike rs row d x h p bytes marks (Err (Refused e)) n =
    let z : some e ≡ none = rw (lt-leb (length d) x h, p) at n in cc z
alike rs row d x h p bytes marks (Err OutOfMemory) n = tt

module _ (NodesMarked : NodesRelation)
    (tied : (s : Session) (row : ℕ) (d : Document) (x : ℕ) (r : Result (Vec Bool) SelectionError)
    → NodesMarked s row d x r → NodesSelected (view s).rows row (doc d) x r)
  where
    pub nodes_alike : (Selected : SelectRelation) → SelectsKept Selected SelectMet → NodesAlike Selected NodesMarked
    nodes_alike Selected select_tied s row xs x limit buffer left t m a d same r n =
        let made = select_tied s row xs x limit buffer t left m in
        alike (view s).rows row (document_of xs) x
        (select_takes (view s).rows row xs x limit buffer left t made a).context
        (path_taken (view s).rows row xs x limit (length buffer) (sym (ap (λ (o : Answer). o.number) made.answer) ∙ a))
        left (select_marks (view s).rows row xs x limit buffer left t made a) r
        (subst (λ (e : xpath.Document). NodesSelected (view s).rows row e x r) same (tied s row d x r n))

    pub nodes_contained : (Selected : SelectRelation) (New : Session → Type 0) (Called : CallRelation)
        → BookGuarantee Selected New Called → NodesContained New Called NodesMarked
    unfolding claim_of
    nodes_contained Selected New Called demand s₀ s cs os fresh run i h p q says d x old new m₀ m₁ y l t =
        let b = book_after cs in
        let met = demand s₀ s cs os fresh run in
        let step = get_or b.steps i no_step in
        let rows : (view s).rows ≡ b.rows = ap (λ (c : Book). c.rows) met.held in
        let sides = containment_sides b.rows step.left step.right p q says in
        let u = tied s step.left d x (Ok old) m₀ in
        let v = tied s step.right d x (Ok new) m₁ in
        let from = ap (λ (rs : List Row). path_at rs step.left) rows ∙ sides.1 in
        let to = ap (λ (rs : List Row). path_at rs step.right) rows ∙ sides.2 in
        let by_p : T (selects (doc d) p x y) =
        subst (λ (b : Bool). T b) (u.1.each y l ∙ ap (λ (p : Path). selects (doc d) p x y) from) t in
        let by_q : T (selects (doc d) q x y) =
        met.upheld.containment i h p q says (doc d) d.sound.formed x
        (inside_of (view s).rows step.left (doc d) x u.0) y by_p in
        subst (λ (b : Bool). T b) (sym (v.1.each y l ∙ ap (λ (q : Path). selects (doc d) q x y) to)) by_q

-- the nodes that are marked for a text
pub text_nodes : (names t : Bytes) (d : Document) (x : ℕ) (v : Vec Bool)
    → TextNodesSelected names t (doc d) x (Ok v) → TextNodes names t d x v.items
unfolding read_answer read_rows as_path
text_nodes names t d x v m =
    ⊎_elim
    (λ a. let n = m.accepted a in
    let held = text_held fresh_session names t fresh_kept a in
    let row = (read_answer names t).value in
    let path : path_at (read_rows names t) row ≡ union_of (number_of names) held.tree =
    ap as_path (held.term held.tree held.spells) in
    record {
      inside = inside_of (read_rows names t) row (doc d) x n.0;
      tree = held.tree;
      spells = held.spells;
      marks = record {
        size = n.1.size;
        each = λ y l. n.1.each y l ∙ ap (λ (p : Path). selects (doc d) p x y) path;
      };
    })
    (λ f. let told = m.refused f in absurd (cc told.1))
    (eq_or_ne (read_answer names t).number 0)
