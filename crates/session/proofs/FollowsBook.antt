-- Every list of calls from a fresh session follows the plain book, where the calls meet their promises.
use Rattle.calls.specs.represent.Answers.{NumberOrRefusal}
use Prim.Native.Nat.{ℕ, ◌<◌}
use mathlib.Core.Path.{◌≡◌, refl, sym, ap, subst, ◌∙◌}
use mathlib.Core.Bool.{Bool, true, false, cond}
use mathlib.Core.List.{List}
use native.Mathlib.Omega.{arith}
use lib.Dec.{T}
use lib.ListN.{length, get_or}
use Rattle.xpath.specs.Document.{Document, document_of, well_formed}
use Rattle.xpath.specs.Term.{Path}
use Rattle.xpath.specs.Meaning.{selects}
use Rattle.terms.specs.Terms.{path_at}
use Rattle.rules.specs.Claim.{Containment, TrueOn, IsTrue}
use Rattle.session.specs.declared.session.Session.{Session}
use Rattle.calls.specs.Book.{no_step, Book, Answer}
use Rattle.calls.specs.StepCall.{claim_of}
use Rattle.calls.specs.Runs.{Run}
use Rattle.calls.specs.Calls.{Call, CallSeen}
use Rattle.session.specs.View.{view, fresh_session}
use Rattle.session.specs.Promises.{CallRelation, SelectRelation, Met, CallsMade, SelectMet}
use Rattle.session.specs.FollowsBook.{Upheld, FollowsBook, BookGuarantee}
use Rattle.calls.proofs.Reached.{BookLaws, reachable_laws}
use Rattle.calls.proofs.ByTerms.{containment_sides}
use Rattle.calls.proofs.Runs.{run_map}
use Rattle.calls.proofs.Marked.{select_takes, select_leaves, select_well_formed, select_marks, select_stays}
use Rattle.session.proofs.Simulation.{calls_follow}

mark_true : (b : Bool) → ◌≡◌ {A = ℕ} (cond b 1 0) 1 → T b
mark_true true e = tt
mark_true false e = omega arith

true_mark : (b : Bool) → T b → ◌≡◌ {A = ℕ} (cond b 1 0) 1
true_mark true t = refl
true_mark false t = absurd t

-- what one relation says of calls, the other does
abbrev pub CallsKept : CallRelation → CallRelation → Type 0
CallsKept Called Kept = (s : Session) (c : Call) (a : Answer) (t : Session) → Called s c a t → Kept s c a t

abbrev pub SelectsKept : SelectRelation → SelectRelation → Type 0
SelectsKept Selected Kept = (s : Session) (row : ℕ) (xs : List ℕ) (x limit : ℕ) (buffer : List ℕ)
    (t : NumberOrRefusal) (left : List ℕ) → Selected s row xs x limit buffer t left
    → Kept s row xs x limit buffer t left

-- calls that all meet their promises, on what `new` gives, are made from a fresh session
pub made_from_fresh : {New : Session → Type 0} {Called : CallRelation} → ((s : Session) → New s → s ≡ fresh_session)
    → CallsKept Called Met → {s₀ s : Session} {cs : List Call} {os : List CallSeen} → New s₀
    → Run view Called s₀ cs os s → CallsMade fresh_session cs os s
made_from_fresh new_tied call_tied {s₀} {s} {cs} {os} new run =
    subst (λ z. CallsMade z cs os s) (new_tied s₀ new) (run_map call_tied run)

-- a select that meets its promise
module _ (Selected : SelectRelation) (select_tied : SelectsKept Selected SelectMet) where
  pub upheld : (s : Session) (b : Book) → view s ≡ b → BookLaws b → Upheld Selected s b
  unfolding IsTrue TrueOn claim_of
  upheld s b same laws =
      let rows : (view s).rows ≡ b.rows = ap (λ c. c.rows) same in
      let contained : (i : ℕ) → i < length b.steps
      → (p q : Path) → claim_of b.rows (get_or b.steps i no_step) ≡ Containment p q
      → (d : Document) → T (well_formed d) → (x : ℕ) → x < length d
      → (y : ℕ) → T (selects d p x y) → T (selects d q x y) =
      λ i h p q e d w x k y t. subst IsTrue e (laws.held.claims i h) d w x k y t in
      record {
        containment = contained;
        implication = λ i h f g e d w x k t. subst IsTrue e (laws.held.claims i h) d w x k t;
        answers = λ row xs x limit buffer left t m. (select_tied _ _ _ _ _ _ _ _ m).answer ∙ rw rows;
        refused = λ row xs x limit buffer left t m f.
            select_leaves _ row xs x limit buffer left t (select_tied _ _ _ _ _ _ _ _ m) f;
        marks = λ row xs x limit buffer left t m e.
            let made = select_tied _ _ _ _ _ _ _ _ m in (
              select_well_formed _ row xs x limit buffer left t made e,
              λ y l. rw rows at (select_marks _ row xs x limit buffer left t made e y l),
              λ y l. select_stays _ row xs x limit buffer left t made e y l,
            );
        marks_contained = λ i h p q e xs x limit limit' buffer buffer' left left' t t' m₀ a m₁ a' y l one.
            let m = select_tied _ _ _ _ _ _ _ _ m₀ in
            let m' = select_tied _ _ _ _ _ _ _ _ m₁ in
            let d = document_of xs in
            let step = get_or b.steps i no_step in
            let sides = containment_sides b.rows step.left step.right p q e in
            let old = rw rows at (select_marks _ step.left xs x limit buffer left t m a y l) in
            let new = rw rows at (select_marks _ step.right xs x limit' buffer' left' t' m' a' y l) in
            let by_p : T (selects d p x y) =
            subst (λ p. T (selects d p x y)) sides.1
            (mark_true (selects d (path_at b.rows step.left) x y) (sym old ∙ one)) in
            let by_q : T (selects d q x y) =
            contained i h p q e d (select_well_formed _ _ xs x limit buffer left t m a)
            x (select_takes _ _ xs x limit buffer left t m a).context y by_p in
            new
            ∙ true_mark (selects d (path_at b.rows step.right) x y)
            (subst (λ q. T (selects d q x y)) (sym sides.2) by_q);
      }

  pub calls_follow_book : (cs : List Call) (os : List CallSeen) (s : Session) → CallsMade fresh_session cs os s
      → FollowsBook Selected cs os s
  calls_follow_book cs os s run =
      let f = calls_follow run in
      record {
        seen = f.seen;
        held = f.held;
        upheld = upheld s _ f.held (subst BookLaws f.held (reachable_laws f.kept.reachable));
      }

  -- so for every `new` and every calls that meet theirs
  pub book_guarantee_by : (New : Session → Type 0) (Called : CallRelation)
      → ((s : Session) → New s → s ≡ fresh_session) → CallsKept Called Met → BookGuarantee Selected New Called
  book_guarantee_by New Called new_tied call_tied s₀ s cs os new run =
      calls_follow_book cs os s (made_from_fresh new_tied call_tied new run)
