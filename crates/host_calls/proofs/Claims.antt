-- What the answer to a claim means: the session that both texts leave has the bundle's steps, and its rows in front.
use Prim.Native.Nat.{ℕ, suc, ◌-◌, ◌≤◌, ◌<◌}
use mathlib.Core.Path.{◌≡◌, refl, sym, ap, subst, ◌∙◌}
use mathlib.Core.Bool.{Bool, true, false, cond}
use mathlib.Core.List.{List, [], ◌∷◌, ◌++◌, append_assoc}
use mathlib.Core.Logic.{◌⊎◌, inl, inr, ⊎_elim}
use native.Mathlib.Omega.{arith}
use lib.Dec.{T, eqb}
use lib.ListN.{length, get_or, length-append}
use borrow.Author.Tests.{eqb-true, eqb-false, leb-false}
use Rattle.xpath.specs.Term.{Path}
use Rattle.terms.specs.Row.{Row, row_at}
use Rattle.terms.specs.Fields.{is_path, held_path}
use Rattle.terms.specs.Terms.{of_path, of_qualifier, as_path, term_at, path_at, qualifier_at}
use Rattle.terms.specs.AcceptedRows.{Built}
use Rattle.terms.proofs.Built.{built_row}
use Rattle.terms.proofs.Terms.{term_stays, qualifier_term}
use Rattle.rules.specs.Claim.{Containment}
use Rattle.selector_grammar.specs.Bytes.{Bytes}
use Rattle.selector_grammar.specs.Words.{number_of}
use Rattle.selector_grammar.specs.Grammar.{Union, Spells}
use Rattle.selector_grammar.specs.Denotes.{union_of}
use Rattle.calls.specs.Book.{Step, no_step, Book, Answer, answer, accepted}
use Rattle.common.specs.Refusals.{not_covered}
use Rattle.calls.specs.StepCall.{claim_of}
use Rattle.calls.specs.Calls.{text}
use Rattle.calls.proofs.ByTerms.{path_held}
use Rattle.calls.proofs.Reached.{HeldLaws, reachable_laws, claim_stays}
use Rattle.calls.proofs.Runs.{run_map, run_follows}
use Rattle.replacement.specs.Covered.{is_replaced, step_saying}
use Rattle.replacement.proofs.NoneLost.{covered_none_lost}
use Rattle.session.specs.declared.session.Session.{Session}
use Rattle.session.specs.View.{view, fresh_session}
use Rattle.session.specs.Promises.{session_answer, session_with}
use Rattle.session.specs.Reading.{reading}
use Rattle.session.proofs.Simulation.{Kept, fresh_kept, session_as_book}
use Rattle.session.proofs.Source.{Read, call_tied, read_tied, reads_exist, read_guarantee}
use Rattle.host_calls.specs.ClaimCall.{Claimed, claimed, the_claim, the_bundle, old_selector, new_selector}
use Rattle.host_calls.specs.ClaimCall.{said_answer, new_claimed, old_claimed, claim_answer}
use Rattle.host_calls.proofs.Saying.{saying_found, saying_none, says_iff}
use Rattle.session.proofs.Texts.{TextHeld, text_held}
use Rattle.host_calls.specs.ClaimGuarantee.{ClaimRelation, BundleSays, IsContained, ClaimGuarantee}

-- what is asked after w answers 0 only where w accepts
unless_refused : (w : Answer) (k : ℕ) (p c : Claimed) → c ≡ cond (accepted w) p (claimed k w) → c.answer.number ≡ 0
    → c ≡ p
unless_refused w k p c e n = by_test (accepted w) refl e
  where
    by_test : (b : Bool) → accepted w ≡ b → c ≡ cond b p (claimed k w) → c ≡ p
    by_test true i z = z
    by_test false i z = absurd (eqb-false w.number 0 i (sym (ap (λ (q : Claimed). q.answer.number) z) ∙ n))

-- what is answered of the part k is w, which refuses, where what is asked after w is answered of others
about : (w : Answer) (k : ℕ) (p : Claimed) (a : Answer) → ¬ (k ≡ p.part)
    → claimed k a ≡ cond (accepted w) p (claimed k w) → (a ≡ w) × (¬ (a.number ≡ 0))
about w k p a other e = by_test (accepted w) refl e
  where
    by_test : (b : Bool) → accepted w ≡ b → claimed k a ≡ cond b p (claimed k w) → (a ≡ w) × (¬ (a.number ≡ 0))
    by_test true i z = absurd (other (ap (λ (q : Claimed). q.part) z))
    by_test false i z =
        let same = ap (λ (q : Claimed). q.answer) z in
        (same, λ n. eqb-false w.number 0 i (sym (ap (λ (o : Answer). o.number) same) ∙ n))

-- what is answered of another part than w's is asked after w
beyond : (w : Answer) (k m : ℕ) (p : Claimed) (a : Answer) → ¬ (m ≡ k)
    → claimed m a ≡ cond (accepted w) p (claimed k w) → claimed m a ≡ p
beyond w k m p a other e = by_test (accepted w) e
  where
    by_test : (b : Bool) → claimed m a ≡ cond b p (claimed k w) → claimed m a ≡ p
    by_test true z = z
    by_test false z = absurd (other (ap (λ (q : Claimed). q.part) z))

-- an answer about a text, or about the claim, is not about the bundle
not_bundle : (c d : Bool) (x y z : Answer)
    → ¬ (the_bundle
    ≡ (cond c (cond d (claimed the_claim z) (claimed new_selector y)) (claimed old_selector x)).part)
not_bundle true true x y z e = let q : ◌≡◌ {A = ℕ} 1 0 = e in absurd (omega arith)
not_bundle true false x y z e = let q : ◌≡◌ {A = ℕ} 1 3 = e in absurd (omega arith)
not_bundle false d x y z e = let q : ◌≡◌ {A = ℕ} 1 2 = e in absurd (omega arith)

not_old : (d : Bool) (y z : Answer) → ¬ (old_selector ≡ (cond d (claimed the_claim z) (claimed new_selector y)).part)
not_old true y z e = let q : ◌≡◌ {A = ℕ} 2 0 = e in absurd (omega arith)
not_old false y z e = let q : ◌≡◌ {A = ℕ} 2 3 = e in absurd (omega arith)

not_new : (z : Answer) → ¬ (new_selector ≡ (claimed the_claim z).part)
not_new z e = let q : ◌≡◌ {A = ℕ} 3 0 = e in absurd (omega arith)

-- the four answers of a claim, each asked where the one before accepts
module _ (bundle names old new : Bytes) where
  abbrev bundle_answer : Answer
  bundle_answer = (reading bundle).answer

  abbrev old_answer : Answer
  old_answer = session_answer (reading bundle).session (text names old)

  abbrev with_old : Session
  with_old = session_with (reading bundle).session (text names old)

  abbrev new_answer : Answer
  new_answer = session_answer with_old (text names new)

  abbrev saying_answer : Answer
  saying_answer = said_answer (view (session_with with_old (text names new))) old_answer.value new_answer.value

  abbrev after_old : Claimed
  after_old = cond (accepted new_answer) (claimed the_claim saying_answer) (claimed new_selector new_answer)

  abbrev after_bundle : Claimed
  after_bundle = cond (accepted old_answer) after_old (claimed old_selector old_answer)

  told_by : (c : Claimed) → c ≡ claim_answer bundle names old new
      → c ≡ cond (accepted bundle_answer) after_bundle (claimed the_bundle bundle_answer)
  unfolding claim_answer old_claimed new_claimed
  told_by c e = e

  zero_part : (c : Claimed) → c ≡ claim_answer bundle names old new → c.answer.number ≡ 0 → c.part ≡ the_claim
  zero_part c e n =
      let f = unless_refused bundle_answer the_bundle after_bundle c (told_by c e) n in
      let g = unless_refused old_answer old_selector after_old c f n in
      ap (λ (q : Claimed). q.part) (unless_refused new_answer new_selector (claimed the_claim saying_answer) c g n)

  bundle_part : (a : Answer) → claimed the_bundle a ≡ claim_answer bundle names old new
      → (a ≡ bundle_answer) × (¬ (a.number ≡ 0))
  bundle_part a e =
      about bundle_answer the_bundle after_bundle a
      (not_bundle (accepted old_answer) (accepted new_answer) old_answer new_answer saying_answer) (told_by _ e)

  old_part : (a : Answer) → claimed old_selector a ≡ claim_answer bundle names old new
      → (a ≡ old_answer) × (¬ (a.number ≡ 0))
  old_part a e =
      about old_answer old_selector after_old a (not_old (accepted new_answer) new_answer saying_answer)
      (beyond bundle_answer the_bundle old_selector after_bundle a (λ z. absurd (omega arith)) (told_by _ e))

  new_part : (a : Answer) → claimed new_selector a ≡ claim_answer bundle names old new
      → (a ≡ new_answer) × (¬ (a.number ≡ 0))
  new_part a e =
      let f = beyond bundle_answer the_bundle new_selector after_bundle a (λ z. absurd (omega arith)) (told_by _ e) in
      let g = beyond old_answer old_selector new_selector after_old a (λ z. absurd (omega arith)) f in
      about new_answer new_selector (claimed the_claim saying_answer) a (not_new saying_answer) g

-- an answer of the claim itself comes after three that accept
asked_cases : (b c d : Bool) (w x y z a : Answer)
    → claimed the_claim a
    ≡ cond b (cond c (cond d (claimed the_claim z) (claimed new_selector y)) (claimed old_selector x))
    (claimed the_bundle w)
    → (b ≡ true) × (c ≡ true) × (d ≡ true) × (a ≡ z)
asked_cases true true true w x y z a e = (refl, refl, refl, ap (λ (q : Claimed). q.answer) e)
asked_cases true true false w x y z a e =
    let q : ◌≡◌ {A = ℕ} 0 3 = ap (λ (q : Claimed). q.part) e in absurd (omega arith)
asked_cases true false d w x y z a e =
    let q : ◌≡◌ {A = ℕ} 0 2 = ap (λ (q : Claimed). q.part) e in absurd (omega arith)
asked_cases false c d w x y z a e =
    let q : ◌≡◌ {A = ℕ} 0 1 = ap (λ (q : Claimed). q.part) e in absurd (omega arith)

-- the session of an accepted bundle is one that calls lead to
read_kept : (bundle : Bytes) → (reading bundle).answer.number ≡ 0 → Kept (reading bundle).session
read_kept bundle e =
    let (t, on_fresh) = reads_exist fresh_session bundle in
    let r : Read bundle t = (fresh_session, on_fresh) in
    let met = read_tied bundle t r in
    let read = read_guarantee.accepted bundle t r (ap (λ (a : Answer). a.number) met.answer ∙ e) in
    let (shows, holds, whole, reachable) =
    run_follows session_as_book fresh_kept.whole fresh_kept.reachable (run_map call_tied read.made) in
    subst Kept met.session (record { whole = whole; reachable = reachable })

-- a row whose term is a path is a held path
path_row_lem : (rs : List Row) → Built rs → (i : ℕ) → i < length rs → (p : Path) → term_at rs i ≡ of_path p
    → T (held_path rs i)
unfolding is_path
path_row_lem rs built i h p e = path_held rs i h (by_test (is_path (row_at rs i)) refl)
  where
    by_test : (b : Bool) → is_path (row_at rs i) ≡ b → b ≡ true
    by_test true q = refl
    by_test false q =
        let above = leb-false (row_at rs i).kind 5 q in
        let clash : of_path p ≡ of_qualifier (qualifier_at rs i) =
        sym e ∙ qualifier_term rs i (omega (arith, above)) (built_row built i h).kind in
        let z : ◌≡◌ {A = ℕ} 0 1 = cc in
        absurd (omega arith)

-- where no step is found, none says so
refuted : (b : Book) (i j k : ℕ) → 1 ≤ k → k ≤ length b.steps → step_saying b i j ≡ 0
    → ¬ T (is_replaced b (j ∷ []) i k)
refuted b i j k lower upper e t =
    let here : suc (k - 1) ≡ k = omega arith in
    let no : is_replaced b (j ∷ []) i k ≡ false =
    ap (is_replaced b (j ∷ []) i) (sym here) ∙ saying_none b i j e (k - 1) (omega arith) in
    subst T no t

module _ (bundle names old new : Bytes) (read : (reading bundle).answer.number ≡ 0) where
  abbrev s₀ : Session
  s₀ = (reading bundle).session

  abbrev s₁ : Session
  s₁ = session_with s₀ (text names old)

  abbrev s₂ : Session
  s₂ = session_with s₁ (text names new)

  abbrev i : ℕ
  i = (session_answer s₀ (text names old)).value

  abbrev j : ℕ
  j = (session_answer s₁ (text names new)).value

  module _ (old_taken : (session_answer s₀ (text names old)).number ≡ 0)
      (new_taken : (session_answer s₁ (text names new)).number ≡ 0)
    where
      pub first : TextHeld s₀ names old
      first = text_held s₀ names old (read_kept bundle read) old_taken

      pub second : TextHeld s₁ names new
      second = text_held s₁ names new first.kept new_taken

      laws₀ : HeldLaws (view s₀).rows (view s₀).steps
      laws₀ = (reachable_laws (read_kept bundle read).reachable).held

      laws₂ : HeldLaws (view s₂).rows (view s₂).steps
      laws₂ = (reachable_laws second.kept.reachable).held

      all_steps : (view s₂).steps ≡ (view s₀).steps
      all_steps = second.steps ∙ first.steps

      all_rows : (view s₂).rows ≡ (view s₀).rows ++ (first.new ++ second.new)
      all_rows =
          second.rows ∙ ap (λ (rs : List Row). rs ++ second.new) first.rows
          ∙ append_assoc (view s₀).rows first.new second.new

      -- what a step of the bundle says is said with the bundle's rows as with all rows
      same_claim : (k : ℕ) → k < length (view s₀).steps
          → claim_of (view s₂).rows (get_or (view s₂).steps k no_step)
          ≡ claim_of (view s₀).rows (get_or (view s₀).steps k no_step)
      same_claim k h =
          ap (λ (ps : List Step). claim_of (view s₂).rows (get_or ps k no_step)) all_steps
          ∙ ap (λ (rs : List Row). claim_of rs (get_or (view s₀).steps k no_step)) all_rows
          ∙ claim_stays (view s₀).rows (first.new ++ second.new) (get_or (view s₀).steps k no_step) (laws₀.sides k h)

      count : length (view s₂).steps ≡ length (view s₀).steps
      count = ap (λ (ps : List Step). length ps) all_steps

      -- the paths of both trees stand at rows i and j
      module _ (u v : Union) (old-spells : Spells old u) (new-spells : Spells new v) where
        abbrev p : Path
        p = union_of (number_of names) u

        abbrev q : Path
        q = union_of (number_of names) v

        old_inside : i < length (view s₂).rows
        old_inside =
            let longer =
            ap (λ (rs : List Row). length rs) second.rows ∙ length-append (view s₁).rows second.new in
            omega (arith, longer, first.inside)

        old_term : term_at (view s₂).rows i ≡ of_path p
        old_term =
            ap (λ (rs : List Row). term_at rs i) second.rows
            ∙ term_stays (view s₁).rows second.new i first.inside ∙ first.term u old-spells

        old_path : T (held_path (view s₂).rows i)
        old_path = path_row_lem (view s₂).rows laws₂.built i old_inside p old_term

        new_path : T (held_path (view s₂).rows j)
        new_path = path_row_lem (view s₂).rows laws₂.built j second.inside q (second.term v new-spells)

        sides : Containment (path_at (view s₂).rows i) (path_at (view s₂).rows j) ≡ Containment p q
        unfolding as_path
        sides = rw (old_term, second.term v new-spells)

        said : (k : ℕ) → T (is_replaced (view s₂) (j ∷ []) i k) → BundleSays bundle names k u v
        said k t =
            let x = (says_iff (view s₂) laws₂ i j k old_path new_path).0 t in (
              x.0,
              omega (arith, x.1, count),
              sym (same_claim (k - 1) (omega (arith, x.0, x.1, count))) ∙ x.2 ∙ sides,
            )

        sought : (k : ℕ) → BundleSays bundle names k u v → T (is_replaced (view s₂) (j ∷ []) i k)
        sought k x =
            (says_iff (view s₂) laws₂ i j k old_path new_path).1 (
              x.0,
              omega (arith, x.1, count),
              same_claim (k - 1) (omega (arith, x.0, x.1)) ∙ x.2 ∙ sym sides,
            )

        pub step_says : (k : ℕ) → step_saying (view s₂) i j ≡ k → ¬ (k ≡ 0) → BundleSays bundle names k u v
        step_says k e some-step = said k (saying_found (view s₂) i j k e some-step)

        pub none_says : step_saying (view s₂) i j ≡ 0 → (k : ℕ) → ¬ BundleSays bundle names k u v
        none_says e k says = refuted (view s₂) i j k says.0 (omega (arith, says.1, count)) e (sought k says)

        pub contained : (k : ℕ) → BundleSays bundle names k u v → IsContained p q
        contained k says d w x h y t =
            ⊎_elim (λ r. r) (λ r. absurd r)
            ((covered_none_lost (view s₀) laws₀ (p ∷ []) (q ∷ []) (inl (k, says), tt) d w x h y).0 t)

-- the answer by the first step that says so
yes_case : (m i : ℕ) → answer 0 i ≡ cond (eqb m 0) (answer not_covered 1) (answer 0 m) → (m ≡ i) × (¬ (i ≡ 0))
yes_case m i e = by_test (eqb m 0) refl e
  where
    by_test : (b : Bool) → eqb m 0 ≡ b → answer 0 i ≡ cond b (answer not_covered 1) (answer 0 m) → (m ≡ i) × (¬ (i ≡ 0))
    by_test true q z = let r : ◌≡◌ {A = ℕ} 0 26 = ap (λ (a : Answer). a.number) z in absurd (omega arith)
    by_test false q z =
        let r : i ≡ m = ap (λ (a : Answer). a.value) z in
        (sym r, λ n. eqb-false m 0 q (sym r ∙ n))

either_case : (m : ℕ) (a : Answer) → a ≡ cond (eqb m 0) (answer not_covered 1) (answer 0 m)
    → (a.number ≡ 0) ⊎ (a ≡ answer not_covered 1)
either_case m a e = by_test (eqb m 0) e
  where
    by_test : (b : Bool) → a ≡ cond b (answer not_covered 1) (answer 0 m)
        → (a.number ≡ 0) ⊎ (a ≡ answer not_covered 1)
    by_test true z = inr z
    by_test false z = inl (ap (λ (o : Answer). o.number) z)

no_case : (m n : ℕ) → answer not_covered n ≡ cond (eqb m 0) (answer not_covered 1) (answer 0 m) → m ≡ 0
no_case m n e = by_test (eqb m 0) refl e
  where
    by_test : (b : Bool) → eqb m 0 ≡ b → answer not_covered n ≡ cond b (answer not_covered 1) (answer 0 m) → m ≡ 0
    by_test true q z = eqb-true m 0 q
    by_test false q z = let r : ◌≡◌ {A = ℕ} 26 0 = ap (λ (a : Answer). a.number) z in absurd (omega arith)

-- the three answers of a claim that is answered itself, and the fourth
record Taken (bundle names old new : Bytes) (a : Answer) : Type 0 where
  pub read : (reading bundle).answer.number ≡ 0
  pub old_taken : (session_answer (reading bundle).session (text names old)).number ≡ 0
  pub new_taken : (session_answer (s₁ bundle names old new read) (text names new)).number ≡ 0
  pub told : a
      ≡ said_answer (view (s₂ bundle names old new read)) (i bundle names old new read) (j bundle names old new read)

taken : (bundle names old new : Bytes) (a : Answer) → claimed the_claim a ≡ claim_answer bundle names old new
    → Taken bundle names old new a
unfolding claim_answer old_claimed new_claimed
taken bundle names old new a e =
    let (b, c, d, told) = asked_cases _ _ _ _ _ _ _ a e in
    record { read = eqb-true _ 0 b; old_taken = eqb-true _ 0 c; new_taken = eqb-true _ 0 d; told = told }

-- where a claim is answered as it is defined
pub claim_guarantee_by : (Claims : ClaimRelation)
    → ((bundle names old new : Bytes) (c : Claimed) → Claims bundle names old new c
    → c ≡ claim_answer bundle names old new)
    → ClaimGuarantee Claims
unfolding said_answer
claim_guarantee_by Claims tied =
    record {
      whose = λ bundle names old new c m. zero_part bundle names old new c (tied bundle names old new c m);
      either = λ bundle names old new a m.
          let t = taken bundle names old new a (tied bundle names old new _ m) in
          either_case
          (step_saying (view (s₂ bundle names old new t.read)) (i bundle names old new t.read)
          (j bundle names old new t.read))
          a t.told;
      of_bundle = λ bundle names old new a m. bundle_part bundle names old new a (tied bundle names old new _ m);
      of_old = λ bundle names old new a m. old_part bundle names old new a (tied bundle names old new _ m);
      of_new = λ bundle names old new a m. new_part bundle names old new a (tied bundle names old new _ m);
      asked = λ bundle names old new a m.
          let t = taken bundle names old new a (tied bundle names old new _ m) in
          let one = first bundle names old new t.read t.old_taken t.new_taken in
          let two = second bundle names old new t.read t.old_taken t.new_taken in
          (t.read, one.tree, two.tree, one.spells, two.spells);
      yes = λ bundle names old new i m u v old-spells new-spells.
          let t = taken bundle names old new _ (tied bundle names old new _ m) in
          let (found, some-step) = yes_case _ i t.told in
          let says = step_says bundle names old new t.read t.old_taken t.new_taken u v old-spells new-spells i
          found some-step in (
            says,
            contained bundle names old new t.read t.old_taken t.new_taken u v old-spells new-spells i says,
          );
      no = λ bundle names old new n m u v old-spells new-spells.
          let t = taken bundle names old new _ (tied bundle names old new _ m) in
          none_says bundle names old new t.read t.old_taken t.new_taken u v old-spells new-spells
          (no_case _ n t.told);
    }
