-- On every book that calls lead to, judging a step by row numbers is judging it by terms.
use Prim.Native.Nat.{ℕ, ◌+◌, ◌≤◌, ◌<◌}
use mathlib.Core.Path.{◌≡◌, refl, sym, ap, subst}
use mathlib.Core.Bool.{Bool, true, false, not, cond, ◌&&◌, ◌||◌, false≢true, decide_iff}
use mathlib.Core.List.{List, [], ◌∷◌, map}
use native.Mathlib.Omega.{arith}
use lib.Dec.{T, leb, ltb, eqb}
use lib.ListN.{length, get_or}
use mathlib.Core.Logic.{inl, inr}
use borrow.Author.Tests.{ltb-false, leb-false}
use mir.Facts.{yes_and, yes_ltb, yes_leb}
use Rattle.common.proofs.Reflect.{yes_or, true_iff, tests_equal}
use Rattle.terms.specs.Row.{Row, row_at}
use Rattle.terms.specs.Fields.{max_kind, is_path, is_qualifier, held_path, held_qualifier}
use Rattle.terms.specs.Terms.{path_at, qualifier_at}
use Rattle.terms.specs.AcceptedRows.{Built}
use Rattle.terms.proofs.Built.{built_row}
use Rattle.common.specs.Lists.{Every}
use Rattle.xpath.specs.Term.{Path}
use Rattle.rules.specs.Claim.{Containment, Implication, says}
use Rattle.matching.specs.represent.Sides.{one_sort, says_of}
use Rattle.rules.specs.Yields.{max_rule, Yields}
use Rattle.rules.specs.Decision.{yields_dec}
use Rattle.matching.proofs.RowYields.{row_yields_iff}
use Rattle.calls.specs.Book.{Step, no_step, max_steps, Book, Answer, answer}
use Rattle.calls.specs.StepCall.{same_sort, bad_side_of, bad_premise_of, claim_of, premises_of, step_answer_by}
use Rattle.calls.specs.StepCall.{is_yielded}
use Rattle.calls.specs.StepCall.{step_answer}
use Rattle.calls.specs.Calls.{Call, term, step, text, point, return, book_answer, row_answer, Reachable}
use Rattle.calls.specs.Promises.{sides_of, row_yielded, row_step_answer}
use Rattle.calls.proofs.Premises.{SidesHeld, sides_held, HeldIn, premises_held}
use Rattle.calls.proofs.Reached.{reachable_laws}

-- what comes after a test matters only where the test fails
after_test : (t : Bool) (x u v : Answer) → (t ≡ false → u ≡ v) → cond t x u ≡ cond t x v
after_test true x u v f = refl
after_test false x u v f = f refl

-- refusals 4, 5 and 6 come before it matters whether the rule yields the step
answer_by : (y z : Bool) (b : Book) (p : Step) → (bad_side_of b.rows p ≤ 0 → bad_premise_of (length b.steps) p ≤ 0
    → y ≡ z) → step_answer_by y b p ≡ step_answer_by z b p
unfolding step_answer_by
answer_by y z b p f =
    after_test (eqb p.rule 0 || ltb max_rule p.rule) _ _ _ λ rule.
    after_test (ltb 0 (bad_side_of b.rows p)) _ _ _ λ sides.
    after_test (ltb 0 (bad_premise_of (length b.steps) p)) _ _ _ λ premises.
    ap (λ w. cond (not w) (answer 7 0) (cond (leb max_steps (length b.steps)) (answer 13 0)
    (answer 0 (length b.steps + 1))))
    (f (ltb-false _ _ sides) (ltb-false _ _ premises))

-- a held row is a path, or it is a qualifier
pub path_held : (rs : List Row) (i : ℕ) → i < length rs → is_path (row_at rs i) ≡ true → T (held_path rs i)
unfolding held_path
path_held rs i h e = yes_and (ltb i (length rs)) (is_path (row_at rs i)) (yes_ltb h) ((true_iff _).1 e)

qualifier_held : (rs : List Row) → Built rs → (i : ℕ) → i < length rs → is_path (row_at rs i) ≡ false
    → T (held_qualifier rs i)
unfolding held_qualifier is_qualifier is_path
qualifier_held rs built i h e =
    yes_and (ltb i (length rs)) (leb 6 (row_at rs i).kind && leb (row_at rs i).kind max_kind) (yes_ltb h)
    (yes_and (leb 6 (row_at rs i).kind) (leb (row_at rs i).kind max_kind) (yes_leb (leb-false (row_at rs i).kind 5 e))
    (yes_leb (built_row built i h).kind))

-- the rows of a step that says a containment are paths, those of the containment
pub containment_sides : (rs : List Row) (l r : ℕ) (p q : Path) → says rs l r ≡ Containment p q
    → (is_path (row_at rs l) ≡ true) × (path_at rs l ≡ p) × (path_at rs r ≡ q)
unfolding says
containment_sides rs l r p q e = by_sort (is_path (row_at rs l)) e
  where
    by_sort : (b : Bool)
        → cond b (Containment (path_at rs l) (path_at rs r)) (Implication (qualifier_at rs l) (qualifier_at rs r))
        ≡ Containment p q → (b ≡ true) × (path_at rs l ≡ p) × (path_at rs r ≡ q)
    by_sort true e = (refl, cc, cc)
    by_sort false e = let z : ◌≡◌ {A = ℕ} 0 1 = cc in absurd (omega arith)

-- the rows of a step that passes refusal 5 are of one sort for the matcher
one_sort_lem : (rs : List Row) → Built rs → (p : Step) → SidesHeld rs p → T (one_sort rs (sides_of p))
unfolding one_sort sides_of same_sort
one_sort_lem rs built p h =
    by_sort (is_path (row_at rs p.left)) (is_path (row_at rs p.right)) refl refl h.one_sort_lem
  where
    by_sort : (l r : Bool) → is_path (row_at rs p.left) ≡ l → is_path (row_at rs p.right) ≡ r → cond l r (not r)
        ≡ true
        → T (held_path rs p.left && held_path rs p.right || held_qualifier rs p.left && held_qualifier rs
        p.right)
    by_sort true true e f g =
        yes_or (held_path rs p.left && held_path rs p.right) _
        (inl (yes_and (held_path rs p.left) (held_path rs p.right) (path_held rs p.left h.left e)
        (path_held rs p.right h.right f)))
    by_sort true false e f g = absurd (false≢true g)
    by_sort false true e f g = absurd (false≢true g)
    by_sort false false e f g =
        yes_or (held_path rs p.left && held_path rs p.right) _
        (inr (yes_and (held_qualifier rs p.left) (held_qualifier rs p.right)
        (qualifier_held rs built p.left h.left e) (qualifier_held rs built p.right h.right f)))

premises_sorted : (rs : List Row) → Built rs → (ps qs : List Step)
    → ((i : ℕ) → i < length ps → SidesHeld rs (get_or ps i no_step))
    → Every (HeldIn ps) qs → Every (λ s. T (one_sort rs s)) (map sides_of qs)
premises_sorted rs built ps [] f h = tt
premises_sorted rs built ps (q ∷ qs) f h =
    (one_sort_lem rs built q (rw h.0.2 (f h.0.0 h.0.1)), premises_sorted rs built ps qs f h.1)

-- the premises' rows say what the premises say
said_same : (rs : List Row) (qs : List Step) → map (says_of rs) (map sides_of qs) ≡ map (claim_of rs) qs
unfolding sides_of claim_of
said_same rs [] = refl
said_same rs (q ∷ qs) = ap (λ cs. claim_of rs q ∷ cs) (said_same rs qs)

pub row_answer_by_terms : (b : Book) (p : Step) → Reachable b → row_step_answer b p ≡ step_answer b p
unfolding row_step_answer step_answer row_yielded is_yielded sides_of claim_of
row_answer_by_terms b p h = answer_by (row_yielded b p) (is_yielded b p) b p λ sides premises.
    let laws = (reachable_laws h).held in
    let rows = one_sort_lem b.rows laws.built p (sides_held b.rows p sides) in
    let sorted = premises_sorted b.rows laws.built b.steps (premises_of b.steps p) laws.sides
    (premises_held b.steps p premises) in
    let premise-claims = said_same b.rows (premises_of b.steps p) in
    let by_terms = decide_iff (yields_dec p.rule (claim_of b.rows p)
    (map (claim_of b.rows) (premises_of b.steps p))) in
    let by_rows = row_yields_iff laws.built p.rule (sides_of p) (map sides_of (premises_of b.steps p)) rows
    sorted in
    tests_equal (row_yielded b p) (is_yielded b p) (
      λ t. (true_iff (is_yielded b p)).1
          (by_terms.1 (subst (Yields p.rule (claim_of b.rows p)) premise-claims (by_rows.0 t))),
      λ t. by_rows.1 (subst (Yields p.rule (claim_of b.rows p)) (sym premise-claims)
          (by_terms.0 ((true_iff (is_yielded b p)).0 t))),
    )

-- so every call's answer is the book's
pub answer_by_terms : (b : Book) (c : Call) → Reachable b → row_answer b c ≡ book_answer b c
answer_by_terms b (term r) h = refl
answer_by_terms b (step p) h = row_answer_by_terms b p h
answer_by_terms b (text names t) h = refl
answer_by_terms b (point n) h = refl
answer_by_terms b (return n) h = refl
