-- On a table of accepted rows the answer on row numbers decides what a rule yields: `row_yields_iff`.
use Prim.Native.Nat.{ℕ, zero, suc, ◌<◌}
use mathlib.Core.Path.{◌≡◌, refl, sym, ◌∙◌, ap, ap₂, subst}
use mathlib.Core.Bool.{Bool, false, ◌&&◌, ◌||◌}
use mathlib.Core.List.{List, [], ◌∷◌, map, Memᴰ, head-eq_of_cons-eq, tail-eq_of_cons-eq, cons-ne-nil}
use mathlib.Core.Logic.{◌↔◌, ◌⊎◌, ⊎_elim}
use native.Mathlib.Omega.{arith}
use Rattle.std.proofs.lemmas.List.{nil_from_length}
use lib.Dec.{T, ltb, eqb}
use lib.ListN.{length, get_or, replicate, get_or-eq_default}
use mir.Facts.{and_yes, yes_and, eqb_yes, yes_eqb}
use borrow.Author.Tests.{lt-leb}
use Rattle.common.proofs.Reflect.{facts, true_iff, and_iff, or_via, le_or_lt}
use Rattle.common.proofs.Entries.{any_of_yes, yes_any_of}
use Rattle.xpath.specs.Term.{Filter, some_of}
use Rattle.terms.specs.Row.{Row, row_at}
use Rattle.terms.specs.Fields.{is_path, is_qualifier, held_path, held_qualifier}
use Rattle.terms.specs.Terms.{path_at, qualifier_at}
use Rattle.terms.specs.AcceptedRows.{Built}
use Rattle.common.specs.Lists.{all_of, any_of, Every}
use Rattle.rules.specs.Form.{ClaimForm, ◌<=◌, ◌=>◌, Condition, a_below_b, N_below_M, b_from_3_to_10, N_a_name_or_star}
use Rattle.rules.specs.Form.{N_not_node, a_not_attribute, Form}
use Rattle.rules.specs.Claim.{Containment, Implication, says}
use Rattle.rules.specs.Instance.{Letters, claim_for, meets}
use Rattle.rules.specs.WayBack.{way_back}
use Rattle.rules.specs.Yields.{forms_of, FormYields, way_back_rule, WayBackYields, Yields}
use Rattle.rules.specs.private.LettersRead.{claim_forms}
use Rattle.rules.specs.private.RuleFits.{settled}
use Rattle.matching.specs.private.Pattern.{letter_count, claim_pattern, form_pattern}
use Rattle.matching.specs.private.RowYields.{Match, suits, match_claims, empty_match}
use Rattle.matching.specs.represent.Sides.{Sides, one_sort, says_of}
use Rattle.matching.specs.private.RowYields.{numbers_in, match_form, form_yields, forms_yield, way_back_yields}
use Rattle.matching.specs.private.RowYields.{row_yields}
use Rattle.matching.specs.private.RowWayBack.{is_with_back}
use Rattle.matching.proofs.Agreement.{IsClaim, AreClaims, claims_map, Sized, claims_sized, Agrees}
use Rattle.matching.proofs.Agreement.{match_claims_iff}
use Rattle.matching.proofs.Letters.{Means, means_small, means_one, letters_of, value_means, held_path_lem}
use Rattle.matching.proofs.Letters.{held_qualifier_lem}
use Rattle.matching.proofs.RowForms.{path_instance, qualifier_instance}
use Rattle.matching.proofs.WayBackRows.{with_back_iff}

pub says_paths : (rs : List Row) (l r : ℕ) → T (held_path rs l) → says rs l r
    ≡ Containment (path_at rs l) (path_at rs r)
unfolding says held_path
says_paths rs l r t = let u = and_yes (ltb l (length rs)) (is_path (row_at rs l)) t in
    rw ((true_iff (is_path (row_at rs l))).0 u.1)

says_qualifiers : (rs : List Row) (l r : ℕ) → T (held_qualifier rs l) → says rs l r ≡ Implication (qualifier_at rs l)
    (qualifier_at rs r)
unfolding says held_qualifier is_path is_qualifier
says_qualifiers rs l r t = let u = simp facts at t in rw (lt-leb (row_at rs l).kind 5 u.1.0)

sort_of_lem : (rs : List Row) (s : Sides) → T (one_sort rs s) →
    (T (held_path rs s.left) × T (held_path rs s.right)) ⊎
    (T (held_qualifier rs s.left) × T (held_qualifier rs s.right))
unfolding one_sort
sort_of_lem rs s t =
    (or_via (held_path rs s.left && held_path rs s.right) (held_qualifier rs s.left && held_qualifier rs s.right)
    (and_iff (held_path rs s.left) (held_path rs s.right))
    (and_iff (held_qualifier rs s.left) (held_qualifier rs s.right))).0 t

module _ {rs : List Row} (built : Built rs) (e : Letters) where
  -- the rows of a step of one sort are instances of a claim just where the step says that claim
  claim_is : (w : ClaimForm) (s : Sides) → T (one_sort rs s) → IsClaim rs (Means rs e) (claim_pattern w) s ↔
      (claim_for e w ≡ says_of rs s)
  unfolding claim_pattern claim_for
  claim_is (u <= v) s t = (
    λ i.
        let l = (path_instance built e u s.left).0 i.0 in
        let r = (path_instance built e v s.right).0 i.1 in
        ap₂ Containment l.1 r.1 ∙ sym (says_paths rs s.left s.right l.0),
    λ q.
        ⊎_elim
        (λ h.
        let c = q ∙ says_paths rs s.left s.right h.0 in
        ((path_instance built e u s.left).1 (h.0, cc), (path_instance built e v s.right).1 (h.1, cc)))
        (λ h. let c = q ∙ says_qualifiers rs s.left s.right h.0 in let z : ◌≡◌ {A = ℕ} 0 1 = cc in
        absurd (omega arith))
        (sort_of_lem rs s t),
  )
  claim_is (u => v) s t = (
    λ i.
        let l = (qualifier_instance built e u s.left).0 i.0 in
        let r = (qualifier_instance built e v s.right).0 i.1 in
        ap₂ Implication l.1 r.1 ∙ sym (says_qualifiers rs s.left s.right l.0),
    λ q.
        ⊎_elim
        (λ h. let c = q ∙ says_paths rs s.left s.right h.0 in let z : ◌≡◌ {A = ℕ} 0 1 = cc in
        absurd (omega arith))
        (λ h.
        let c = q ∙ says_qualifiers rs s.left s.right h.0 in
        ((qualifier_instance built e u s.left).1 (h.0, cc), (qualifier_instance built e v s.right).1 (h.1, cc)))
        (sort_of_lem rs s t),
  )

  claims_are : (ws : List ClaimForm) (ss : List Sides) → Every (λ s. T (one_sort rs s)) ss → AreClaims rs (Means rs e)
      (map claim_pattern ws) ss ↔ (map (claim_for e) ws ≡ map (says_of rs) ss)
  claims_are [] [] h = (λ i. refl, λ q. tt)
  claims_are [] (s ∷ ss) h = (λ i. absurd i, λ q. absurd (cons-ne-nil _ _ (sym q)))
  claims_are (w ∷ ws) [] h = (λ i. absurd i, λ q. absurd (cons-ne-nil _ _ q))
  claims_are (w ∷ ws) (s ∷ ss) h =
      let f = claim_is w s h.0 in
      let g = claims_are ws ss h.1 in
      (λ i. ap₂ ◌∷◌ (f.0 i.0) (g.0 i.1), λ q. (f.1 (head-eq_of_cons-eq q), g.1 (tail-eq_of_cons-eq q)))

none_known : (n k : ℕ) → get_or (replicate n false) k false ≡ false
none_known zero k = refl
none_known (suc n) zero = refl
none_known (suc n) (suc k) = none_known n k

all_of_same : {A : Type 0} (f g : A → Bool) → ((x : A) → f x ≡ g x) → (xs : List A) → all_of f xs ≡ all_of g xs
unfolding all_of
all_of_same f g q [] = refl
all_of_same f g q (x ∷ xs) = ap₂ ◌&&◌ (q x) (all_of_same f g q xs)

-- conditions look at axes and tests alone
numbers_meet : (rs : List Row) (m : Match) (c : Condition) → meets (numbers_in m.value) c
    ≡ meets (letters_of rs m.value) c
unfolding meets numbers_in letters_of
numbers_meet rs m a_below_b = refl
numbers_meet rs m N_below_M = refl
numbers_meet rs m b_from_3_to_10 = refl
numbers_meet rs m N_a_name_or_star = refl
numbers_meet rs m N_not_node = refl
numbers_meet rs m a_not_attribute = refl

empty_sized : Sized empty_match
unfolding empty_match
empty_sized = record { known = refl; value = refl }

-- no letter has a value yet
empty_agrees : (R : ℕ → ℕ → Type 0) → Agrees R empty_match
unfolding empty_match
empty_agrees R =
    record {
      fits = tt;
      sized = empty_sized;
      values = λ k t. absurd (subst T (none_known letter_count k) t);
    }

-- letter k has the value v
abbrev Bound : Match → ℕ → ℕ → Type 0
Bound m k v = T (get_or m.known k false) × (get_or m.value k 0 ≡ v)

-- the claims ws against the rows of steps
abbrev matched : List Row → List ClaimForm → List Sides → Match
matched rs ws ss = match_claims rs (map claim_pattern ws) ss empty_match

module _ {rs : List Row} (built : Built rs) (ws : List ClaimForm) (ss : List Sides)
    (sorts : Every (λ s. T (one_sort rs s)) ss) where
  sized : Sized (matched rs ws ss)
  sized = claims_sized rs (map claim_pattern ws) ss empty_match empty_sized

  bound_small : (k v : ℕ) → Bound (matched rs ws ss) k v → k < letter_count
  bound_small k v b =
      ⊎_elim (λ h. absurd (subst T (get_or-eq_default (matched rs ws ss).known false (omega (arith, sized.known)))
      b.0)) (λ h. h) (le_or_lt letter_count k)

  bound_means : (k v : ℕ) → T (suits rs k v) → Bound (matched rs ws ss) k v
      → Means rs (letters_of rs (matched rs ws ss).value) k v
  bound_means k v s b =
      rw b.1 at (value_means rs (matched rs ws ss).value k (bound_small k v b) (rw b.1 s))

  -- where the patterns match, the steps say what the claims are for the letters' values
  matched_says : T (matched rs ws ss).fits → map (claim_for (letters_of rs (matched rs ws ss).value)) ws
      ≡ map (says_of rs) ss
  matched_says t =
      let a : Agrees (Bound (matched rs ws ss)) (matched rs ws ss) = record {
        fits = t;
        sized = sized;
        values = λ k u. (u, refl);
      } in
      (claims_are built (letters_of rs (matched rs ws ss).value) ws ss sorts).0
      (claims_map rs (Bound (matched rs ws ss)) (Means rs (letters_of rs (matched rs ws ss).value)) bound_means
      (map claim_pattern ws) ss
      ((match_claims_iff (Bound (matched rs ws ss)) bound_small (λ k v w p q. sym p.1 ∙ q.1) rs
      (map claim_pattern ws) ss empty_match).0 a).1)

  -- where the steps say the claims for some letters, the patterns match
  said_matches : (e : Letters) → map (claim_for e) ws ≡ map (says_of rs) ss → T (matched rs ws ss).fits
  said_matches e q =
      ((match_claims_iff (Means rs e) (means_small rs e) (means_one built e) rs (map claim_pattern ws) ss empty_match).1
      (empty_agrees (Means rs e), (claims_are built e ws ss sorts).1 q)
      ).fits

module _ {rs : List Row} (built : Built rs) (n : ℕ) (s : Sides) (ss : List Sides) (sort : T (one_sort rs s))
    (sorts : Every (λ s. T (one_sort rs s)) ss) where
  -- the letters' values meet the conditions as the axes and tests do
  conditions_same : (cs : List Condition) (m : Match) → all_of (meets (numbers_in m.value)) cs
      ≡ all_of (meets (letters_of rs m.value)) cs
  conditions_same cs m = all_of_same (meets (numbers_in m.value)) (meets (letters_of rs m.value))
      (numbers_meet rs m) cs

  form_yields_lem : {w : Form} → Memᴰ w (forms_of n) → T (form_yields rs s ss (form_pattern w)) →
      FormYields n (says_of rs s) (map (says_of rs) ss)
  unfolding form_yields match_form form_pattern match_claims
  form_yields_lem {w} i t =
      let m : Match = matched rs (claim_forms w) (s ∷ ss) in
      let u = and_yes m.fits (all_of (meets (numbers_in m.value)) w.conditions) t in
      let q = matched_says built (claim_forms w) (s ∷ ss) (sort, sorts) u.0 in
      record {
        form = w;
        of_rule = i;
        letters = letters_of rs m.value;
        conditions = subst T (conditions_same w.conditions m) u.1;
        conclusion = head-eq_of_cons-eq q;
        premises = tail-eq_of_cons-eq q;
      }

  yields_form : (y : FormYields n (says_of rs s) (map (says_of rs) ss)) →
      T (form_yields rs s ss (form_pattern y.form))
  unfolding form_yields match_form form_pattern match_claims
  yields_form y =
      let w : Form = y.form in
      let m : Match = matched rs (claim_forms w) (s ∷ ss) in
      let q : map (claim_for y.letters) (claim_forms w) ≡ map (says_of rs) (s ∷ ss) = ap₂ ◌∷◌ y.conclusion
      y.premises in
      let f = said_matches built (claim_forms w) (s ∷ ss) (sort, sorts) y.letters q in
      let p = settled n y.of_rule y.letters (letters_of rs m.value)
      (q ∙ sym (matched_says built (claim_forms w) (s ∷ ss) (sort, sorts) f)) in
      yes_and m.fits (all_of (meets (numbers_in m.value)) w.conditions) f
      (subst T (p ∙ sym (conditions_same w.conditions m)) y.conditions)

any_of_map : {A B : Type 0} (f : B → Bool) (g : A → B) (xs : List A) → any_of f (map g xs) ≡ any_of (λ x. f (g x)) xs
unfolding any_of
any_of_map f g [] = refl
any_of_map f g (x ∷ xs) = ap (λ b. f (g x) || b) (any_of_map f g xs)

module _ {rs : List Row} (built : Built rs) (n : ℕ) (s : Sides) (ss : List Sides) (sort : T (one_sort rs s))
    (sorts : Every (λ s. T (one_sort rs s)) ss) where
  forms_yield_iff : T (forms_yield rs n s ss) ↔ FormYields n (says_of rs s) (map (says_of rs) ss)
  unfolding forms_yield
  forms_yield_iff =
      let q = any_of_map (form_yields rs s ss) form_pattern (forms_of n) in (
        λ t. let (w, i, u) = any_of_yes (λ w. form_yields rs s ss (form_pattern w)) (forms_of n)
            (subst T q t) in form_yields_lem built n s ss sort sorts i u,
        λ y. subst T (sym q) (yes_any_of (λ w. form_yields rs s ss (form_pattern w)) (forms_of n) y.of_rule
            (yields_form built n s ss sort sorts y)),
      )

module _ {rs : List Row} (built : Built rs) (n : ℕ) (s : Sides) (ss : List Sides) (sort : T (one_sort rs s)) where
  -- the rows of a step that the way back yields are paths
  paths_yield : T (held_path rs s.left) → T (held_path rs s.right) → n ≡ way_back_rule → ss ≡ [] →
      T (is_with_back rs s.left s.right) →
      WayBackYields n (says_of rs s) (map (says_of rs) ss)
  paths_yield l r e none t =
      let (w, back, q) = (with_back_iff built s.left s.right (held_path_lem rs s.left l)
      (held_path_lem rs s.right r)).0 t in
      record {
        rule = e;
        path = path_at rs s.left;
        back = w;
        is_way_back = back;
        conclusion = ap (Containment (path_at rs s.left)) q ∙ sym (says_paths rs s.left s.right l);
        premises = sym (ap (map (says_of rs)) none);
      }

  no_qualifiers : T (held_qualifier rs s.right) → ¬ (T (is_with_back rs s.left s.right))
  unfolding is_with_back
  no_qualifiers h t =
      let r = held_qualifier_lem rs s.right h in
      let u = simp facts at t in
      absurd (omega (arith, r.1.0, u.0.0.0))

  yields_paths : (y : WayBackYields n (says_of rs s) (map (says_of rs) ss)) → T (is_with_back rs s.left s.right)
  yields_paths y =
      ⊎_elim
      (λ (l, r).
      let c = y.conclusion ∙ says_paths rs s.left s.right l in
      let left : y.path ≡ path_at rs s.left = cc in
      let right : Filter y.path (some_of y.back) ≡ path_at rs s.right = cc in
      (with_back_iff built s.left s.right (held_path_lem rs s.left l) (held_path_lem rs s.right r)).1
      (y.back, sym (ap way_back left) ∙ y.is_way_back, sym (ap (λ p. Filter p (some_of y.back)) left) ∙ right))
      (λ (l, r).
      let c = y.conclusion ∙ says_qualifiers rs s.left s.right l in
      let z : ◌≡◌ {A = ℕ} 0 1 = cc in
      absurd (omega arith))
      (sort_of_lem rs s sort)

  none_said : (ts : List Sides) → [] ≡ map (says_of rs) ts → length ts ≡ 0
  none_said [] q = refl
  none_said (t ∷ ts) q = absurd (cons-ne-nil _ _ (sym q))

  way_back_iff : T (way_back_yields rs n s ss) ↔ WayBackYields n (says_of rs s) (map (says_of rs) ss)
  unfolding way_back_yields
  way_back_iff = (
    λ t.
        let (e, r) = and_yes (eqb n way_back_rule) (eqb (length ss) 0 && is_with_back rs s.left s.right) t in
        let (z, u) = and_yes (eqb (length ss) 0) (is_with_back rs s.left s.right) r in
        ⊎_elim
        (λ (l, r). paths_yield l r (eqb_yes e) (nil_from_length ss (eqb_yes z)) u)
        (λ (l, r). absurd (no_qualifiers r u))
        (sort_of_lem rs s sort),
    λ y.
        yes_and (eqb n way_back_rule) (eqb (length ss) 0 && is_with_back rs s.left s.right) (yes_eqb y.rule)
        (yes_and (eqb (length ss) 0) (is_with_back rs s.left s.right) (yes_eqb (none_said ss y.premises))
        (yields_paths y)),
  )

-- for a step whose rows are held and of one sort, from premises that are such steps too
pub row_yields_iff : {rs : List Row} → Built rs → (n : ℕ) (s : Sides) (ss : List Sides) → T (one_sort rs s)
    → Every (λ s. T (one_sort rs s)) ss →
    T (row_yields rs n s ss) ↔ Yields n (says_of rs s) (map (says_of rs) ss)
unfolding row_yields
row_yields_iff {rs} built n s ss sort sorts =
    or_via (forms_yield rs n s ss) (way_back_yields rs n s ss)
    (forms_yield_iff built n s ss sort sorts) (way_back_iff built n s ss sort)
