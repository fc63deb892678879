-- Steps that differ little from accepted ones and that their rules don't yield.
use Rattle.std.specs.Prelude.{ℕ, ◌+◌, refl, Bool, not, cond, ◌||◌, T, eqb}
use mathlib.Core.List.{List, [], ◌∷◌, ◌++◌, map, Memᴰ}
use Rattle.std.proofs.Common.{T_not}
use Rattle.common.specs.values.Expected.{◌is◌, AllRight}
use Rattle.common.specs.Axes.{self, child, parent, descendant, ancestor, descendant_or_self, ancestor_or_self}
use Rattle.common.specs.Axes.{following_sibling, preceding_sibling, following, preceding, attribute}
use Rattle.common.specs.NodeTests.{name_test, comment_test, instruction_test, target_test}
use Rattle.xpath.specs.Term.{Path, Qualifier, Void, Root, AxisStep, Union, Composition, Filter, True, False, Not, And}
use Rattle.xpath.specs.Term.{Or, In, some_of}
use Rattle.rules.specs.Claim.{Claim, Containment, Implication}
use Rattle.rules.specs.RuleTable.{rules}
use Rattle.common.specs.Lists.{all_of}
use Rattle.common.proofs.Entries.{all_of_yes}
use Rattle.rules.specs.Yields.{forms_in, forms_of}
use Rattle.rules.specs.private.RuleFits.{rule_fits, yes_yielded}
use Rattle.rules.specs.values.AcceptedSteps.{Sample, sample, p, q, r, s, f, g, h, ◌::N, ◌::M, ◌::star, ◌::node}
use Rattle.rules.specs.values.AcceptedSteps.{◌::text, ◌::instruction, ◌::target, ending_in_node, way_back_of}
use Rattle.rules.specs.values.AcceptedSteps.{step_back_of, p_back, q_back, accepted, sample_yielded, SampleYields}

-- the table has no rule before 1 and none after 58, and rule 50 has no form
pub no_forms : AllRight (forms_of 0 is [] ∷ forms_of 50 is [] ∷ forms_of 59 is [] ∷ [])
unfolding forms_of forms_in rules
no_forms = refl

-- rule 10 with an axis in place of b, ending in `*` and in node()
abbrev rule10_with : ℕ → List Sample
rule10_with b =
    sample 10 (Containment (Composition p (child ::N)) (Composition r (b ::M)))
    (Containment (child ::N) (b ::M) ∷ Containment p (Composition r (b ::star)) ∷ [])
    ∷ ending_in_node b
    ∷ []

unfoldable pub near_misses : List Sample
near_misses =
    -- a isn't below b
    sample 8 (Containment (descendant ::N) (child ::N)) []
    ∷ sample 8 (Containment (following_sibling ::N) (preceding_sibling ::N)) []
    ∷ sample 8 (Containment (attribute ::N) (child ::N)) []
    ∷ sample 8 (Containment (child ::N) (attribute ::N)) []
    ∷ sample 8 (Containment (attribute ::N) (descendant_or_self ::N)) []
    ∷ sample 8 (Containment (12 ::N) (12 ::N)) []
    -- N isn't below M
    ∷ sample 8 (Containment (child ::N) (descendant ::M)) []
    ∷ sample 8 (Containment (child ::star) (descendant ::N)) []
    ∷ sample 8 (Containment (child ::text) (descendant ::star)) []
    ∷ sample 8 (Containment (child ::node) (descendant ::star)) []
    ∷ sample 26 (Containment (Composition p (child ::N)) (Composition Root (descendant ::M))) []
    ∷ sample 26 (Containment (Composition p (child ::text)) (Composition Root (descendant ::star))) []
    -- another target, any instruction below a target, a name below a target of that number, a target below that name,
    -- and a target beside each other test
    ∷ sample 8 (Containment (child ::target) (AxisStep descendant target_test 12)) []
    ∷ sample 8 (Containment (child ::instruction) (descendant ::target)) []
    ∷ sample 8 (Containment (AxisStep child name_test 11) (descendant ::target)) []
    ∷ sample 8 (Containment (child ::target) (AxisStep descendant name_test 11)) []
    ∷ sample 8 (Containment (child ::target) (descendant ::star)) []
    ∷ sample 8 (Containment (child ::target) (descendant ::text)) []
    ∷ sample 8 (Containment (child ::target) (AxisStep descendant comment_test 0)) []
    ∷ sample 8 (Containment (child ::star) (descendant ::target)) []
    ∷ sample 8 (Containment (child ::node) (descendant ::target)) []
    ∷ sample 8 (Containment (child ::text) (descendant ::target)) []
    ∷ sample 8 (Containment (AxisStep child comment_test 0) (descendant ::target)) []
    ∷ sample 26
    (Containment (Composition p (child ::target)) (Composition Root (AxisStep descendant target_test 12))) []
    ∷ sample 26 (Containment (Composition p (child ::instruction)) (Composition Root (descendant ::target))) []
    ∷ sample 26 (Containment (Composition p (AxisStep child name_test 11)) (Composition Root (descendant ::target))) []
    ∷ sample 26 (Containment (Composition p (attribute ::target)) (Composition Root (descendant ::instruction))) []
    -- T is `*`, and N is neither a name nor `*`
    ∷ sample 22 (Implication (In (child ::star) Void) (In (descendant ::target) Void)) []
    ∷ sample 23 (Implication (In (parent ::star) Void) (In (ancestor ::target) Void)) []
    ∷ sample 22 (Implication (In (child ::star) Void) (In (descendant ::node) Void)) []
    ∷ sample 22 (Implication (In (child ::star) Void) (In (descendant ::text) Void)) []
    ∷ sample 23 (Implication (In (parent ::star) Void) (In (ancestor ::node) Void)) []
    ∷ sample 23 (Implication (In (parent ::star) Void) (In (ancestor ::text) Void)) []
    -- N is node()
    ∷ sample 26 (Containment (Composition p (child ::node)) (Composition Root (descendant ::node))) []
    -- a is the attribute axis
    ∷ sample 26 (Containment (Composition p (attribute ::N)) (Composition Root (descendant ::star))) []
    ∷ sample 26 (Containment (Composition p (attribute ::text)) (Composition Root (descendant ::text))) []
    ∷ sample 58 (Containment (Composition (attribute ::node) (self ::N)) (attribute ::N)) []
    ∷ sample 58 (Containment (attribute ::N) (Composition (attribute ::node) (self ::N))) []
    ∷ sample 58 (Containment (Composition (attribute ::node) (self ::node)) (attribute ::node)) []
    ∷ sample 58 (Containment (attribute ::node) (Composition (attribute ::node) (self ::node))) []
    ∷ sample 58 (Containment (Composition (attribute ::node) (self ::text)) (attribute ::text)) []
    ∷ sample 58 (Containment (attribute ::text) (Composition (attribute ::node) (self ::text))) []
    -- rule 50, which has no form, and the direction that rule 54 doesn't have
    ∷ sample 50 (Containment (Composition (Filter (parent ::N) f) (child ::M))
    (Filter (Union (Union (preceding_sibling ::M) (following_sibling ::M)) (self ::M))
    (some_of (Filter (parent ::N) f)))) []
    ∷ sample 50 (Containment (Filter (Union (Union (preceding_sibling ::M) (following_sibling ::M)) (self ::M))
    (some_of (Filter (parent ::N) f))) (Composition (Filter (parent ::N) f) (child ::M))) []
    ∷ sample 54
    (Containment (following ::N) (Composition (Composition (ancestor_or_self ::node) (following_sibling ::node))
    (descendant_or_self ::N))) []
    -- an axis letter has two values
    ∷ sample 10 (Containment (Composition p (self ::N)) (Composition r (descendant ::M)))
    (Containment (child ::N) (descendant ::M) ∷ Containment p (Composition r (descendant ::star)) ∷ [])
    ∷ sample 10 (Containment (Composition p (child ::N)) (Composition r (following ::M)))
    (Containment (child ::N) (descendant ::M) ∷ Containment p (Composition r (descendant ::star)) ∷ [])
    ∷ sample 10 (Containment (Composition p (child ::N)) (Composition r (descendant ::M)))
    (Containment (child ::N) (following ::M) ∷ Containment p (Composition r (descendant ::star)) ∷ [])
    ∷ sample 10 (Containment (Composition p (child ::N)) (Composition r (descendant ::M)))
    (Containment (child ::N) (descendant ::M) ∷ Containment p (Composition r (following ::star)) ∷ [])
    ∷ sample 58 (Containment (Composition (preceding ::node) (self ::N)) (following ::N)) []
    ∷ sample 58 (Containment (following ::N) (Composition (preceding ::node) (self ::N))) []
    -- a test letter has two tests
    ∷ sample 52 (Containment (descendant_or_self ::star) (Union (descendant ::node) (self ::star))) []
    ∷ sample 58 (Containment (Composition (preceding ::node) (self ::text)) (preceding ::star)) []
    -- another test in place of `*` or node()
    ∷ sample 10 (Containment (Composition p (child ::N)) (Composition r (descendant ::M)))
    (Containment (child ::N) (descendant ::M) ∷ Containment p (Composition r (descendant ::text)) ∷ [])
    ∷ sample 10 (Containment (Composition p (child ::N)) (Composition r (descendant ::M)))
    (Containment (child ::N) (descendant ::M) ∷ Containment p (Composition r (AxisStep descendant comment_test 0)) ∷ [])
    ∷ sample 10 (Containment (Composition p (child ::N)) (Composition r (descendant ::M)))
    (Containment (child ::N) (descendant ::M) ∷ Containment p (Composition r (AxisStep descendant instruction_test 0))
    ∷ [])
    ∷ sample 10 (Containment (Composition p (child ::N)) (Composition r (descendant ::M)))
    (Containment (child ::N) (descendant ::M) ∷ Containment p (Composition r (descendant ::target)) ∷ [])
    ∷ sample 10 (Containment (Composition p (child ::N)) (Composition r (descendant ::M)))
    (Containment (child ::N) (descendant ::M) ∷ Containment p (Composition r (descendant ::M)) ∷ [])
    ∷ sample 10 (Containment (Composition p (child ::N)) (Composition r (descendant ::M)))
    (Containment (child ::N) (descendant ::M) ∷ Containment p (Composition r (following ::node)) ∷ [])
    ∷ sample 22 (Implication (In (child ::N) Void) (In (descendant ::N) Void)) []
    ∷ sample 23 (Implication (In (parent ::N) Void) (In (ancestor ::N) Void)) []
    ∷ sample 28 (Containment (Composition (self ::star) p) p) []
    ∷ sample 29 (Containment (Composition p (self ::star)) p) []
    ∷ sample 54 (Containment (Composition (Composition (ancestor_or_self ::star) (following_sibling ::node))
    (descendant_or_self ::N)) (following ::N)) []
    ∷ sample 54 (Containment (Composition (Composition (ancestor_or_self ::node) (following_sibling ::star))
    (descendant_or_self ::N)) (following ::N)) []
    ∷ sample 55
    (Containment (preceding ::N) (Composition (Composition (ancestor_or_self ::star) (preceding_sibling ::node))
    (descendant_or_self ::N))) []
    ∷ sample 55
    (Containment (preceding ::N) (Composition (Composition (ancestor_or_self ::node) (preceding_sibling ::star))
    (descendant_or_self ::N))) []
    ∷ sample 57 (Containment Root (ancestor_or_self ::star)) []
    ∷ sample 58 (Containment (Composition (preceding ::star) (self ::N)) (preceding ::N)) []
    -- the other direction
    ∷ sample 1 (Containment p Void) []
    ∷ sample 4 (Containment (Union q r) p) (Containment q p ∷ [])
    ∷ sample 8 (Containment (descendant ::star) (child ::N)) []
    ∷ sample 12 (Implication (In p q) (In r s)) (Containment p r ∷ Containment q s ∷ [])
    ∷ sample 13 (Implication (Not f) (Not g)) (Implication f g ∷ [])
    ∷ sample 14 (Implication True f) []
    ∷ sample 15 (Implication f False) []
    ∷ sample 22 (Implication (In (descendant ::text) Void) (In (child ::node) Void)) []
    ∷ sample 23 (Implication (In (ancestor ::text) Void) (In (parent ::node) Void)) []
    ∷ sample 24 (Containment Void p) (Implication True (In p Void) ∷ [])
    ∷ sample 26 (Containment (Composition Root (descendant ::star)) (Composition p (preceding ::N))) []
    ∷ sample 51 (Containment (Filter (descendant ::M) (some_of (Filter (parent ::N) f)))
    (Composition (Filter (descendant ::N) f) (child ::M))) []
    ∷ sample 56 (Containment Root (Composition p Root)) []
    ∷ sample 57 (Containment (ancestor_or_self ::node) Root) []
    -- the premise of the neighbouring rule
    ∷ sample 4 (Containment p (Union q r)) (Containment p r ∷ [])
    ∷ sample 5 (Containment p (Union q r)) (Containment p q ∷ [])
    ∷ sample 7 (Containment (Composition p q) (Composition r s)) (Containment (Filter p (some_of q)) r ∷ Containment q s
    ∷ [])
    ∷ sample 11 (Containment (Composition p q) (Composition r s)) (Containment p r ∷ Containment q s ∷ [])
    ∷ sample 16 (Implication (And f g) h) (Implication f h ∷ [])
    ∷ sample 17 (Implication (And f g) h) (Implication g h ∷ [])
    ∷ sample 19 (Implication f (Or g h)) (Implication f h ∷ [])
    ∷ sample 20 (Implication f (Or g h)) (Implication f g ∷ [])
    -- 000's g2b
    ∷ sample 25 (Containment (Filter p (And True True)) Void) (Implication (Not True) True ∷ [])
    -- premises of the other sort
    ∷ sample 3 (Implication f h) (Containment p q ∷ Containment q r ∷ [])
    ∷ sample 3 (Containment p r) (Implication f g ∷ Implication g h ∷ [])
    -- grouped otherwise
    ∷ sample 36 (Containment (Composition (Composition p q) r) (Composition (Composition p q) r)) []
    ∷ sample 37 (Containment (Filter (Composition p q) f) (Filter (Composition p q) f)) []
    ∷ sample 54
    (Containment (Composition (ancestor_or_self ::node)
    (Composition (following_sibling ::node) (descendant_or_self ::N))) (following ::N)) []
    ∷ sample 55
    (Containment (preceding ::N) (Composition (ancestor_or_self ::node)
    (Composition (preceding_sibling ::node) (descendant_or_self ::N)))) []
    -- paths that have no way back: the other axes, root, void, and what is built from them
    ∷ step_back_of parent child
    ∷ step_back_of ancestor descendant
    ∷ step_back_of ancestor_or_self descendant_or_self
    ∷ step_back_of following preceding
    ∷ step_back_of preceding following
    ∷ step_back_of attribute parent
    ∷ step_back_of attribute attribute
    ∷ step_back_of 12 12
    ∷ way_back_of Root (self ::node)
    ∷ way_back_of Root (descendant_or_self ::node)
    ∷ way_back_of Void Void
    ∷ way_back_of Void (self ::node)
    ∷ way_back_of (Composition p Root) (Composition Root p_back)
    ∷ way_back_of (Union p Void) (Union p_back Void)
    ∷ way_back_of (Union p Void) p_back
    ∷ way_back_of (Filter (following ::N) f)
    (Composition (Filter (self ::node) f) (Composition (self ::N) (preceding ::node)))
    -- another axis than the opposite one, its test not node(), the test of the step left out
    ∷ step_back_of child child
    ∷ step_back_of child ancestor
    ∷ step_back_of descendant parent
    ∷ step_back_of descendant ancestor_or_self
    ∷ step_back_of descendant_or_self ancestor
    ∷ step_back_of following_sibling following_sibling
    ∷ step_back_of following_sibling preceding
    ∷ way_back_of p (Composition (AxisStep self name_test 1) (parent ::star))
    ∷ way_back_of p (parent ::node)
    ∷ way_back_of p (Composition (self ::node) (parent ::node))
    ∷ way_back_of p (Composition (self ::star) (parent ::node))
    ∷ way_back_of (self ::N) (self ::N)
    -- the order of p and q kept; a union swapped; a filter left out, last, or on p; grouped otherwise
    ∷ way_back_of (Composition p q) (Composition p_back q_back)
    ∷ way_back_of (Union p q) (Union q_back p_back)
    ∷ way_back_of (Union p q) (Composition p_back q_back)
    ∷ way_back_of (Filter p f) p_back
    ∷ way_back_of (Filter p f) (Composition (Filter (self ::star) f) p_back)
    ∷ way_back_of (Filter p f) (Composition p_back (Filter (self ::node) f))
    ∷ way_back_of (Filter p f) (Filter p_back f)
    ∷ way_back_of (Filter p f) (Composition (Filter (self ::node) g) p_back)
    ∷ way_back_of (Composition (Composition p q) p) (Composition (Composition p_back q_back) p_back)
    -- another path, no filter, another filter, the other direction
    ∷ sample 59 (Containment p (Filter q (some_of p_back))) []
    ∷ sample 59 (Containment p p) []
    ∷ sample 59 (Containment p (Filter p (In p_back Void))) []
    ∷ sample 59 (Containment p (Filter p (Not (In p_back p_back)))) []
    ∷ sample 59 (Containment (Filter p (some_of p_back)) p) []
    ∷ sample 59 (Implication f f) []
    ∷ sample 58 (Containment p (Filter p (some_of p_back))) []
    ∷ sample 60 (Containment p (Filter p (some_of p_back))) []
    -- b isn't from 3 to 10
    ∷ (rule10_with parent ++ rule10_with child ++ rule10_with self ++ rule10_with attribute)

abbrev pub sample_refused : Sample → Bool
sample_refused x = not (sample_yielded x)

refused : (x : Sample) → T (sample_refused x) → ¬ (SampleYields x)
refused x t y = T_not (sample_yielded x) t (yes_yielded x.rule x.claim x.premises y)

pub near_misses_refused : {x : Sample} → Memᴰ x near_misses → ¬ (SampleYields x)
unfolding near_misses all_of rule_fits
near_misses_refused {x} m = refused x (all_of_yes sample_refused near_misses tt m)

-- Premises missing, one too many, or in the other order.

unfoldable pub other_premises : List Claim → List (List Claim)
other_premises [] = (Containment p p ∷ []) ∷ []
other_premises (c ∷ []) = [] ∷ (c ∷ c ∷ []) ∷ []
other_premises (c ∷ d ∷ cs) = [] ∷ (c ∷ []) ∷ (d ∷ []) ∷ (d ∷ c ∷ []) ∷ (c ∷ d ∷ d ∷ []) ∷ []

unfoldable pub with_other_premises : Sample → List Sample
with_other_premises x = map (λ cs. sample x.rule x.claim cs) (other_premises x.premises)

pub other_premises_refused : {x : Sample} → Memᴰ x accepted → {y : Sample} → Memᴰ y (with_other_premises x)
    → ¬ (SampleYields y)
unfolding accepted with_other_premises other_premises all_of rule_fits
other_premises_refused {x} m {y} k =
    refused y (all_of_yes sample_refused (with_other_premises x)
    (all_of_yes (λ x. all_of sample_refused (with_other_premises x)) accepted tt m) k)

-- A letter with two values: another name in place of one name or target.

-- a name that no accepted step has
abbrev pub other_name : ℕ
other_name = 10

-- e becomes k e, beside the name that was replaced in it
abbrev pub inside : {A B : Type 0} → (A → B) → List (ℕ × A) → List (ℕ × B)
inside k es = map (λ e. (e.0, k e.1)) es

unfoldable mutual
  pub renamings : Path → List (ℕ × Path)
  renamings Void = []
  renamings Root = []
  renamings (AxisStep a t c) = cond (eqb t name_test || eqb t target_test) ((c, AxisStep a t other_name) ∷ []) []
  renamings (Union x y) = inside (λ x. Union x y) (renamings x) ++ inside (Union x) (renamings y)
  renamings (Composition x y) = inside (λ x. Composition x y) (renamings x) ++ inside (Composition x) (renamings y)
  renamings (Filter x y) = inside (λ x. Filter x y) (renamings x) ++ inside (Filter x) (qualifier_renamings y)

  pub qualifier_renamings : Qualifier → List (ℕ × Qualifier)
  qualifier_renamings True = []
  qualifier_renamings False = []
  qualifier_renamings (Not x) = inside Not (qualifier_renamings x)
  qualifier_renamings (And x y) = inside (λ x. And x y) (qualifier_renamings x)
      ++ inside (And x) (qualifier_renamings y)
  qualifier_renamings (Or x y) = inside (λ x. Or x y) (qualifier_renamings x) ++ inside (Or x) (qualifier_renamings y)
  qualifier_renamings (In x y) = inside (λ x. In x y) (renamings x) ++ inside (In x) (renamings y)

unfoldable pub claim_renamings : Claim → List (ℕ × Claim)
claim_renamings (Containment x y) = inside (λ x. Containment x y) (renamings x) ++ inside (Containment x) (renamings y)
claim_renamings (Implication x y) = inside (λ x. Implication x y) (qualifier_renamings x) ++ inside (Implication x)
    (qualifier_renamings y)

unfoldable pub premise_renamings : List Claim → List (ℕ × List Claim)
premise_renamings [] = []
premise_renamings (c ∷ cs) = inside (λ c. c ∷ cs) (claim_renamings c) ++ inside (λ cs. c ∷ cs) (premise_renamings cs)

unfoldable pub sample_renamings : Sample → List (ℕ × Sample)
sample_renamings x =
    inside (λ c. sample x.rule c x.premises) (claim_renamings x.claim)
    ++ inside (λ cs. sample x.rule x.claim cs) (premise_renamings x.premises)

-- how often n is replaced
unfoldable pub occurrences : {A : Type 0} → ℕ → List (ℕ × A) → ℕ
occurrences n [] = 0
occurrences n (e ∷ es) = cond (eqb e.0 n) 1 0 + occurrences n es

-- the step with another name is yielded just where the name stood nowhere else in it
unfoldable pub letters_compared : Sample → Bool
letters_compared x =
    all_of (λ e. cond (eqb (occurrences e.0 (sample_renamings x)) 1) (sample_yielded e.1) (sample_refused e.1))
    (sample_renamings x)

pub letters_compared_lem : T (all_of letters_compared accepted)
unfolding letters_compared occurrences sample_renamings premise_renamings claim_renamings renamings accepted all_of
    rule_fits
letters_compared_lem = tt
