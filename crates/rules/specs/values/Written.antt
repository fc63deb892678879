-- The rule table once more, as terms, for every choice of the letters, and the conditions' values.
use Rattle.std.specs.Prelude.{ℕ, ◌≡◌, Bool, true, false, not, ◌&&◌, ◌||◌, List, [], ◌∷◌, ◌++◌, map, leb, eqb}
use Rattle.std.proofs.Math.Path.{refl}
use Rattle.common.specs.Bounded.{list_below}
use Rattle.common.specs.Axes.{self, child, parent, descendant, ancestor, descendant_or_self, ancestor_or_self}
use Rattle.common.specs.Axes.{following_sibling, preceding_sibling, following, preceding}
use Rattle.xpath.specs.Term.{Path, Void, Root, AxisStep, Union, Composition, Filter}
use Rattle.xpath.specs.Term.{Qualifier, True, False, Not, And, Or, In}
use Rattle.rules.specs.Order.{axis_pairs, is_pair, axis_below, test_below}
use Rattle.rules.specs.Form.{PathLetter, QualifierLetter, AxisLetter, TestLetter, Form, Condition}
use Rattle.rules.specs.Form.{a_below_b, N_below_M, b_from_3_to_10, N_a_name_or_star, N_not_node, a_not_attribute}
use Rattle.rules.specs.RuleTable.{rules}
use Rattle.rules.specs.Claim.{Claim, Containment, Implication}
use Rattle.rules.specs.Instance.{Test, Letters, axis_for, test_for, path_for, claim_for, meets}
use Rattle.rules.specs.Yields.{forms_in, forms_of}
use Rattle.rules.specs.private.RuleFits.{some_form_fits}

-- what a form of a rule says for a choice of the letters: its conclusion, its premises in order, its conditions
pub record Said : Type 0 where
  pub conclusion : Claim
  pub premises : List Claim
  pub conditions : List Condition

-- a rule's number, and what each of its forms says
pub record RuleSaid : Type 0 where
  pub number : ℕ
  pub forms : List Said

abbrev form_said : Letters → Form → Said
form_said e w =
    record {
      conclusion = claim_for e w.conclusion;
      premises = map (claim_for e) w.premises;
      conditions = w.conditions;
    }

-- rule n, as a step call finds it
abbrev rule_said : Letters → ℕ → RuleSaid
rule_said e n = record { number = n; forms = map (form_said e) (forms_of n) }

infix 79 ◌<=◌ ◌=>◌ ◌≐◌ ◌⇔◌
infixl 66 ◌from◌ ◌if◌
infix 60 ◌▸◌
-- containment, implication
abbrev ◌<=◌ : Path → Path → Claim
x <= y = Containment x y

abbrev ◌=>◌ : Qualifier → Qualifier → Claim
x => y = Implication x y

abbrev ◌▸◌ : ℕ → List Said → RuleSaid
n ▸ ws = record { number = n; forms = ws }

-- one form
abbrev ◌from◌ : Claim → List Claim → List Said
c from cs = record { conclusion = c; premises = cs; conditions = [] } ∷ []

abbrev ◌if◌ : List Said → List Condition → List Said
ws if ts = map (λ w. record { conclusion = w.conclusion; premises = w.premises; conditions = ts }) ws

-- `=` of paths and of qualifiers, used from either side
abbrev ◌≐◌ : Path → Path → List Said
x ≐ y = x <= y from [] ++ y <= x from []

abbrev ◌⇔◌ : Qualifier → Qualifier → List Said
x ⇔ y = x => y from [] ++ y => x from []

-- "some x"
abbrev some_of : Path → Qualifier
some_of x = Not (In x Void)

infix 90 ◌::star ◌::node
abbrev ◌::star : ℕ → Path
x ::star = AxisStep x 1 0

abbrev ◌::node : ℕ → Path
x ::node = AxisStep x 2 0

module _ (e : Letters) where
  abbrev p : Path
  p = e.path PathLetter.p

  abbrev q : Path
  q = e.path PathLetter.q

  abbrev r : Path
  r = e.path PathLetter.r

  abbrev s : Path
  s = e.path PathLetter.s

  abbrev f : Qualifier
  f = e.qualifier QualifierLetter.f

  abbrev g : Qualifier
  g = e.qualifier QualifierLetter.g

  abbrev h : Qualifier
  h = e.qualifier QualifierLetter.h

  abbrev a : ℕ
  a = e.axis AxisLetter.a

  abbrev b : ℕ
  b = e.axis AxisLetter.b

  infix 90 ◌::N ◌::M
  -- a test with its name
  abbrev ◌::N : ℕ → Path
  x ::N = AxisStep x (e.test TestLetter.N).test (e.test TestLetter.N).name

  abbrev ◌::M : ℕ → Path
  x ::M = AxisStep x (e.test TestLetter.M).test (e.test TestLetter.M).name

  pub rules_as_written :
      map (rule_said e) (list_below 59 (leb 1))
      ≡ (1 ▸ Void <= p from [])
      ∷ (2 ▸ p <= p from [] ++ f => f from [])
      ∷ (3 ▸ p <= r from p <= q ∷ q <= r ∷ [] ++ f => h from f => g ∷ g => h ∷ [])
      ∷ (4 ▸ p <= Union q r from p <= q ∷ [])
      ∷ (5 ▸ p <= Union q r from p <= r ∷ [])
      ∷ (6 ▸ Union p q <= r from p <= r ∷ q <= r ∷ [])
      ∷ (7 ▸ Composition p q <= Composition r s from p <= r ∷ q <= s ∷ [])
      ∷ (8 ▸ a ::N <= b ::M from [] if a_below_b ∷ N_below_M ∷ [])
      ∷ (9 ▸ Filter p f <= Filter r g from p <= r ∷ f => g ∷ [])
      -- the second premise ends in `*` or in node()
      ∷ (10 ▸ Composition p (a ::N) <= Composition r (b ::M)
      from a ::N <= b ::M ∷ p <= Composition r (b ::star) ∷ [] if b_from_3_to_10 ∷ []
      ++ Composition p (a ::N) <= Composition r (b ::M)
      from a ::N <= b ::M ∷ p <= Composition r (b ::node) ∷ [] if b_from_3_to_10 ∷ [])
      ∷ (11 ▸ Composition p q <= Composition r s from Filter p (some_of q) <= r ∷ q <= s ∷ [])
      ∷ (12 ▸ In p q => In r s from r <= p ∷ q <= s ∷ [])
      ∷ (13 ▸ Not f => Not g from g => f ∷ [])
      ∷ (14 ▸ f => True from [])
      ∷ (15 ▸ False => f from [])
      ∷ (16 ▸ And f g => h from g => h ∷ [])
      ∷ (17 ▸ And f g => h from f => h ∷ [])
      ∷ (18 ▸ f => And g h from f => g ∷ f => h ∷ [])
      ∷ (19 ▸ f => Or g h from f => g ∷ [])
      ∷ (20 ▸ f => Or g h from f => h ∷ [])
      ∷ (21 ▸ Or f g => h from f => h ∷ g => h ∷ [])
      -- T is node(), or T is `*` and N a name or `*`
      ∷ (22 ▸ In (child ::node) Void => In (descendant ::N) Void from []
      ++ In (child ::star) Void => In (descendant ::N) Void from [] if N_a_name_or_star ∷ [])
      ∷ (23 ▸ In (parent ::node) Void => In (ancestor ::N) Void from []
      ++ In (parent ::star) Void => In (ancestor ::N) Void from [] if N_a_name_or_star ∷ [])
      ∷ (24 ▸ p <= Void from True => In p Void ∷ [])
      ∷ (25 ▸ Filter p (And f g) <= Void from f => Not g ∷ [])
      ∷ (26 ▸ Composition p (a ::N) <= Composition Root (descendant ::M)
      from [] if N_below_M ∷ N_not_node ∷ a_not_attribute ∷ [])
      ∷ (27 ▸ p ≐ Filter p True)
      ∷ (28 ▸ p ≐ Composition (self ::node) p)
      ∷ (29 ▸ p ≐ Composition p (self ::node))
      ∷ (30 ▸ Filter p False ≐ Void)
      ∷ (31 ▸ Filter (Filter p f) g ≐ Filter p (And f g))
      ∷ (32 ▸ Union (Filter p f) (Filter p g) ≐ Filter p (Or f g))
      ∷ (33 ▸ Composition (Union p q) r ≐ Union (Composition p r) (Composition q r))
      ∷ (34 ▸ Composition p (Union q r) ≐ Union (Composition p q) (Composition p r))
      ∷ (35 ▸ Filter (Union p q) f ≐ Union (Filter p f) (Filter q f))
      ∷ (36 ▸ Composition (Composition p q) r ≐ Composition p (Composition q r))
      ∷ (37 ▸ Filter (Composition p q) f ≐ Composition p (Filter q f))
      ∷ (38 ▸ In (Composition p q) Void ⇔ In (Filter p (some_of q)) Void)
      ∷ (39 ▸ Not (And f g) ⇔ Or (Not f) (Not g))
      ∷ (40 ▸ Not (Or f g) ⇔ And (Not f) (Not g))
      ∷ (41 ▸ And f (Or g h) ⇔ Or (And f g) (And f h))
      ∷ (42 ▸ Or f (And g h) ⇔ And (Or f g) (Or f h))
      ∷ (43 ▸ Not (Not f) ⇔ f)
      ∷ (44 ▸ Not True ⇔ False)
      ∷ (45 ▸ Not False ⇔ True)
      ∷ (46 ▸ In (Union p q) r ⇔ And (In p r) (In q r))
      ∷ (47 ▸ And f (Not f) ⇔ False)
      ∷ (48 ▸ Composition (Filter (child ::N) f) (parent ::M) ≐ Filter (self ::M) (some_of (Filter (child ::N) f)))
      ∷ (49 ▸ Composition (Filter (descendant ::N) f) (parent ::M)
      ≐ Filter (descendant_or_self ::M) (some_of (Filter (child ::N) f)))
      -- it has no form
      ∷ (50 ▸ [])
      ∷ (51 ▸ Composition (Filter (descendant ::N) f) (child ::M)
      <= Filter (descendant ::M) (some_of (Filter (parent ::N) f)) from [])
      ∷ (52 ▸ descendant_or_self ::N ≐ Union (descendant ::N) (self ::N))
      ∷ (53 ▸ ancestor_or_self ::N ≐ Union (ancestor ::N) (self ::N))
      -- with following::N on the right alone
      ∷ (54 ▸ Composition (Composition (ancestor_or_self ::node) (following_sibling ::node)) (descendant_or_self ::N)
      <= following ::N from [])
      ∷ (55 ▸ preceding ::N
      ≐ Composition (Composition (ancestor_or_self ::node) (preceding_sibling ::node)) (descendant_or_self ::N))
      ∷ (56 ▸ Composition p Root <= Root from [])
      ∷ (57 ▸ Root <= ancestor_or_self ::node from [])
      ∷ (58 ▸ Composition (a ::node) (self ::N) ≐ a ::N if a_not_attribute ∷ [])
      ∷ []
  unfolding list_below forms_of forms_in rules claim_for path_for axis_for test_for
  rules_as_written = refl

-- Rules 22 and 23 have two forms, of which the second alone has a condition. The signs above are the table's own, and
-- would put it on both forms here where they do so there; what follows names the condition of each form.
pub conditions_of_22 : map (λ w. w.conditions) (forms_of 22) ≡ [] ∷ (N_a_name_or_star ∷ []) ∷ []
unfolding forms_of forms_in rules
conditions_of_22 = refl

pub conditions_of_23 : map (λ w. w.conditions) (forms_of 23) ≡ [] ∷ (N_a_name_or_star ∷ []) ∷ []
unfolding forms_of forms_in rules
conditions_of_23 = refl

-- and of both of rule 10's
pub conditions_of_10 : map (λ w. w.conditions) (forms_of 10) ≡ (b_from_3_to_10 ∷ []) ∷ (b_from_3_to_10 ∷ []) ∷ []
unfolding forms_of forms_in rules
conditions_of_10 = refl

-- the tests t for which rule n yields, from no premise, that far::t with the name c selects nothing where
-- near::T selects nothing
abbrev tests_yielded : (n : ℕ) → (near far : ℕ) → (T c : ℕ) → List ℕ
tests_yielded n near far T c =
    list_below 8 (λ t. some_form_fits n (Implication (In (AxisStep near T 0) Void) (In (AxisStep far t c) Void)) [])

-- rule 22, where T is node(): any test; where T is `*`: a name or `*`; where it is text(): none
pub node_of_22_takes_any_test : tests_yielded 22 child descendant 2 9 ≡ 0 ∷ 1 ∷ 2 ∷ 3 ∷ 4 ∷ 5 ∷ 6 ∷ 7 ∷ []
unfolding list_below some_form_fits
node_of_22_takes_any_test = refl

pub star_of_22_takes_a_name_or_star : tests_yielded 22 child descendant 1 9 ≡ 0 ∷ 1 ∷ []
unfolding list_below some_form_fits
star_of_22_takes_a_name_or_star = refl

pub text_of_22_takes_none : tests_yielded 22 child descendant 3 9 ≡ []
unfolding list_below some_form_fits
text_of_22_takes_none = refl

-- and rule 23
pub node_of_23_takes_any_test : tests_yielded 23 parent ancestor 2 9 ≡ 0 ∷ 1 ∷ 2 ∷ 3 ∷ 4 ∷ 5 ∷ 6 ∷ 7 ∷ []
unfolding list_below some_form_fits
node_of_23_takes_any_test = refl

pub star_of_23_takes_a_name_or_star : tests_yielded 23 parent ancestor 1 9 ≡ 0 ∷ 1 ∷ []
unfolding list_below some_form_fits
star_of_23_takes_a_name_or_star = refl

pub text_of_23_takes_none : tests_yielded 23 parent ancestor 3 9 ≡ []
unfolding list_below some_form_fits
text_of_23_takes_none = refl

-- The conditions, for every choice of the letters that they don't speak of: their values on the axes 0 to 11 and on
-- 12, which is none, and on the tests 0 to 6 with every name and on 7, which is none.

abbrev with_axes : Letters → (a b : ℕ) → Letters
with_axes e a b = record { path = e.path; qualifier = e.qualifier; axis = axes; test = e.test }
  where
    axes : AxisLetter → ℕ
    axes AxisLetter.a = a
    axes AxisLetter.b = b

abbrev with_tests : Letters → (N M : Test) → Letters
with_tests e N M = record { path = e.path; qualifier = e.qualifier; axis = e.axis; test = tests }
  where
    tests : TestLetter → Test
    tests TestLetter.N = N
    tests TestLetter.M = M

infix 70 ◌named◌
abbrev ◌named◌ : ℕ → ℕ → Test
t named c = record { test = t; name = c }

or_none : (x : Bool) → (x || false || false || false) ≡ x
or_none true = refl
or_none false = refl

-- N is below M
abbrev is_below : Letters → (N M : Test) → Bool
is_below e N M = meets (with_tests e N M) N_below_M

module _ (e : Letters) where
  -- for each a, each b that it is below
  pub a_below_b_met :
      map (λ a. list_below 13 (λ b. meets (with_axes e a b) a_below_b)) (list_below 13 (λ a. true))
      ≡ (0 ∷ 5 ∷ 6 ∷ []) ∷ (1 ∷ 3 ∷ 5 ∷ []) ∷ (2 ∷ 4 ∷ 6 ∷ []) ∷ (3 ∷ 5 ∷ []) ∷ (4 ∷ 6 ∷ []) ∷ (5 ∷ []) ∷ (6 ∷ [])
      ∷ (7 ∷ 9 ∷ []) ∷ (8 ∷ 10 ∷ []) ∷ (9 ∷ []) ∷ (10 ∷ []) ∷ (11 ∷ []) ∷ [] ∷ []
  unfolding list_below meets axis_below is_pair axis_pairs
  a_below_b_met = refl

  pub b_from_3_to_10_met : (a : ℕ)
      → list_below 13 (λ b. meets (with_axes e a b) b_from_3_to_10) ≡ 3 ∷ 4 ∷ 5 ∷ 6 ∷ 7 ∷ 8 ∷ 9 ∷ 10 ∷ []
  unfolding list_below meets
  b_from_3_to_10_met a = refl

  pub a_not_attribute_met : (b : ℕ)
      → list_below 13 (λ a. meets (with_axes e a b) a_not_attribute)
      ≡ 0 ∷ 1 ∷ 2 ∷ 3 ∷ 4 ∷ 5 ∷ 6 ∷ 7 ∷ 8 ∷ 9 ∷ 10 ∷ 12 ∷ []
  unfolding list_below meets
  a_not_attribute_met b = refl

  pub N_a_name_or_star_met : (c : ℕ) (M : Test)
      → list_below 8 (λ t. meets (with_tests e (t named c) M) N_a_name_or_star) ≡ 0 ∷ 1 ∷ []
  unfolding list_below meets
  N_a_name_or_star_met c M = refl

  pub N_not_node_met : (c : ℕ) (M : Test)
      → list_below 8 (λ t. meets (with_tests e (t named c) M) N_not_node) ≡ 0 ∷ 1 ∷ 3 ∷ 4 ∷ 5 ∷ 6 ∷ 7 ∷ []
  unfolding list_below meets
  N_not_node_met c M = refl

  -- a name is below itself and no other
  pub names_below_names : (c k : ℕ) → is_below e (0 named c) (0 named k) ≡ eqb c k
  unfolding meets test_below
  names_below_names c k = or_none (eqb c k)

  -- a target too
  pub targets_below_targets : (c k : ℕ) → is_below e (6 named c) (6 named k) ≡ eqb c k
  unfolding meets test_below
  targets_below_targets c k = or_none (eqb c k)

  -- and neither is below the other
  pub names_and_targets : (c k : ℕ)
      → is_below e (0 named c) (6 named k) ∷ is_below e (6 named c) (0 named k) ∷ [] ≡ false ∷ false ∷ []
  unfolding meets test_below
  names_and_targets c k = refl

  -- the tests above a name, but names
  pub tests_above_names : (c : ℕ)
      → list_below 8 (λ u. leb 1 u && is_below e (0 named c) (u named 0)) ≡ 1 ∷ 2 ∷ []
  unfolding list_below meets test_below
  tests_above_names c = refl

  -- the tests below a name, but names
  pub tests_below_names : (c : ℕ) → list_below 8 (λ t. leb 1 t && is_below e (t named 0) (0 named c)) ≡ []
  unfolding list_below meets test_below
  tests_below_names c = refl

  -- the tests above a target, but targets: node() and any instruction
  pub tests_above_targets : (c : ℕ)
      → list_below 8 (λ u. not (eqb u 6) && is_below e (6 named c) (u named 0)) ≡ 2 ∷ 5 ∷ []
  unfolding list_below meets test_below
  tests_above_targets c = refl

  -- the tests below a target, but targets
  pub tests_below_targets : (c : ℕ)
      → list_below 8 (λ t. not (eqb t 6) && is_below e (t named 0) (6 named c)) ≡ []
  unfolding list_below meets test_below
  tests_below_targets c = refl

  -- for each test from 1, the tests from 1 that it is below
  pub tests_above_tests :
      map (λ t. list_below 8 (λ u. leb 1 u && is_below e (t named 0) (u named 0))) (list_below 8 (leb 1))
      ≡ (1 ∷ 2 ∷ []) ∷ (2 ∷ []) ∷ (2 ∷ 3 ∷ []) ∷ (2 ∷ 4 ∷ []) ∷ (2 ∷ 5 ∷ []) ∷ (2 ∷ 5 ∷ 6 ∷ []) ∷ (2 ∷ 7 ∷ []) ∷ []
  unfolding list_below meets test_below
  tests_above_tests = refl
