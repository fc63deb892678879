-- Steps that the rules yield: at least one for each form of each rule, in each direction.
use Rattle.std.specs.Prelude.{ℕ, Bool, ◌&&◌, T, eqb}
use mathlib.Core.List.{List, [], ◌∷◌, ◌++◌, map, Memᴰ}
use Rattle.common.specs.Axes.{self, child, parent, descendant, ancestor, descendant_or_self, ancestor_or_self}
use Rattle.common.specs.Axes.{following_sibling, preceding_sibling, following, preceding, attribute}
use Rattle.common.specs.NodeTests.{name_test, star_test, node_test, text_test, instruction_test, target_test}
use Rattle.xpath.specs.Term.{Path, Qualifier, Void, Root, AxisStep, Union, Composition, Filter, True, False, Not, And}
use Rattle.xpath.specs.Term.{Or, In, some_of}
use Rattle.rules.specs.Claim.{Claim, Containment, Implication}
use Rattle.common.specs.Lists.{all_of, any_of}
use Rattle.common.proofs.Entries.{all_of_yes}
use Rattle.rules.specs.RuleTable.{rules}
use Rattle.rules.specs.Yields.{Yields}
use Rattle.rules.specs.private.RuleFits.{fits, some_form_fits, rule_fits, yielded_yes}

-- a rule, what a step says, and what its premises say
pub record Sample : Type 0 where
  pub rule : ℕ
  pub claim : Claim
  pub premises : List Claim

abbrev pub sample : ℕ → Claim → List Claim → Sample
sample n c cs = record { rule = n; claim = c; premises = cs }

-- both directions of an equation
abbrev pub containments : ℕ → Path → Path → List Sample
containments n x y = sample n (Containment x y) [] ∷ sample n (Containment y x) [] ∷ []

abbrev pub implications : ℕ → Qualifier → Qualifier → List Sample
implications n x y = sample n (Implication x y) [] ∷ sample n (Implication y x) [] ∷ []

-- terms in place of the letters, no two the same
abbrev pub p : Path
p = AxisStep child name_test 1

abbrev pub q : Path
q = AxisStep child name_test 2

abbrev pub r : Path
r = AxisStep child name_test 3

abbrev pub s : Path
s = AxisStep child name_test 4

abbrev pub f : Qualifier
f = In (AxisStep child name_test 5) Void

abbrev pub g : Qualifier
g = In (AxisStep child name_test 6) Void

abbrev pub h : Qualifier
h = In (AxisStep child name_test 7) Void

infix 90 ◌::N ◌::M ◌::star ◌::node ◌::text ◌::instruction ◌::target
-- names in place of N and M
abbrev pub ◌::N : ℕ → Path
a ::N = AxisStep a name_test 8

abbrev pub ◌::M : ℕ → Path
a ::M = AxisStep a name_test 9

abbrev pub ◌::star : ℕ → Path
a ::star = AxisStep a star_test 0

abbrev pub ◌::node : ℕ → Path
a ::node = AxisStep a node_test 0

abbrev pub ◌::text : ℕ → Path
a ::text = AxisStep a text_test 0

abbrev pub ◌::instruction : ℕ → Path
a ::instruction = AxisStep a instruction_test 0

-- an instruction of target 11
abbrev pub ◌::target : ℕ → Path
a ::target = AxisStep a target_test 11

-- rule 10 with its second premise ending in node(), on an axis in place of b
abbrev pub ending_in_node : ℕ → Sample
ending_in_node b =
    sample 10 (Containment (Composition p (child ::N)) (Composition r (b ::M)))
    (Containment (child ::N) (b ::M) ∷ Containment p (Composition r (b ::node)) ∷ [])

-- on each axis from 3 to 10
abbrev pub endings_in_node : List Sample
endings_in_node =
    map ending_in_node
    (descendant
    ∷ ancestor
    ∷ descendant_or_self
    ∷ ancestor_or_self
    ∷ following_sibling
    ∷ preceding_sibling
    ∷ following
    ∷ preceding
    ∷ [])

-- the axes that rules 26 and 58 take
abbrev other_than_attribute : List ℕ
other_than_attribute =
    self
    ∷ child
    ∷ parent
    ∷ descendant
    ∷ ancestor
    ∷ descendant_or_self
    ∷ ancestor_or_self
    ∷ following_sibling
    ∷ preceding_sibling
    ∷ following
    ∷ preceding
    ∷ []

-- rule 59 of a path and what is to be its way back
abbrev pub way_back_of : Path → Path → Sample
way_back_of u w = sample 59 (Containment u (Filter u (some_of w))) []

-- of a step on axis a, with b for the opposite axis
abbrev pub step_back_of : ℕ → ℕ → Sample
step_back_of a b = way_back_of (a ::N) (Composition (self ::N) (b ::node))

-- of child::1, child::2
abbrev pub p_back : Path
p_back = Composition (AxisStep self name_test 1) (parent ::node)

abbrev pub q_back : Path
q_back = Composition (AxisStep self name_test 2) (parent ::node)

unfoldable pub accepted : List Sample
accepted =
    (sample 1 (Containment Void p) []
    ∷ sample 2 (Containment p p) []
    ∷ sample 2 (Implication f f) []
    ∷ sample 3 (Containment p r) (Containment p q ∷ Containment q r ∷ [])
    ∷ sample 3 (Implication f h) (Implication f g ∷ Implication g h ∷ [])
    ∷ sample 4 (Containment p (Union q r)) (Containment p q ∷ [])
    ∷ sample 5 (Containment p (Union q r)) (Containment p r ∷ [])
    ∷ sample 6 (Containment (Union p q) r) (Containment p r ∷ Containment q r ∷ [])
    ∷ sample 7 (Containment (Composition p q) (Composition r s)) (Containment p r ∷ Containment q s ∷ [])
    ∷ sample 8 (Containment (child ::N) (descendant ::star)) []
    ∷ sample 8 (Containment (attribute ::N) (attribute ::star)) []
    ∷ sample 8 (Containment (child ::target) (descendant ::target)) []
    ∷ sample 8 (Containment (child ::target) (descendant ::instruction)) []
    ∷ sample 8 (Containment (child ::target) (descendant ::node)) []
    ∷ sample 9 (Containment (Filter p f) (Filter r g)) (Containment p r ∷ Implication f g ∷ [])
    ∷ sample 10 (Containment (Composition p (child ::N)) (Composition r (descendant ::M)))
    (Containment (child ::N) (descendant ::M) ∷ Containment p (Composition r (descendant ::star)) ∷ [])
    ∷ sample 10 (Containment (Composition p (child ::N)) (Composition r (preceding ::M)))
    (Containment (child ::N) (preceding ::M) ∷ Containment p (Composition r (preceding ::star)) ∷ [])
    ∷ sample 11 (Containment (Composition p q) (Composition r s))
    (Containment (Filter p (some_of q)) r ∷ Containment q s ∷ [])
    ∷ sample 12 (Implication (In p q) (In r s)) (Containment r p ∷ Containment q s ∷ [])
    ∷ sample 13 (Implication (Not f) (Not g)) (Implication g f ∷ [])
    ∷ sample 14 (Implication f True) []
    ∷ sample 15 (Implication False f) []
    ∷ sample 16 (Implication (And f g) h) (Implication g h ∷ [])
    ∷ sample 17 (Implication (And f g) h) (Implication f h ∷ [])
    ∷ sample 18 (Implication f (And g h)) (Implication f g ∷ Implication f h ∷ [])
    ∷ sample 19 (Implication f (Or g h)) (Implication f g ∷ [])
    ∷ sample 20 (Implication f (Or g h)) (Implication f h ∷ [])
    ∷ sample 21 (Implication (Or f g) h) (Implication f h ∷ Implication g h ∷ [])
    ∷ sample 22 (Implication (In (child ::node) Void) (In (descendant ::text) Void)) []
    ∷ sample 22 (Implication (In (child ::star) Void) (In (descendant ::N) Void)) []
    ∷ sample 22 (Implication (In (child ::star) Void) (In (descendant ::star) Void)) []
    ∷ sample 22 (Implication (In (child ::node) Void) (In (descendant ::target) Void)) []
    ∷ sample 23 (Implication (In (parent ::node) Void) (In (ancestor ::text) Void)) []
    ∷ sample 23 (Implication (In (parent ::star) Void) (In (ancestor ::N) Void)) []
    ∷ sample 23 (Implication (In (parent ::star) Void) (In (ancestor ::star) Void)) []
    ∷ sample 24 (Containment p Void) (Implication True (In p Void) ∷ [])
    ∷ sample 25 (Containment (Filter p (And f g)) Void) (Implication f (Not g) ∷ [])
    ∷ sample 26 (Containment (Composition p (child ::text)) (Composition Root (descendant ::node))) []
    ∷ sample 26 (Containment (Composition p (child ::target)) (Composition Root (descendant ::target))) []
    ∷ sample 26 (Containment (Composition p (child ::target)) (Composition Root (descendant ::instruction))) []
    ∷ sample 26 (Containment (Composition p (child ::target)) (Composition Root (descendant ::node))) []
    ∷ [])
    ++ containments 27 p (Filter p True)
    ++ containments 28 p (Composition (self ::node) p)
    ++ containments 29 p (Composition p (self ::node))
    ++ containments 30 (Filter p False) Void
    ++ containments 31 (Filter (Filter p f) g) (Filter p (And f g))
    ++ containments 32 (Union (Filter p f) (Filter p g)) (Filter p (Or f g))
    ++ containments 33 (Composition (Union p q) r) (Union (Composition p r) (Composition q r))
    ++ containments 34 (Composition p (Union q r)) (Union (Composition p q) (Composition p r))
    ++ containments 35 (Filter (Union p q) f) (Union (Filter p f) (Filter q f))
    ++ containments 36 (Composition (Composition p q) r) (Composition p (Composition q r))
    ++ containments 37 (Filter (Composition p q) f) (Composition p (Filter q f))
    ++ implications 38 (In (Composition p q) Void) (In (Filter p (some_of q)) Void)
    ++ implications 39 (Not (And f g)) (Or (Not f) (Not g))
    ++ implications 40 (Not (Or f g)) (And (Not f) (Not g))
    ++ implications 41 (And f (Or g h)) (Or (And f g) (And f h))
    ++ implications 42 (Or f (And g h)) (And (Or f g) (Or f h))
    ++ implications 43 (Not (Not f)) f
    ++ implications 44 (Not True) False
    ++ implications 45 (Not False) True
    ++ implications 46 (In (Union p q) r) (And (In p r) (In q r))
    ++ implications 47 (And f (Not f)) False
    ++ containments 48 (Composition (Filter (child ::N) f) (parent ::M))
    (Filter (self ::M) (some_of (Filter (child ::N) f)))
    ++ containments 49 (Composition (Filter (descendant ::N) f) (parent ::M))
    (Filter (descendant_or_self ::M) (some_of (Filter (child ::N) f)))
    ++ (sample 51 (Containment (Composition (Filter (descendant ::N) f) (child ::M))
    (Filter (descendant ::M) (some_of (Filter (parent ::N) f)))) [] ∷ [])
    ++ containments 52 (descendant_or_self ::N) (Union (descendant ::N) (self ::N))
    ++ containments 53 (ancestor_or_self ::N) (Union (ancestor ::N) (self ::N))
    ++ (sample 54 (Containment (Composition (Composition (ancestor_or_self ::node) (following_sibling ::node))
    (descendant_or_self ::N)) (following ::N)) [] ∷ [])
    ++ containments 55 (preceding ::N) (Composition (Composition (ancestor_or_self ::node) (preceding_sibling ::node))
    (descendant_or_self ::N))
    ++ (sample 56 (Containment (Composition p Root) Root) [] ∷ sample 57 (Containment Root (ancestor_or_self ::node)) []
    ∷ [])
    ++ map (λ a. sample 26 (Containment (Composition p (a ::N)) (Composition Root (descendant ::star))) [])
    other_than_attribute
    ++ map (λ a. sample 58 (Containment (Composition (a ::node) (self ::N)) (a ::N)) []) other_than_attribute
    ++ map (λ a. sample 58 (Containment (a ::N) (Composition (a ::node) (self ::N))) []) other_than_attribute
    ++ containments 58 (Composition (child ::node) (self ::target)) (child ::target)
    ++ endings_in_node
    ++ (step_back_of self self
    ∷ step_back_of child parent
    ∷ step_back_of descendant ancestor
    ∷ step_back_of descendant_or_self ancestor_or_self
    ∷ step_back_of following_sibling preceding_sibling
    ∷ step_back_of preceding_sibling following_sibling
    ∷ way_back_of (child ::text) (Composition (self ::text) (parent ::node))
    ∷ way_back_of (Composition p q) (Composition q_back p_back)
    ∷ way_back_of (Union p q) (Union p_back q_back)
    ∷ way_back_of (Filter p f) (Composition (Filter (self ::node) f) p_back)
    ∷ [])

abbrev pub sample_yielded : Sample → Bool
sample_yielded x = rule_fits x.rule x.claim x.premises

abbrev pub SampleYields : Sample → Type 0
SampleYields x = Yields x.rule x.claim x.premises

pub accepted_yield : {x : Sample} → Memᴰ x accepted → SampleYields x
unfolding accepted all_of rule_fits
accepted_yield {x} m = yielded_yes x.rule x.claim x.premises (all_of_yes sample_yielded accepted tt m)

-- every form of the table fits a step of the list
pub forms_covered : T (all_of
    (λ r. all_of (λ w. any_of (λ x. eqb x.rule r.number && fits (x.claim ∷ x.premises) w) accepted) r.forms)
    rules)
unfolding accepted some_form_fits
forms_covered = tt
