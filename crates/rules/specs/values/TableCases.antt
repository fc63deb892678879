-- Values of the orders of axes and tests, the rules' numbers, and how many premises each rule has.
use Rattle.std.specs.Prelude.{ℕ, refl, List, [], ◌∷◌, map, leb, eqb, get_or}
use Rattle.common.specs.Bounded.{list_below}
use Rattle.common.specs.values.Expected.{◌is◌, AllRight}
use Rattle.common.specs.Axes.{self, child, parent, descendant, ancestor, descendant_or_self, ancestor_or_self}
use Rattle.common.specs.Axes.{following_sibling, preceding_sibling, following, preceding, attribute}
use Rattle.common.specs.NodeTests.{name_test, star_test, node_test, text_test, comment_test, instruction_test}
use Rattle.common.specs.NodeTests.{target_test}
use Rattle.rules.specs.Order.{axis_pairs, is_pair, axis_below, test_below}
use Rattle.rules.specs.RuleTable.{rules}
use Rattle.rules.specs.Yields.{forms_in, forms_of, first_count, premise_count}

-- the axes that an axis is below, itself among them
abbrev axes_above : ℕ → List ℕ
axes_above a = list_below 13 (axis_below a)

pub axes_above_lem :
    AllRight
    (axes_above self is (self ∷ descendant_or_self ∷ ancestor_or_self ∷ [])
    ∷ axes_above child is (child ∷ descendant ∷ descendant_or_self ∷ [])
    ∷ axes_above parent is (parent ∷ ancestor ∷ ancestor_or_self ∷ [])
    ∷ axes_above descendant is (descendant ∷ descendant_or_self ∷ [])
    ∷ axes_above ancestor is (ancestor ∷ ancestor_or_self ∷ [])
    ∷ axes_above descendant_or_self is (descendant_or_self ∷ [])
    ∷ axes_above ancestor_or_self is (ancestor_or_self ∷ [])
    ∷ axes_above following_sibling is (following_sibling ∷ following ∷ [])
    ∷ axes_above preceding_sibling is (preceding_sibling ∷ preceding ∷ [])
    ∷ axes_above following is (following ∷ [])
    ∷ axes_above preceding is (preceding ∷ [])
    ∷ axes_above attribute is (attribute ∷ [])
    -- 12 is no axis
    ∷ axes_above 12 is []
    ∷ [])
unfolding list_below axis_below is_pair axis_pairs
axes_above_lem = refl

-- the tests, two names first and two targets last, and for each the places of those that it is below
abbrev tests : List (ℕ × ℕ)
tests =
    (name_test, 1)
    ∷ (name_test, 2)
    ∷ (star_test, 0)
    ∷ (node_test, 0)
    ∷ (text_test, 0)
    ∷ (comment_test, 0)
    ∷ (instruction_test, 0)
    ∷ (target_test, 1)
    ∷ (target_test, 2)
    ∷ []

abbrev places_above : (test name : ℕ) → List ℕ
places_above t n = list_below 9 (λ i. let u = get_or tests i (0, 0) in test_below t n u.0 u.1)

pub tests_above :
    AllRight
    (places_above name_test 1 is (0 ∷ 2 ∷ 3 ∷ [])
    ∷ places_above name_test 2 is (1 ∷ 2 ∷ 3 ∷ [])
    ∷ places_above star_test 0 is (2 ∷ 3 ∷ [])
    ∷ places_above node_test 0 is (3 ∷ [])
    ∷ places_above text_test 0 is (3 ∷ 4 ∷ [])
    ∷ places_above comment_test 0 is (3 ∷ 5 ∷ [])
    ∷ places_above instruction_test 0 is (3 ∷ 6 ∷ [])
    ∷ places_above target_test 1 is (3 ∷ 6 ∷ 7 ∷ [])
    ∷ places_above target_test 2 is (3 ∷ 6 ∷ 8 ∷ [])
    ∷ [])
unfolding list_below test_below
tests_above = refl

-- the rules of the table are 1 to 58, in order; rule 59 is none of them
pub rule_numbers : AllRight (map (λ r. r.number) rules is list_below 59 (leb 1) ∷ [])
unfolding rules list_below
rule_numbers = refl

-- the rules with one premise, and with two; no rule has more
pub premises :
    AllRight
    (list_below 60 (λ n. eqb (premise_count n) 1) is (4 ∷ 5 ∷ 13 ∷ 16 ∷ 17 ∷ 19 ∷ 20 ∷ 24 ∷ 25 ∷ [])
    ∷ list_below 60 (λ n. leb 2 (premise_count n)) is (3 ∷ 6 ∷ 7 ∷ 9 ∷ 10 ∷ 11 ∷ 12 ∷ 18 ∷ 21 ∷ [])
    ∷ list_below 60 (λ n. leb 3 (premise_count n)) is []
    ∷ [])
unfolding list_below premise_count first_count forms_of forms_in rules
premises = refl
