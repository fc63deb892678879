-- The order of the axes and the order of the tests.
use Rattle.std.specs.Prelude.{ℕ, Bool, false, ◌&&◌, ◌||◌, List, [], ◌∷◌, eqb}
use Rattle.common.specs.Axes.{self, child, parent, descendant, ancestor, descendant_or_self, ancestor_or_self}
use Rattle.common.specs.Axes.{following_sibling, preceding_sibling, following, preceding, attribute}
use Rattle.common.specs.NodeTests.{name_test, star_test, node_test, instruction_test, target_test}

-- the pairs of axes whose first one is below the second
unfoldable pub axis_pairs : List (ℕ × ℕ)
axis_pairs =
    (self, self)
    ∷ (child, child)
    ∷ (parent, parent)
    ∷ (descendant, descendant)
    ∷ (ancestor, ancestor)
    ∷ (descendant_or_self, descendant_or_self)
    ∷ (ancestor_or_self, ancestor_or_self)
    ∷ (following_sibling, following_sibling)
    ∷ (preceding_sibling, preceding_sibling)
    ∷ (following, following)
    ∷ (preceding, preceding)
    ∷ (attribute, attribute)
    ∷ (child, descendant)
    ∷ (child, descendant_or_self)
    ∷ (descendant, descendant_or_self)
    ∷ (self, descendant_or_self)
    ∷ (self, ancestor_or_self)
    ∷ (parent, ancestor)
    ∷ (parent, ancestor_or_self)
    ∷ (ancestor, ancestor_or_self)
    ∷ (following_sibling, following)
    ∷ (preceding_sibling, preceding)
    ∷ []

-- (a, b) is one of the pairs
unfoldable pub is_pair : List (ℕ × ℕ) → ℕ → ℕ → Bool
is_pair [] a b = false
is_pair (e ∷ es) a b = eqb e.0 a && eqb e.1 b || is_pair es a b

unfoldable pub axis_below : ℕ → ℕ → Bool
axis_below a b = is_pair axis_pairs a b

-- test t with name c is below test u with name e: the same test and name; a name below `*`; an instruction of a target
-- below any instruction; all below `node()`
unfoldable pub test_below : ℕ → ℕ → ℕ → ℕ → Bool
test_below t c u e =
    eqb t u && eqb c e
    || eqb t name_test && eqb u star_test
    || eqb t target_test && eqb u instruction_test
    || eqb u node_test
