-- The way back of a path, a term: from each node that the path selects it leads to where the path
-- began.
use Rattle.std.specs.Prelude.{ℕ, cond, List, [], ◌∷◌, eqb}
use Rattle.std.proofs.Math.Option.{Option, none, some, map}
use Rattle.common.specs.Axes.{self, child, parent, descendant, ancestor, descendant_or_self, ancestor_or_self}
use Rattle.common.specs.Axes.{following_sibling, preceding_sibling}
use Rattle.common.specs.NodeTests.{node_test}
use Rattle.xpath.specs.Term.{Path, Qualifier, Void, Root, AxisStep, Union, Composition, Filter}

-- the axes of paths that have a way back, each with its opposite axis
unfoldable pub opposites : List (ℕ × ℕ)
opposites =
    (self, self)
    ∷ (child, parent)
    ∷ (descendant, ancestor)
    ∷ (descendant_or_self, ancestor_or_self)
    ∷ (following_sibling, preceding_sibling)
    ∷ (preceding_sibling, following_sibling)
    ∷ []

-- the second axis of the pair whose first one is a
unfoldable pub lookup : List (ℕ × ℕ) → ℕ → Option ℕ
lookup [] a = none
lookup (e ∷ es) a = cond (eqb e.0 a) (some e.1) (lookup es a)

unfoldable pub opposite : ℕ → Option ℕ
opposite a = lookup opposites a

-- self::N, then axis b with node()
abbrev pub step_back : (axis test name : ℕ) → Path
step_back b t c = Composition (AxisStep self t c) (AxisStep b node_test 0)

-- .[f], then w
abbrev pub filter_back : Qualifier → Path → Path
filter_back f w = Composition (Filter (AxisStep self node_test 0) f) w

-- two paths joined, where both are there
unfoldable pub joined : (Path → Path → Path) → Option Path → Option Path → Option Path
joined f none none = none
joined f none (some w) = none
joined f (some v) none = none
joined f (some v) (some w) = some (f v w)

-- of a::N, p|q, p/q and p[f]; other paths have none
unfoldable pub way_back : Path → Option Path
way_back Void = none
way_back Root = none
way_back (AxisStep a t c) = map (λ b. step_back b t c) (opposite a)
way_back (Union p q) = joined Union (way_back p) (way_back q)
way_back (Composition p q) = joined Composition (way_back q) (way_back p)
way_back (Filter p f) = map (filter_back f) (way_back p)
