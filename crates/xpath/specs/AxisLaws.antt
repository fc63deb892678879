-- Laws of the axes, on every well-formed document, of any length; proved in proofs/AxisLaws.antt.
use Rattle.std.specs.Prelude.{ℕ, ◌+◌, ◌<◌, ◌≡◌, Bool, not, cond, List, [], ◌∷◌, ◌↔◌, ◌⊎◌, T, length}
use Rattle.common.specs.Axes.{self, child, descendant, ancestor, following_sibling, preceding_sibling, following}
use Rattle.common.specs.Axes.{preceding, attribute}
use Rattle.xpath.specs.Document.{Document, parent_at, is_attribute, well_formed}
use Rattle.xpath.specs.Axis.{on_axis}

-- how many of the tests hold
abbrev pub count_true : List Bool → ℕ
count_true [] = 0
count_true (b ∷ bs) = cond b 1 0 + count_true bs

-- from every node, each node that is no attribute is on exactly one of the axes self, ancestor, descendant, following
-- and preceding
abbrev pub FiveAxesPartition : Type 0
FiveAxesPartition = (d : Document) → T (well_formed d) → (x y : ℕ) → x < length d → y < length d
    → T (not (is_attribute d y))
    → count_true (on_axis self d x y ∷ on_axis ancestor d x y ∷ on_axis descendant d x y ∷ on_axis following d x y
    ∷ on_axis preceding d x y ∷ []) ≡ 1

-- an attribute is on no axis of another node but axis 11, so it is no one's child, descendant, sibling, following or
-- preceding node
abbrev pub AxesToAttribute : Type 0
AxesToAttribute = (d : Document) → T (well_formed d) → (a x y : ℕ) → x < length d → y < length d
    → T (is_attribute d y) → T (on_axis a d x y) → (a ≡ attribute) ⊎ (x ≡ y)

-- an attribute has no child, no attribute, no descendant and no sibling
abbrev pub AxesFromAttribute : Type 0
AxesFromAttribute = (d : Document) → T (well_formed d) → (x y : ℕ) → x < length d → y < length d
    → T (is_attribute d x)
    → count_true (on_axis child d x y ∷ on_axis attribute d x y ∷ on_axis descendant d x y
    ∷ on_axis following_sibling d x y ∷ on_axis preceding_sibling d x y ∷ []) ≡ 0

-- what follows an attribute is every later node that is no attribute, the children of its parent among them
abbrev pub FollowingAttribute : Type 0
FollowingAttribute = (d : Document) → T (well_formed d) → (x y : ℕ) → x < length d → y < length d
    → T (is_attribute d x)
    → (T (on_axis following d x y) ↔ ((x < y) × T (not (is_attribute d y))))
    × (T (on_axis child d (parent_at d x) y) → T (on_axis following d x y))
