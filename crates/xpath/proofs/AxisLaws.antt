-- The laws of the axes, from the axes as facts.
use Prim.Native.Nat.{ℕ, ◌<◌}
use mathlib.Core.Path.{◌≡◌, refl}
use mathlib.Core.Bool.{Bool, true, false, not}
use mathlib.Core.List.{[], ◌∷◌}
use mathlib.Core.Logic.{◌↔◌}
use lib.Dec.{T}
use lib.ListN.{length}
use mir.Facts.{and_yes, eqb_yes}
use native.Mathlib.Omega.{arith}
use Rattle.common.specs.Axes.{child, descendant, following_sibling, preceding_sibling, following, attribute}
use Rattle.common.proofs.Reflect.{eq_iff, not_via}
use Rattle.xpath.specs.Document.{Document, kind_at, parent_at, is_attribute, is_child, well_formed}
use Rattle.xpath.specs.Axis.{on_axis}
use Rattle.xpath.specs.AxisLaws.{count_true, FiveAxesPartition, AxesToAttribute, AxesFromAttribute, FollowingAttribute}
use Rattle.xpath.proofs.Facts.{NoAttribute, on_axis_iff}
use Rattle.xpath.proofs.Tree.{child_yes, parent_smaller}
use Rattle.xpath.proofs.Attributes as attributes
use Rattle.xpath.proofs.Order as order

-- y is no attribute, by the test and as a fact
no_attribute_iff : (d : Document) (y : ℕ) → T (not (is_attribute d y)) ↔ NoAttribute d y
no_attribute_iff d y = not_via (is_attribute d y) (eq_iff (kind_at d y) 5)

pub five_axes_partition : FiveAxesPartition
five_axes_partition d w x y k l n = order.five_axes_partition d w x y k l ((no_attribute_iff d y).0 n)

pub axes_to_attribute : AxesToAttribute
axes_to_attribute d w a x y k l e o =
    attributes.axes_to_attribute d w a x y k (eqb_yes e) ((on_axis_iff d w a x y k l).0 o)

-- none of five tests holds
none_of_five : (a b c d e : Bool) → ¬ (T a) → ¬ (T b) → ¬ (T c) → ¬ (T d) → ¬ (T e)
    → count_true (a ∷ b ∷ c ∷ d ∷ e ∷ []) ≡ 0
none_of_five true b c d e f g h i j = absurd (f tt)
none_of_five false true c d e f g h i j = absurd (g tt)
none_of_five false false true d e f g h i j = absurd (h tt)
none_of_five false false false true e f g h i j = absurd (i tt)
none_of_five false false false false true f g h i j = absurd (j tt)
none_of_five false false false false false f g h i j = refl

pub axes_from_attribute : AxesFromAttribute
axes_from_attribute d w x y k l e =
    let none = attributes.axes_from_attribute d w x (eqb_yes e) y l in
    none_of_five (on_axis child d x y) (on_axis attribute d x y) (on_axis descendant d x y)
    (on_axis following_sibling d x y) (on_axis preceding_sibling d x y)
    (λ t. none.0 ((on_axis_iff d w child x y k l).0 t))
    (λ t. none.1 ((on_axis_iff d w attribute x y k l).0 t))
    (λ t. none.2 ((on_axis_iff d w descendant x y k l).0 t))
    (λ t. none.3 ((on_axis_iff d w following_sibling x y k l).0 t))
    (λ t. none.4 ((on_axis_iff d w preceding_sibling x y k l).0 t))

-- the parent of a child is there
parent_there : (d : Document) → T (well_formed d) → (x y : ℕ) → y < length d → T (on_axis child d x y) → x < length d
unfolding on_axis
parent_there d w x y l t =
    let c = child_yes d x y (and_yes (is_child d x y) (not (is_attribute d y)) t).0 in
    let p = parent_smaller d w y l c.0 in
    omega (arith, c.1)

pub following_attribute : FollowingAttribute
following_attribute d w x y k l e =
    let is = eqb_yes e in
    let follows = on_axis_iff d w following x y k l in
    let later = attributes.following_attribute d w x is y l in
    let free = no_attribute_iff d y in (
      (
        λ t. let o = later.0 (follows.0 t) in (o.0, free.1 o.1),
        λ o. follows.1 (later.1 (o.0, free.0 o.1)),
      ),
      λ t. let m = parent_there d w (parent_at d x) y l t in
          follows.1 (attributes.children_follow_attribute d w x is y k l
          ((on_axis_iff d w child (parent_at d x) y m l).0 t)),
    )
