-- What is on the axes to and from an attribute of a well-formed document, of any length.
use Prim.Native.Nat.{ℕ, zero, suc, ◌<◌}
use mathlib.Core.Path.{◌≡◌, refl, sym}
use mathlib.Core.Logic.{◌↔◌, ◌⊎◌, inl, inr, ⊎_elim}
use native.Mathlib.Omega.{arith}
use lib.Dec.{T}
use lib.ListN.{length}
use Rattle.xpath.specs.Document.{Document, kind_at, parent_at, well_formed}
use Rattle.common.specs.Axes.{child, descendant, following_sibling, preceding_sibling, following, attribute}
use Rattle.common.proofs.Reflect.{le_or_lt}
use Rattle.xpath.proofs.Tree.{Ancestor, parent_is, parent_smaller, ancestor_kind, attributes_first}
use Rattle.xpath.proofs.Facts.{NoAttribute, OnAxis}

module _ (d : Document) (w : T (well_formed d)) where
  -- an attribute is no one's child, descendant, sibling, following or preceding node, and no one's parent or
  -- ancestor: it is on axis 11, or is x itself
  pub axes_to_attribute : (a x y : ℕ) → x < length d → kind_at d y ≡ 5 → OnAxis a d x y → (a ≡ attribute) ⊎ (x ≡ y)
  unfolding OnAxis
  axes_to_attribute zero x y k e o = inr o
  axes_to_attribute (suc zero) x y k e o = absurd (o.1 e)
  axes_to_attribute (suc (suc zero)) x y k e o = let h = ancestor_kind d w k (parent_is {y = x} o.0 o.1) in
      absurd (omega arith)
  axes_to_attribute (suc (suc (suc zero))) x y k e o = absurd (o.1 e)
  axes_to_attribute (suc (suc (suc (suc zero)))) x y k e o = let h = ancestor_kind d w k o in absurd (omega arith)
  axes_to_attribute (suc (suc (suc (suc (suc zero))))) x y k e o = ⊎_elim inr (λ p. absurd (p.1 e)) o
  axes_to_attribute (suc (suc (suc (suc (suc (suc zero)))))) x y k e o =
      ⊎_elim (λ q. inr (sym q)) (λ b. let h = ancestor_kind d w k b in absurd (omega arith)) o
  axes_to_attribute (suc (suc (suc (suc (suc (suc (suc zero))))))) x y k e o = absurd (o.2 e)
  axes_to_attribute (suc (suc (suc (suc (suc (suc (suc (suc zero)))))))) x y k e o = absurd (o.2 e)
  axes_to_attribute (suc (suc (suc (suc (suc (suc (suc (suc (suc zero))))))))) x y k e o = absurd (o.1 e)
  axes_to_attribute (suc (suc (suc (suc (suc (suc (suc (suc (suc (suc zero)))))))))) x y k e o = absurd (o.1 e)
  axes_to_attribute (suc (suc (suc (suc (suc (suc (suc (suc (suc (suc (suc zero))))))))))) x y k e o = inl refl
  axes_to_attribute (suc (suc (suc (suc (suc (suc (suc (suc (suc (suc (suc (suc a)))))))))))) x y k e o = absurd o

  module _ (x : ℕ) (e : kind_at d x ≡ 5) where
    -- nothing is below an attribute
    pub none_below_attribute : (y : ℕ) → y < length d → ¬ (Ancestor d x y)
    none_below_attribute y l a = let h = ancestor_kind d w l a in omega arith

    -- an attribute has no child, no attribute, no descendant and no sibling
    pub axes_from_attribute : (y : ℕ) → y < length d →
        (¬ (OnAxis child d x y)) × (¬ (OnAxis attribute d x y)) × (¬ (OnAxis descendant d x y))
        × (¬ (OnAxis following_sibling d x y)) × (¬ (OnAxis preceding_sibling d x y))
    unfolding OnAxis
    axes_from_attribute y l = (
      λ o. none_below_attribute y l (parent_is {y = y} o.0.0 o.0.1),
      λ o. none_below_attribute y l (parent_is {y = y} o.0.0 o.0.1),
      λ o. none_below_attribute y l o.0,
      λ o. o.1 e,
      λ o. o.1 e,
    )

    -- what follows an attribute is every later row that is no attribute
    pub following_attribute : (y : ℕ) → y < length d → OnAxis following d x y ↔ ((x < y) × NoAttribute d y)
    unfolding OnAxis
    following_attribute y l = (λ o. (o.0.0, o.1), λ (h, n). ((h, none_below_attribute y l), n))

    -- and so the children of its parent
    pub children_follow_attribute : (y : ℕ) → x < length d → y < length d → OnAxis child d (parent_at d x) y →
        OnAxis following d x y
    unfolding OnAxis
    children_follow_attribute y k l (c, n) =
        let p = parent_smaller d w y l c.0 in
        let h : x < y = ⊎_elim (λ g. absurd (n (attributes_first d w y x k e (omega (arith, c.1)) g).0)) (λ g. g)
        (le_or_lt y x) in
        ((h, none_below_attribute y l), n)
