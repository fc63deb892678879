-- Where a path that has a way back selects y from x, its way back selects x from y.
use Prim.Native.Nat.{ℕ, ◌<◌}
use mathlib.Core.Path.{◌≡◌, refl, sym, subst}
use mathlib.Core.Bool.{Bool, true, false, cond, ◌&&◌}
use mathlib.Core.List.{List, [], ◌∷◌}
use mathlib.Core.Logic.{◌⊎◌, inl, inr, ⊎_elim}
use mathlib.Core.Option.{Option, none, some, some-injective, none-ne-some, map-eq-some_iff}
use lib.Dec.{T, eqb}
use lib.ListN.{length}
use mir.Facts.{yes_eqb}
use Rattle.common.specs.Axes.{self}
use Rattle.common.specs.Lists.{Every}
use Rattle.common.proofs.Entries.{◌&◌}
use Rattle.common.proofs.Reflect.{yes_or}
use Rattle.xpath.specs.Document.{Document, well_formed}
use Rattle.xpath.specs.Term.{Path, Void, Root, AxisStep, Union, Composition, Filter}
use Rattle.xpath.specs.Axis.{principal, passes}
use Rattle.xpath.specs.Meaning.{selects}
use Rattle.xpath.proofs.Facts.{Selects, OnAxis, selects_in_document, selects_iff}
use Rattle.rules.specs.Order.{is_pair}
use Rattle.rules.specs.WayBack.{opposites, lookup, opposite, step_back, filter_back, joined, way_back}
use Rattle.rules.specs.Claim.{Claim}
use Rattle.rules.specs.Yields.{WayBackYields}
use Rattle.rules.proofs.RuleSound.{Means}
use Rattle.rules.proofs.Orders.{pair_at, same_test}

-- an axis and the one that is found for it are one of the pairs
pub lookup_pair : (es : List (ℕ × ℕ)) (a b : ℕ) → lookup es a ≡ some b → T (is_pair es a b)
unfolding lookup is_pair
lookup_pair [] a b q = absurd (none-ne-some b q)
lookup_pair (e ∷ es) a b q =
    yes_or (eqb e.0 a && eqb e.1 b) (is_pair es a b) (by (eqb e.0 a) q (lookup_pair es a b))
  where
    by : (t : Bool) → cond t (some e.1) (lookup es a) ≡ some b → (lookup es a ≡ some b → T (is_pair es a b)) →
        T (t && eqb e.1 b) ⊎ T (is_pair es a b)
    by true q h = inl (yes_eqb (some-injective e.1 b q))
    by false q h = inr (h q)

-- two joined paths, both of which are there
pub joined_some : (f : Path → Path → Path) (o q : Option Path) (v : Path) → joined f o q ≡ some v →
    (u : Path) × (w : Path) × (o ≡ some u) × (q ≡ some w) × (f u w ≡ v)
unfolding joined
joined_some f none none v e = absurd (none-ne-some v e)
joined_some f none (some w) v e = absurd (none-ne-some v e)
joined_some f (some u) none v e = absurd (none-ne-some v e)
joined_some f (some u) (some w) v e = (u, w, refl, refl, some-injective (f u w) v e)

module _ (d : Document) where
  -- what is on axis a of a node has the node on its axis b, and on axis a a name or `*` selects what it selects on self
  abbrev Leads : ℕ → ℕ → Type 0
  Leads a b = (principal a ≡ principal self) × ((x y : ℕ) → OnAxis a d x y → OnAxis b d y x)

  -- each axis and its opposite, in their order
  opposites_lead : Every (λ (e : ℕ × ℕ). Leads e.0 e.1) opposites
  unfolding opposites OnAxis
  opposites_lead =
      (refl, λ x y o. sym o)  -- self, self
      & (refl, λ x y (c, n). c)  -- child, parent
      & (refl, λ x y (a, n). a)  -- descendant, ancestor
      & (refl, λ x y. ⊎_elim (λ e. inl e) (λ (a, n). inr a))  -- descendant-or-self, ancestor-or-self
      & (refl, λ x y (s, m, n). (s, n, m))  -- following-sibling, preceding-sibling
      & (refl, λ x y (s, m, n). (s, n, m))  -- preceding-sibling, following-sibling
      & tt

  opposite_leads : (a b : ℕ) → opposite a ≡ some b → Leads a b
  unfolding opposite
  opposite_leads a b e = pair_at Leads opposites opposites_lead a b (lookup_pair opposites a b e)

  pub back_selects : (p v : Path) → way_back p ≡ some v → (x y : ℕ) → x < length d → y < length d →
      Selects d p x y → Selects d v y x
  unfolding way_back Selects OnAxis passes
  back_selects Void v e x y k l s = absurd s
  back_selects Root v e x y k l s = absurd (none-ne-some v e)
  back_selects (AxisStep a t c) v e x y k l (o, s) =
      let (b, f, q) = (map-eq-some_iff (λ b. step_back b t c) (opposite a)).0 e in
      let (kind, leads) = opposite_leads a b f in
      subst (λ v. Selects d v y x) q (y, l, (refl, same_test a self t c d y kind s), (leads x y o, tt))
  back_selects (Union p q) v e x y k l s =
      let (u, w, f, g, h) = joined_some Union (way_back p) (way_back q) v e in
      subst (λ v. Selects d v y x) h
      (⊎_elim (λ s. inl (back_selects p u f x y k l s)) (λ s. inr (back_selects q w g x y k l s)) s)
  back_selects (Composition p q) v e x y k l (z, m, s, t) =
      let (u, w, f, g, h) = joined_some Composition (way_back q) (way_back p) v e in
      subst (λ v. Selects d v y x) h (z, m, back_selects q u f z y m l t, back_selects p w g x z k m s)
  back_selects (Filter p f) v e x y k l (s, h) =
      let (w, g, q) = (map-eq-some_iff (filter_back f) (way_back p)).0 e in
      subst (λ v. Selects d v y x) q (y, l, ((refl, tt), h), back_selects p w g x y k l s)

  -- so from each node that a path selects its way back selects some node
  pub way_back_sound : {n : ℕ} {c : Claim} {cs : List Claim} → WayBackYields n c cs → Means d c
  unfolding Selects
  way_back_sound y =
      subst (Means d) y.conclusion
      (λ x z k l s. (s, λ none. none x k (back_selects y.path y.back y.is_way_back x z k l s)))

-- from each node that a path selects its way back selects the node that the path was from
pub way_back_selects : (d : Document) → T (well_formed d) → (p v : Path) → way_back p ≡ some v
    → (x y : ℕ) → x < length d → T (selects d p x y) → T (selects d v y x)
way_back_selects d w p v e x y k t =
    let l = selects_in_document d p x y t in
    (selects_iff d w v y x l k).1 (back_selects d p v e x y k l ((selects_iff d w p x y k l).0 t))
