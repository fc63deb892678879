-- Laws of document order and of the axes on every well-formed document, of any length.
use Prim.Native.Nat.{ℕ, zero, suc, ◌≤◌, ◌<◌}
use mathlib.Core.Path.{◌≡◌, refl, sym, ◌∙◌}
use mathlib.Core.Bool.{Bool, true, false, not, ◌&&◌}
use mathlib.Core.List.{[], ◌∷◌}
use mathlib.Core.Logic.{◌↔◌, ◌⊎◌, inl, inr, ⊎_elim}
use native.Mathlib.Omega.{arith}
use lib.Dec.{T}
use lib.ListN.{length}
use borrow.Author.Tests.{eq-eqb, ne_eqb, lt-ltb, le-ltb}
use Rattle.xpath.specs.Document.{Document, kind_at, parent_at, is_ancestor, well_formed}
use Rattle.common.specs.Axes.{self, descendant, ancestor, descendant_or_self, ancestor_or_self, following_sibling}
use Rattle.common.specs.Axes.{preceding_sibling, following, preceding}
use Rattle.xpath.specs.Axis.{on_axis}
use Rattle.xpath.specs.AxisLaws.{count_true}
use Rattle.common.proofs.Reflect.{le_or_lt, eq_or_ne}
use Rattle.xpath.proofs.Tree.{Ancestor, parent_is, ancestor_trans, ancestor_cases, descendant_positive}
use Rattle.xpath.proofs.Tree.{child_toward, parent_smaller, ancestor_smaller, no_later_ancestor}
use Rattle.xpath.proofs.Tree.{subtree_contiguous, ancestor_kind, attributes_first}
use Rattle.xpath.proofs.Facts.{AncestorOrSelf, NoAttribute, FollowingSibling, Following, OnAxis}

pub or_self_trans : {d : Document} {x y z : ℕ} → AncestorOrSelf d x y → AncestorOrSelf d y z → AncestorOrSelf d x z
or_self_trans (inl e) (inl f) = inl (e ∙ f)
or_self_trans (inl e) (inr b) = inr (rw e b)
or_self_trans (inr a) (inl f) = inr (rw f at a)
or_self_trans (inr a) (inr b) = inr (ancestor_trans a b)

pub ancestor_of_or_self : {d : Document} {x y z : ℕ} → Ancestor d x y → AncestorOrSelf d y z → Ancestor d x z
ancestor_of_or_self a (inl e) = rw e at a
ancestor_of_or_self a (inr b) = ancestor_trans a b

pub or_self_of_ancestor : {d : Document} {x y z : ℕ} → AncestorOrSelf d x y → Ancestor d y z → Ancestor d x z
or_self_of_ancestor (inl e) b = rw e b
or_self_of_ancestor (inr a) b = ancestor_trans a b

-- y is x, or is below x and no attribute
abbrev DescendantOrSelf : Document → ℕ → ℕ → Type 0
DescendantOrSelf d x y = (x ≡ y) ⊎ (Ancestor d x y × NoAttribute d y)

pub below_of : {d : Document} {x y : ℕ} → DescendantOrSelf d x y → AncestorOrSelf d x y
below_of o = ⊎_elim inl (λ (a, n). inr a) o

of_below : {d : Document} {x y : ℕ} → NoAttribute d y → AncestorOrSelf d x y → DescendantOrSelf d x y
of_below n o = ⊎_elim inl (λ a. inr (a, n)) o

-- below a node that is no attribute, the descendant-or-self axis has no attribute
none_below : {d : Document} {x y : ℕ} → NoAttribute d x → DescendantOrSelf d x y → NoAttribute d y
none_below n (inl e) = rw e at n
none_below n (inr a) = a.1

descendant_or_self_trans : {d : Document} {x y z : ℕ} → DescendantOrSelf d x y → DescendantOrSelf d y z →
    DescendantOrSelf d x z
descendant_or_self_trans (inl e) o = rw e o
descendant_or_self_trans (inr a) (inl f) = inr (rw f at a)
descendant_or_self_trans (inr a) (inr b) = inr (ancestor_trans a.0 b.0, b.1)

-- s is a following sibling of a, x is a or below a, y is s or below s
abbrev AcrossSiblings : Document → ℕ → ℕ → Type 0
AcrossSiblings d x y =
    (a s : ℕ) × (a < length d) × (s < length d) × AncestorOrSelf d a x × FollowingSibling d a s × AncestorOrSelf d s y

module _ (d : Document) (w : T (well_formed d)) where
  ancestor_to_parent : {x y : ℕ} → y < length d → Ancestor d x y → x ≤ parent_at d y
  ancestor_to_parent {x} {y} l a =
      let p : parent_at d y < y = parent_smaller d w y l (descendant_positive a) in
      ⊎_elim (λ e. omega arith) (λ b. let q = ancestor_smaller d w {y = parent_at d y} (omega arith) b in omega arith)
      (ancestor_cases a)

  pub or_self_le : {x y : ℕ} → y < length d → AncestorOrSelf d x y → x ≤ y
  or_self_le l (inl e) = omega arith
  or_self_le l (inr a) = let h = ancestor_smaller d w l a in omega arith

  -- an ancestor-or-self of a row of the document is a row of the document
  pub or_self_in_document : {x y : ℕ} → y < length d → AncestorOrSelf d x y → x < length d
  or_self_in_document l o = let h = or_self_le l o in omega arith

  -- a following sibling follows
  pub following_sibling_follows : {x y : ℕ} → y < length d → FollowingSibling d x y → Following d x y
  following_sibling_follows {x} {y} l s =
      let p : parent_at d x < x = parent_smaller d w x (omega arith) s.0 in
      (s.2, λ a. omega (arith, ancestor_to_parent l a, s.1))

  following_sibling_trans : {x y z : ℕ} → FollowingSibling d x y → FollowingSibling d y z → FollowingSibling d x z
  following_sibling_trans s t = (s.0, t.1 ∙ s.1, omega arith)

  following_trans : {x y z : ℕ} → z < length d → Following d x y → Following d y z → Following d x z
  following_trans {x} {y} {z} l a b = (omega arith, λ c. a.1 (subtree_contiguous d w x y z a.0 (omega arith) l c))

  -- the highest ancestor-or-self of y that comes after x
  highest_after : (n x y : ℕ) → y ≤ n → y < length d → x < y →
      (s : ℕ) × AncestorOrSelf d s y × (x < s) × (s < length d) × (parent_at d s ≤ x)
  highest_after zero x y h l k = absurd (omega arith)
  highest_after (suc n) x y h l k =
      let q : parent_at d y < y = parent_smaller d w y l (omega arith) in
      ⊎_elim
      (λ t. (y, inl refl, k, l, t))
      (λ g. let r = highest_after n x (parent_at d y) (omega arith) (omega arith) g in
      (r.0, inr (or_self_of_ancestor r.1 (parent_is (omega arith) refl)), r.2, r.3, r.4))
      (le_or_lt (parent_at d y) x)

  following_to_across : {x y : ℕ} → y < length d → Following d x y → AcrossSiblings d x y
  following_to_across {x} {y} l f =
      let (s, below, h, m, q) = highest_after y x y (omega arith) l f.0 in
      let up : Ancestor d (parent_at d s) s = parent_is {y = s} (omega arith) refl in
      let across : Ancestor d (parent_at d s) x → AcrossSiblings d x y = λ b.
      let (a, c, above) = child_toward b in
      let v : a ≤ x = or_self_le (omega arith) above in
      (a, s, omega arith, m, above, (c.0, sym c.1, omega arith), below) in
      ⊎_elim
      (λ e. absurd (f.1 (ancestor_of_or_self (rw e at up) below)))
      (λ ne. across (subtree_contiguous d w (parent_at d s) x s (omega arith) (omega arith) m up))
      (eq_or_ne (parent_at d s) x)

  across_to_following : {x y : ℕ} → x < length d → y < length d → AcrossSiblings d x y → Following d x y
  across_to_following {x} {y} k l (a, s, n, m, above, across, below) =
      let apart : ¬ (Ancestor d a s) = (following_sibling_follows m across).1 in
      let h : x < s = ⊎_elim
      (λ e. omega arith)
      (λ c. ⊎_elim (λ g. absurd (apart (subtree_contiguous d w a s x across.2 g k c))) (λ g. g) (le_or_lt s x))
      above in
      let v : s ≤ y = or_self_le l below in
      (omega arith, λ c. apart (or_self_of_ancestor above (subtree_contiguous d w x s y h v l c)))

  -- an ancestor-or-self of a node that is no attribute is none
  pub none_above : {x y : ℕ} → y < length d → NoAttribute d y → AncestorOrSelf d x y → NoAttribute d x
  none_above l n (inl e) = rw e n
  none_above l n (inr a) = let k = ancestor_kind d w l a in λ q. omega arith

  -- what has an earlier sibling that is no attribute is none
  none_after : {s a : ℕ} → a < length d → NoAttribute d s → FollowingSibling d s a → NoAttribute d a
  none_after {s} {a} l n f q =
      let p = parent_smaller d w s (omega arith) f.0 in
      n (attributes_first d w s a l q (omega (arith, f.1)) (omega arith)).0

  -- rule 54: a descendant-or-self of a following sibling of an ancestor-or-self of x follows x
  pub following_by_siblings : (x y : ℕ) → x < length d → y < length d →
      ((a s : ℕ) × (a < length d) × (s < length d) × OnAxis ancestor_or_self d x a × OnAxis following_sibling d a s
      × OnAxis descendant_or_self d s y)
      → OnAxis following d x y
  unfolding OnAxis
  following_by_siblings x y k l (a, s, n, m, above, (across, p, q), below) =
      (across_to_following k l (a, s, n, m, above, across, below_of below), none_below q below)

  -- rule 55: what precedes x is a descendant-or-self of a preceding sibling of an ancestor-or-self of x
  pub preceding_by_siblings : (x y : ℕ) → x < length d → y < length d →
      OnAxis preceding d x y
      ↔ ((a s : ℕ) × (a < length d) × (s < length d) × OnAxis ancestor_or_self d x a × OnAxis preceding_sibling d a s
      × OnAxis descendant_or_self d s y)
  unfolding OnAxis
  preceding_by_siblings x y k l = (
    λ (f, v). let (s, a, m, n, below, across, above) = following_to_across k f in
        let p = none_above l v below in (a, s, n, m, above, (across, none_after n p across, p), of_below v below),
    λ (
      a,
      s,
      n,
      m,
      above,
      (across, p, q),
      below,
    ). (across_to_following l k (s, a, m, n, below_of below, across, above), none_below q below),
  )

  -- the axes 3 to 10 are transitive
  pub axis_transitive : (b : ℕ) → 3 ≤ b → b ≤ 10 → (x y z : ℕ) → x < length d → z < length d →
      OnAxis b d x y → OnAxis b d y z → OnAxis b d x z
  unfolding OnAxis
  axis_transitive zero h g x y z k m s t = absurd (omega arith)
  axis_transitive (suc zero) h g x y z k m s t = absurd (omega arith)
  axis_transitive (suc (suc zero)) h g x y z k m s t = absurd (omega arith)
  axis_transitive (suc (suc (suc zero))) h g x y z k m s t = (ancestor_trans s.0 t.0, t.1)
  axis_transitive (suc (suc (suc (suc zero)))) h g x y z k m s t = ancestor_trans t s
  axis_transitive (suc (suc (suc (suc (suc zero))))) h g x y z k m s t = descendant_or_self_trans s t
  axis_transitive (suc (suc (suc (suc (suc (suc zero)))))) h g x y z k m s t = or_self_trans t s
  axis_transitive (suc (suc (suc (suc (suc (suc (suc zero))))))) h g x y z k m s t =
      (following_sibling_trans s.0 t.0, s.1, t.2)
  axis_transitive (suc (suc (suc (suc (suc (suc (suc (suc zero)))))))) h g x y z k m s t =
      (following_sibling_trans t.0 s.0, s.1, t.2)
  axis_transitive (suc (suc (suc (suc (suc (suc (suc (suc (suc zero))))))))) h g x y z k m s t =
      (following_trans m s.0 t.0, t.1)
  axis_transitive (suc (suc (suc (suc (suc (suc (suc (suc (suc (suc zero)))))))))) h g x y z k m s t =
      (following_trans k t.0 s.0, t.1)
  axis_transitive (suc (suc (suc (suc (suc (suc (suc (suc (suc (suc (suc b))))))))))) h g x y z k m s t =
      absurd (omega arith)

  -- self, ancestor, descendant, following and preceding share no node and leave out attributes only: from x, each
  -- other node is on exactly one of them
  pub five_axes_partition : (x y : ℕ) → x < length d → y < length d → NoAttribute d y →
      count_true (on_axis self d x y ∷ on_axis ancestor d x y ∷ on_axis descendant d x y ∷ on_axis following d x y
      ∷ on_axis preceding d x y ∷ []) ≡ 1
  unfolding on_axis
  five_axes_partition x y k l n =
      ⊎_elim
      (λ e. rw (e, eq-eqb y y refl, le-ltb y y (omega arith), no_later_ancestor d w y y l (omega arith)))
      (λ ne. ⊎_elim
      (λ h. rw (
        ne_eqb x y ne,
        le-ltb y x h,
        lt-ltb x y (omega arith),
        no_later_ancestor d w y x k h,
        ne_eqb (kind_at d y) 5 n,
      ) (later (is_ancestor d x y)))
      (λ h. rw (
        ne_eqb x y ne,
        lt-ltb y x h,
        le-ltb x y (omega arith),
        no_later_ancestor d w x y l (omega arith),
        ne_eqb (kind_at d y) 5 n,
      ) (earlier (is_ancestor d y x)))
      (le_or_lt x y))
      (eq_or_ne x y)
    where
      later : (b : Bool) → count_true (false ∷ false ∷ (b && true) ∷ (not b && true) ∷ false ∷ []) ≡ 1
      later true = refl
      later false = refl

      earlier : (b : Bool) → count_true (false ∷ b ∷ false ∷ false ∷ (not b && true) ∷ []) ≡ 1
      earlier true = refl
      earlier false = refl
