-- Each axis by the walk that marks it, on a well-formed document.
use Prim.Native.Nat.{ℕ, suc, ◌+◌, ◌≤◌, ◌<◌}
use mathlib.Core.Path.{◌≡◌, sym, ◌∙◌}
use mathlib.Core.Bool.{Bool, true, false, not, ◌&&◌, ◌||◌, and_assoc, and-or_distrib_right}
use mathlib.Core.List.{List}
use mathlib.Core.Logic.{◌↔◌, inl, inr, ⊎_elim}
use native.Mathlib.Omega.{arith}
use native.Mathlib.Numerals.{add-one}
use lib.Dec.{T, ltb, leb, eqb}
use lib.ListN.{length, get_or}
use borrow.Author.Tests.{ne_eqb}
use native.Mathlib.Nat.{pos_of_ne-zero}
use Rattle.common.specs.Axes.{self, child, parent, descendant, ancestor, descendant_or_self, ancestor_or_self}
use Rattle.common.specs.Axes.{following_sibling, preceding_sibling, following, preceding, attribute}
use Rattle.common.specs.NodeKinds.{attribute_kind}
use Rattle.xpath.specs.Document.{Document, kind_at, parent_at, is_attribute, is_child, is_ancestor, are_siblings}
use Rattle.xpath.specs.Axis.{on_axis}
use Rattle.xpath.specs.represent.Ends.{Prepared}
use Rattle.common.proofs.Reflect.{facts, tests_equal, true_iff, and_iff, or_iff, and_via, not_via, eq_iff, le_iff}
use Rattle.common.proofs.Reflect.{le_or_lt}
use Rattle.xpath.proofs.Tree.{Child, Ancestor, parent_is, ancestor_cases, child_yes, yes_child, ancestor_smaller}
use Rattle.xpath.proofs.Tree.{parent_smaller}
use Rattle.xpath.proofs.Facts.{NoAttribute, OnAxis, on_axis_iff}
use Rattle.xpath.proofs.Axes.{past_last_axis}
use Rattle.marking.specs.private.Added.{Added, may_hold, ChildrenFrom}
use Rattle.marking.proofs.Added.{between, added_cong, added_twice, nothing_added}
use Rattle.marking.proofs.Walks.{at_end, below_end, past_end, next_within, next_is_child}

-- what an axis but attribute may hold is no attribute, and what attribute may hold is one
may_hold_iff : (a : ℕ) (d : Document) (y : ℕ) → ¬ (a ≡ attribute) → T (may_hold a d y) ↔ NoAttribute d y
unfolding may_hold
may_hold_iff a d y f = rw (ne_eqb a attribute f) (not_via (is_attribute d y) (eq_iff (kind_at d y) attribute_kind))

kept_attribute : (d : Document) (y : ℕ) → T (may_hold attribute d y) ↔ (kind_at d y ≡ attribute_kind)
unfolding may_hold
kept_attribute d y = eq_iff (kind_at d y) attribute_kind

module _ (d : Document) (es : List ℕ) (r : Prepared d es) (t : ℕ → Bool) (x : ℕ) (k : x < length d) where
  abbrev end : ℕ → ℕ
  end y = get_or es y 0

  abbrev stepped : ℕ → ℕ → Bool
  stepped a y = on_axis a d x y && t y

  -- the nodes that axis a keeps and that pass t
  abbrev kept_of : ℕ → ℕ → Bool
  kept_of a y = may_hold a d y && t y

  -- the nodes of the axis are those between lo and hi that pass f
  by_tests : {old new : List ℕ} (a lo hi : ℕ) (f : ℕ → Bool) →
      ((y : ℕ) → y < length d → (((lo ≤ y) × (y < hi)) × T (f y)) ↔ OnAxis a d x y) →
      Added (length d) old new (between lo hi (λ y. f y && t y)) → Added (length d) old new (stepped a)
  by_tests a lo hi f e u =
      added_cong (stepped a) u (λ y l.
      let i = and_via (leb lo y) (ltb y hi) (le_iff lo y) (le_iff (suc y) hi) in
      let j = and_via (leb lo y && ltb y hi) (f y) i (λ s. s, λ s. s) in
      let g = on_axis_iff d r.formed a x y k l in
      let b = tests_equal (on_axis a d x y) ((leb lo y && ltb y hi) && f y)
      (λ s. j.1 ((e y l).1 (g.0 s)), λ s. g.1 ((e y l).0 (j.0 s))) in
      rw b (and_assoc (leb lo y && ltb y hi) (f y) (t y)))

  -- the same of those that pass f and are may_hold
  by_candidates : {old new : List ℕ} (a lo hi : ℕ) (f : ℕ → Bool) →
      ((y : ℕ) → y < length d → (((lo ≤ y) × (y < hi)) × T (f y) × T (may_hold a d y)) ↔ OnAxis a d x y) →
      Added (length d) old new (between lo hi (λ y. f y && kept_of a y)) →
      Added (length d) old new (stepped a)
  by_candidates a lo hi f e u =
      by_tests a lo hi (λ y. f y && may_hold a d y)
      (λ y l. let i = and_iff (f y) (may_hold a d y) in
      (λ (h, s). (e y l).0 (h, (i.0 s).0, (i.0 s).1), λ o. let (h, m, n) = (e y l).1 o in (h, i.1 (m, n))))
      (added_cong (between lo hi (λ y. (f y && may_hold a d y) && t y)) u
      (λ y l. rw (and_assoc (f y) (may_hold a d y) (t y))))

  descendant_before : (z y : ℕ) → z < length d → y < length d → Ancestor d z y → y < end z
  descendant_before z y m l a = ⊎_elim (λ h. absurd (past_end d es r z y h l m a)) (λ h. h) (le_or_lt (end z) y)

  -- the node itself
  pub self_marked : {old new : List ℕ} → Added (length d) old new (λ y. eqb x y && t y) →
      Added (length d) old new (stepped self)
  unfolding on_axis
  self_marked u = u

  pub descendant_marked : {old new : List ℕ} (lo : ℕ) → lo ≡ x + 1 →
      Added (length d) old new (between lo (end x) (kept_of descendant)) →
      Added (length d) old new (stepped descendant)
  unfolding OnAxis
  descendant_marked lo q =
      by_tests descendant lo (end x) (may_hold descendant d) (λ y l.
      let v = may_hold_iff descendant d y (λ e. omega arith) in (
        λ (h, s). (below_end d es r x y (omega arith) l h.1 k, v.0 s),
        λ (a, n). let s = ancestor_smaller d r.formed l a in ((omega arith, descendant_before x y k l a), v.1 n),
      ))

  pub descendant_or_self_marked : {old mid new : List ℕ} (lo : ℕ) → lo ≡ x + 1 →
      Added (length d) old mid (λ y. eqb x y && t y) →
      Added (length d) mid new (between lo (end x) (kept_of descendant)) →
      Added (length d) old new (stepped descendant_or_self)
  unfolding on_axis
  descendant_or_self_marked lo q a b =
      added_twice (stepped self) (stepped descendant) (stepped descendant_or_self)
      (self_marked a) (descendant_marked lo q b)
      (λ y l. and-or_distrib_right (eqb x y) (is_ancestor d x y && not (is_attribute d y)) (t y))

  pub following_marked : {old new : List ℕ} (n : ℕ) → n ≡ length d →
      Added (length d) old new (between (end x) n (kept_of following)) →
      Added (length d) old new (stepped following)
  unfolding OnAxis
  following_marked n q =
      let s = (at_end d es r x k).after in
      by_tests following (end x) n (may_hold following d) (λ y l.
      let v = may_hold_iff following d y (λ e. omega arith) in (
        λ (h, m). ((omega arith, λ a. past_end d es r x y h.0 l k a), v.0 m),
        λ (f, m). (
          (
            ⊎_elim (λ h. h) (λ h. absurd (f.1 (below_end d es r x y f.0 l h k))) (le_or_lt (end x) y),
            omega arith,
          ),
          v.1 m,
        ),
      ))

  pub preceding_marked : {old new : List ℕ} →
      Added (length d) old new (between 0 x (λ y. leb (end y) x && kept_of preceding y)) →
      Added (length d) old new (stepped preceding)
  unfolding OnAxis
  preceding_marked =
      by_candidates preceding 0 x (λ y. leb (end y) x) (λ y l.
      let v = may_hold_iff preceding d y (λ e. omega arith) in (
        λ (h, m, n). ((h.1, λ a. past_end d es r y x ((le_iff (end y) x).0 m) k l a), v.0 n),
        λ (f, n). (
          (omega arith, f.0),
          (le_iff (end y) x).1
              (⊎_elim (λ h. h) (λ h. absurd (f.1 (below_end d es r y x f.0 k h l))) (le_or_lt (end y) x)),
          v.1 n,
        ),
      ))

  -- the rows under x, by what is may_hold of them
  under_marked : {old new : List ℕ} (a lo : ℕ) (A : ℕ → Type 0) → lo ≡ x + 1 →
      ((y : ℕ) → T (may_hold a d y) ↔ A y) →
      ((y : ℕ) → (Child d x y × A y) ↔ OnAxis a d x y) →
      Added (length d) old new (between lo (end x) (λ y. is_child d x y && kept_of a y)) →
      Added (length d) old new (stepped a)
  under_marked a lo A q v e =
      by_candidates a lo (end x) (is_child d x) (λ y l. (
        λ (h, m, n). (e y).0 (child_yes d x y m, (v y).0 n),
        λ o. let (c, n) = (e y).1 o in
            let s = parent_smaller d r.formed y l c.0 in (
              (omega (arith, c.1), descendant_before x y k l (parent_is {y = y} c.0 c.1)),
              yes_child d x y c,
              (v y).1 n,
            ),
      ))

  pub child_marked : {old new : List ℕ} (lo : ℕ) → lo ≡ x + 1 →
      Added (length d) old new (between lo (end x) (λ y. is_child d x y && kept_of child y)) →
      Added (length d) old new (stepped child)
  unfolding OnAxis
  child_marked lo q = under_marked child lo (NoAttribute d) q (λ y. may_hold_iff child d y (λ e. omega arith))
      (λ y. (λ c. c, λ c. c))

  pub attribute_marked : {old new : List ℕ} (lo : ℕ) → lo ≡ x + 1 →
      Added (length d) old new (between lo (end x) (λ y. is_child d x y && kept_of attribute y)) →
      Added (length d) old new (stepped attribute)
  unfolding OnAxis
  attribute_marked lo q =
      under_marked attribute lo (λ y. kind_at d y ≡ attribute_kind) q (λ y. kept_attribute d y) (λ y. (λ c. c, λ c. c))

  -- the parent of x, and the siblings of x
  module _ (p : ℕ) (g : 0 < x) (q : p ≡ parent_at d x) where
    before : p < x
    before = let s = parent_smaller d r.formed x k g in omega arith

    not_below : (y : ℕ) → parent_at d y ≡ p → Ancestor d x y → ⊥
    not_below y e a =
        let b = before in
        ⊎_elim (λ f. omega arith) (λ c. let z = ancestor_smaller d r.formed {y = parent_at d y} (omega arith) c in
        omega arith) (ancestor_cases a)

    pub parent_marked : {old new : List ℕ} →
        Added (length d) old new (λ y. eqb p y && t y) →
        Added (length d) old new (stepped parent)
    unfolding on_axis is_child
    parent_marked u = added_cong (stepped parent) u (λ y l. rw (ne_eqb x 0 (λ e. omega arith), q))

    module _ (o : NoAttribute d x) where
      pub following_sibling_marked : {old new : List ℕ} →
          Added (length d) old new (between (end x) (end p) (λ y. is_child d p y && kept_of following_sibling y)) →
          Added (length d) old new (stepped following_sibling)
      unfolding OnAxis
      following_sibling_marked =
          let b = before in
          let s = (at_end d es r x k).after in
          by_candidates following_sibling (end x) (end p) (is_child d p) (λ y l.
          let v = may_hold_iff following_sibling d y (λ e. omega arith) in (
            λ (h, m, n). let c = child_yes d p y m in ((g, c.1 ∙ q, let z = h.0 in omega arith), o, v.0 n),
            λ (f, _, n). let c : Child d p y = (let z = f.2 in omega arith, f.1 ∙ sym q) in (
              (
                ⊎_elim (λ h. h) (λ h. absurd (not_below y c.1 (below_end d es r x y f.2 l h k)))
                    (le_or_lt (end x) y),
                descendant_before p y (omega arith) l (parent_is {y = y} c.0 c.1),
              ),
              yes_child d p y c,
              v.1 n,
            ),
          ))

      pub preceding_sibling_marked : {old new : List ℕ} (lo : ℕ) → lo ≡ p + 1 →
          Added (length d) old new (between lo x (λ y. is_child d p y && kept_of preceding_sibling y)) →
          Added (length d) old new (stepped preceding_sibling)
      unfolding OnAxis
      preceding_sibling_marked lo e =
          by_candidates preceding_sibling lo x (is_child d p) (λ y l.
          let v = may_hold_iff preceding_sibling d y (λ e. omega arith) in (
            λ (h, m, n). let c = child_yes d p y m in ((c.0, sym q ∙ sym c.1, h.1), o, v.0 n),
            λ (f, _, n). let c : Child d p y = (f.0, sym f.1 ∙ sym q) in
                let s = parent_smaller d r.formed y l f.0 in
                ((omega (arith, c.1), f.2), yes_child d p y c, v.1 n),
          ))

  -- the axes that climb
  pub ancestor_marked : {old new : List ℕ} →
      Added (length d) old new (λ y. is_ancestor d y x && t y) →
      Added (length d) old new (stepped ancestor)
  unfolding on_axis
  ancestor_marked u = u

  pub ancestor_or_self_marked : {old mid new : List ℕ} →
      Added (length d) old mid (λ y. eqb x y && t y) →
      Added (length d) mid new (λ y. is_ancestor d y x && t y) →
      Added (length d) old new (stepped ancestor_or_self)
  unfolding on_axis
  ancestor_or_self_marked a b =
      added_twice (stepped self) (λ y. is_ancestor d y x && t y) (stepped ancestor_or_self) (self_marked a) b
      (λ y l. and-or_distrib_right (eqb x y) (is_ancestor d y x) (t y))

  -- the root has no parent; it has no sibling, nor has an attribute
  pub root_parent : {old : List ℕ} → x ≡ 0 → Added (length d) old old (stepped parent)
  unfolding on_axis is_child
  root_parent e = nothing_added (stepped parent) (λ y l. rw e)

  no_siblings : (eqb x 0 || is_attribute d x) ≡ true → (y : ℕ) → are_siblings d x y ≡ false
  unfolding are_siblings
  no_siblings e y =
      tests_equal (are_siblings d x y) false (
        λ s. let ((((a, _), _), b), _) = simp (facts, are_siblings) at s in
            ⊎_elim (λ (q : T (eqb x 0)). absurd (a ((eq_iff x 0).0 q)))
            (λ (q : T (is_attribute d x)). absurd (b ((eq_iff (kind_at d x) 5).0 q)))
            ((or_iff (eqb x 0) (is_attribute d x)).0 ((true_iff _).1 e)),
        λ s. absurd s,
      )

  pub no_following_sibling : {old : List ℕ} → (eqb x 0 || is_attribute d x) ≡ true →
      Added (length d) old old (stepped following_sibling)
  unfolding on_axis
  no_following_sibling e = nothing_added (stepped following_sibling) (λ y l. rw (no_siblings e y))

  pub no_preceding_sibling : {old : List ℕ} → (eqb x 0 || is_attribute d x) ≡ true →
      Added (length d) old old (stepped preceding_sibling)
  unfolding on_axis
  no_preceding_sibling e = nothing_added (stepped preceding_sibling) (λ y l. rw (no_siblings e y))

  -- x has siblings
  pub may_have_siblings : (eqb x 0 || is_attribute d x) ≡ false → (0 < x) × NoAttribute d x
  may_have_siblings e =
      let f : ¬ (T (eqb x 0 || is_attribute d x)) = λ s. let z : T false = rw e at s in z in (
        pos_of_ne-zero (λ (q : x ≡ 0). f ((or_iff (eqb x 0) (is_attribute d x)).1 (inl ((eq_iff x 0).1 q)))),
        λ q. f ((or_iff (eqb x 0) (is_attribute d x)).1 (inr ((eq_iff (kind_at d x) 5).1 q))),
      )

  pub no_axis : {old : List ℕ} (a : ℕ) → 12 ≤ a → Added (length d) old old (stepped a)
  no_axis a h = nothing_added (stepped a) (λ y l. rw (← past_last_axis a d x y h))

module _ (d : Document) (es : List ℕ) (r : Prepared d es) where
  -- the first child of p, if it has any, is the row after p
  first_child : (p : ℕ) → p < length d → suc p < get_or es p 0 → is_child d p (suc p) ≡ true
  first_child p k h =
      let m : suc p < length d = let z = (at_end d es r p k).within in omega arith in
      let s = parent_smaller d r.formed (suc p) m (omega arith) in
      (true_iff _).0
      (yes_child d p (suc p) (
        omega arith,
        ⊎_elim
            (λ e. e)
            (λ a. let z = ancestor_smaller d r.formed {y = parent_at d (suc p)} (omega arith) a in
            absurd (omega arith))
            (ancestor_cases (below_end d es r p (suc p) (omega arith) m h k)),
      ))

  pub children_of : (x lo : ℕ) → x < length d → lo ≡ x + 1 → ChildrenFrom d es x lo (get_or es x 0)
  children_of x lo k q =
      let a = (at_end d es r x k).after in
      record {
        parent = k;
        ordered = omega arith;
        inside = omega arith;
        first = λ h. rw (q, add-one) (first_child x k (omega arith));
      }

  module _ (x p : ℕ) (k : x < length d) (g : 0 < x) (q : p ≡ parent_at d x) where
    parent_in : p < x
    parent_in = let s = parent_smaller d r.formed x k g in omega arith

    inside_parent : x < get_or es p 0
    inside_parent = let s = parent_in in
        ⊎_elim (λ h. absurd (past_end d es r p x h k (omega arith) (parent_is {y = x} g (sym q)))) (λ h. h)
        (le_or_lt (get_or es p 0) x)

    is_child_lem : is_child d p x ≡ true
    is_child_lem = (true_iff _).0 (yes_child d p x (g, sym q))

    pub later_siblings : ChildrenFrom d es p (get_or es x 0) (get_or es p 0)
    later_siblings =
        let s = parent_in in
        record {
          parent = omega arith;
          ordered = next_within d es r p x (omega arith) k is_child_lem inside_parent;
          inside = omega arith;
          first = next_is_child d es r p x (omega arith) k is_child_lem;
        }

    pub earlier_siblings : (lo : ℕ) → lo ≡ p + 1 → ChildrenFrom d es p lo x
    earlier_siblings lo e =
        let s = parent_in in
        let i = inside_parent in
        record {
          parent = omega arith;
          ordered = omega arith;
          inside = omega arith;
          first = λ h. rw (e, add-one) (first_child p (omega arith) (omega arith));
        }
