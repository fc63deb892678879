-- The axes and the meaning of terms as facts instead of tests; the two agree on every well-formed document.
use Prim.Native.Nat.{ℕ, zero, suc, ◌<◌}
use mathlib.Core.Path.{◌≡◌, sym}
use mathlib.Core.Bool.{Bool, not, ◌&&◌, ◌||◌}
use mathlib.Core.List.{[], ◌∷◌}
use mathlib.Core.Logic.{◌↔◌, ◌⊎◌, inl, inr, ⊎_elim}
use native.Mathlib.Omega.{arith}
use lib.Dec.{T, ltb, eqb, ltb→lt, lt→ltb}
use lib.ListN.{length, get_or}
use mir.Facts.{and_yes, yes_and, or_yes}
use Rattle.common.specs.Bounded.{any_below}
use Rattle.xpath.specs.Document.{Document, kind_at, parent_at, is_attribute, is_child, is_ancestor, are_siblings}
use Rattle.xpath.specs.Document.{well_formed}
use Rattle.xpath.specs.Axis.{on_axis, passes}
use Rattle.xpath.specs.Term.{Path, Qualifier, Void, Root, AxisStep, Union, Composition, Filter, True, False, Not}
use Rattle.xpath.specs.Term.{And, Or, In, some_of}
use Rattle.xpath.specs.Meaning.{selects, holds}
use Rattle.common.proofs.Reflect.{and_via, or_via, implies_via, not_via, eq_iff, le_iff, any_yes, yes_any, all_yes}
use Rattle.common.proofs.Reflect.{yes_all, T-dec, facts}
use Rattle.xpath.proofs.Tree.{Child, Ancestor, child_yes, yes_child, ancestor_yes, yes_ancestor}

-- x is y or an ancestor of y
abbrev pub AncestorOrSelf : Document → ℕ → ℕ → Type 0
AncestorOrSelf d x y = (x ≡ y) ⊎ Ancestor d x y

-- y is no attribute
abbrev pub NoAttribute : Document → ℕ → Type 0
NoAttribute d y = ¬ (kind_at d y ≡ 5)

-- x and y have the same parent, and y is later
abbrev pub FollowingSibling : Document → ℕ → ℕ → Type 0
FollowingSibling d x y = (0 < x) × (parent_at d y ≡ parent_at d x) × (x < y)

-- y follows x: it is later and no descendant
abbrev pub Following : Document → ℕ → ℕ → Type 0
Following d x y = (x < y) × ¬ (Ancestor d x y)

-- y is on axis a of x
unfoldable pub OnAxis : ℕ → Document → ℕ → ℕ → Type 0
OnAxis a d x y =
    get_or
    ((x ≡ y)
    ∷ (Child d x y × NoAttribute d y)
    ∷ Child d y x
    ∷ (Ancestor d x y × NoAttribute d y)
    ∷ Ancestor d y x
    ∷ ((x ≡ y) ⊎ (Ancestor d x y × NoAttribute d y))
    ∷ AncestorOrSelf d y x
    ∷ (FollowingSibling d x y × NoAttribute d x × NoAttribute d y)
    ∷ (FollowingSibling d y x × NoAttribute d x × NoAttribute d y)
    ∷ (Following d x y × NoAttribute d y)
    ∷ (Following d y x × NoAttribute d y)
    ∷ (Child d x y × (kind_at d y ≡ 5))
    ∷ [])
    a ⊥

unfoldable mutual
  -- from x, the path selects y
  pub Selects : Document → Path → ℕ → ℕ → Type 0
  Selects d Void x y = ⊥
  Selects d Root x y = y ≡ 0
  Selects d (AxisStep a t c) x y = OnAxis a d x y × T (passes a t c d y)
  Selects d (Union p q) x y = Selects d p x y ⊎ Selects d q x y
  Selects d (Composition p q) x y = (z : ℕ) × (z < length d) × Selects d p x z × Selects d q z y
  Selects d (Filter p f) x y = Selects d p x y × Holds d f y

  -- the qualifier is true at x
  pub Holds : Document → Qualifier → ℕ → Type 0
  Holds d True x = Unit {0}
  Holds d False x = ⊥
  Holds d (Not f) x = ¬ (Holds d f x)
  Holds d (And f g) x = Holds d f x × Holds d g x
  Holds d (Or f g) x = Holds d f x ⊎ Holds d g x
  Holds d (In p q) x = (y : ℕ) → y < length d → Selects d p x y → Selects d q x y

eq_iff_sym : (m n : ℕ) → T (eqb m n) ↔ (n ≡ m)
eq_iff_sym m n = (λ t. sym ((eq_iff m n).0 t), λ e. (eq_iff m n).1 (sym e))

siblings_iff : (d : Document) (x y : ℕ) →
    T (are_siblings d x y)
    ↔ ((0 < x) × (0 < y) × (parent_at d y ≡ parent_at d x) × ¬ (x ≡ y) × NoAttribute d x × NoAttribute d y)
unfolding are_siblings
siblings_iff d x y = (
  λ t. let r = simp (facts, are_siblings) at t in
      let c = child_yes d _ _ r.0.0.0.1 in (omega (arith, r.0.0.0.0), c.0, c.1, r.0.0.1, r.0.1, r.1),
  λ s. simp (facts, are_siblings) ((((λ e. omega (arith, s.0), yes_child d _ y (s.1, s.2)), s.3), s.4), s.5),
)

following_sibling_iff : (d : Document) (x y : ℕ) →
    T (are_siblings d x y && ltb x y) ↔ (FollowingSibling d x y × NoAttribute d x × NoAttribute d y)
following_sibling_iff d x y =
    let e = and_via (are_siblings d x y) (ltb x y) (siblings_iff d x y) (le_iff (suc x) y) in (
      λ t. let r = e.0 t in ((r.0.0, r.0.2, r.1), r.0.4, r.0.5),
      λ (s, m, n). e.1 ((s.0, omega arith, s.1, λ e. omega arith, m, n), s.2),
    )

preceding_sibling_iff : (d : Document) (x y : ℕ) →
    T (are_siblings d x y && ltb y x) ↔ (FollowingSibling d y x × NoAttribute d x × NoAttribute d y)
preceding_sibling_iff d x y =
    let e = and_via (are_siblings d x y) (ltb y x) (siblings_iff d x y) (le_iff (suc y) x) in (
      λ t. let r = e.0 t in ((r.0.1, sym r.0.2, r.1), r.0.4, r.0.5),
      λ (s, m, n). e.1 ((omega arith, s.0, sym s.1, λ e. omega arith, m, n), s.2),
    )

-- a test of y that leaves attributes out
pub left_out_via : {A : Type 0} (d : Document) (y : ℕ) (b : Bool) → T b ↔ A →
    T (b && not (is_attribute d y)) ↔ (A × NoAttribute d y)
left_out_via d y b e = and_via b (not (is_attribute d y)) e (not_via (is_attribute d y) (eq_iff (kind_at d y) 5))

-- a path never selects a number beyond the document
pub selects_in_document : (d : Document) (p : Path) (x y : ℕ) → T (selects d p x y) → y < length d
unfolding selects
selects_in_document d Void x y t = absurd t
selects_in_document d Root x y t = ltb→lt y (length d) (and_yes (ltb y (length d)) (eqb y 0) t).0
selects_in_document d (AxisStep a n c) x y t =
    ltb→lt y (length d) (and_yes (ltb y (length d)) (on_axis a d x y && passes a n c d y) t).0
selects_in_document d (Union p q) x y t =
    ⊎_elim (selects_in_document d p x y) (selects_in_document d q x y) (or_yes (selects d p x y) (selects d q x y) t)
selects_in_document d (Composition p q) x y t =
    let r = any_yes (length d) (λ z. selects d p x z && selects d q z y) t in
    selects_in_document d q r.0 y (and_yes (selects d p x r.0) (selects d q r.0 y) r.2).1
selects_in_document d (Filter p f) x y t = selects_in_document d p x y (and_yes (selects d p x y) (holds d f y) t).0

module _ (d : Document) (w : T (well_formed d)) where
  child_iff : (x y : ℕ) → T (is_child d x y) ↔ Child d x y
  child_iff x y = (child_yes d x y, yes_child d x y)

  ancestor_iff : (x y : ℕ) → y < length d → T (is_ancestor d x y) ↔ Ancestor d x y
  ancestor_iff x y l = (ancestor_yes d x y, yes_ancestor d w x y l)

  descendant_iff : (x y : ℕ) → y < length d →
      T (is_ancestor d x y && not (is_attribute d y)) ↔ (Ancestor d x y × NoAttribute d y)
  descendant_iff x y l = left_out_via d y (is_ancestor d x y) (ancestor_iff x y l)

  following_iff : (x y : ℕ) → y < length d → T (ltb x y && not (is_ancestor d x y)) ↔ Following d x y
  following_iff x y l =
      and_via (ltb x y) (not (is_ancestor d x y)) (le_iff (suc x) y) (not_via (is_ancestor d x y) (ancestor_iff x y l))

  pub on_axis_iff : (a x y : ℕ) → x < length d → y < length d → T (on_axis a d x y) ↔ OnAxis a d x y
  unfolding on_axis OnAxis
  on_axis_iff zero x y k l = eq_iff x y
  on_axis_iff (suc zero) x y k l = left_out_via d y (is_child d x y) (child_iff x y)
  on_axis_iff (suc (suc zero)) x y k l = child_iff y x
  on_axis_iff (suc (suc (suc zero))) x y k l = descendant_iff x y l
  on_axis_iff (suc (suc (suc (suc zero)))) x y k l = ancestor_iff y x k
  on_axis_iff (suc (suc (suc (suc (suc zero))))) x y k l =
      or_via (eqb x y) (is_ancestor d x y && not (is_attribute d y)) (eq_iff x y) (descendant_iff x y l)
  on_axis_iff (suc (suc (suc (suc (suc (suc zero)))))) x y k l =
      or_via (eqb x y) (is_ancestor d y x) (eq_iff_sym x y) (ancestor_iff y x k)
  on_axis_iff (suc (suc (suc (suc (suc (suc (suc zero))))))) x y k l = following_sibling_iff d x y
  on_axis_iff (suc (suc (suc (suc (suc (suc (suc (suc zero)))))))) x y k l = preceding_sibling_iff d x y
  on_axis_iff (suc (suc (suc (suc (suc (suc (suc (suc (suc zero))))))))) x y k l =
      left_out_via d y (ltb x y && not (is_ancestor d x y)) (following_iff x y l)
  on_axis_iff (suc (suc (suc (suc (suc (suc (suc (suc (suc (suc zero)))))))))) x y k l =
      left_out_via d y (ltb y x && not (is_ancestor d y x)) (following_iff y x k)
  on_axis_iff (suc (suc (suc (suc (suc (suc (suc (suc (suc (suc (suc zero))))))))))) x y k l =
      and_via (is_child d x y) (is_attribute d y) (child_iff x y) (eq_iff (kind_at d y) 5)
  on_axis_iff (suc (suc (suc (suc (suc (suc (suc (suc (suc (suc (suc (suc n)))))))))))) x y k l = (λ t. t, λ t. t)

  -- a test that is guarded by y < length d
  guarded_iff : {A : Type 0} (b : Bool) (y : ℕ) → y < length d → T b ↔ A → T (ltb y (length d) && b) ↔ A
  guarded_iff b y l e = (
    λ t. e.0 (and_yes (ltb y (length d)) b t).1,
    λ h. yes_and (ltb y (length d)) b (lt→ltb y (length d) l) (e.1 h),
  )

  mutual
    unfolding selects Selects

    pub selects_iff : (p : Path) (x y : ℕ) → x < length d → y < length d → T (selects d p x y) ↔ Selects d p x y
    selects_iff Void x y k l = (λ t. t, λ t. t)
    selects_iff Root x y k l = guarded_iff (eqb y 0) y l (eq_iff y 0)
    selects_iff (AxisStep a t c) x y k l =
        guarded_iff (on_axis a d x y && passes a t c d y) y l
        (and_via (on_axis a d x y) (passes a t c d y) (on_axis_iff a x y k l) (λ u. u, λ u. u))
    selects_iff (Union p q) x y k l =
        or_via (selects d p x y) (selects d q x y) (selects_iff p x y k l) (selects_iff q x y k l)
    selects_iff (Composition p q) x y k l = (
      λ t. let r = any_yes (length d) (λ z. selects d p x z && selects d q z y) t in
          let s = and_yes (selects d p x r.0) (selects d q r.0 y) r.2 in
          (r.0, r.1, (selects_iff p x r.0 k r.1).0 s.0, (selects_iff q r.0 y r.1 l).0 s.1),
      λ r. yes_any (length d) (λ z. selects d p x z && selects d q z y) r.0 r.1
          (yes_and (selects d p x r.0) (selects d q r.0 y)
          ((selects_iff p x r.0 k r.1).1 r.2) ((selects_iff q r.0 y r.1 l).1 r.3)),
    )
    selects_iff (Filter p f) x y k l = and_via (selects d p x y) (holds d f y) (selects_iff p x y k l) (holds_iff f y l)

    pub holds_iff : (f : Qualifier) (x : ℕ) → x < length d → T (holds d f x) ↔ Holds d f x
    holds_iff True x k = (λ u. u, λ u. u)
    holds_iff False x k = (λ u. u, λ u. u)
    holds_iff (Not f) x k = not_via (holds d f x) (holds_iff f x k)
    holds_iff (And f g) x k = and_via (holds d f x) (holds d g x) (holds_iff f x k) (holds_iff g x k)
    holds_iff (Or f g) x k = or_via (holds d f x) (holds d g x) (holds_iff f x k) (holds_iff g x k)
    holds_iff (In p q) x k = (
      λ t y l. (implies_via (selects d p x y) (selects d q x y) (selects_iff p x y k l) (selects_iff q x y k l)).0
          (all_yes (length d) (λ y. not (selects d p x y) || selects d q x y) t y l),
      λ g. yes_all (length d) (λ y. not (selects d p x y) || selects d q x y)
          (λ y l. (implies_via (selects d p x y) (selects d q x y) (selects_iff p x y k l) (selects_iff q x y k l)).1
          (g y l)),
    )

  -- a qualifier is true or false at a node
  pub holds_dec : (f : Qualifier) (x : ℕ) → x < length d → Holds d f x ⊎ ¬ (Holds d f x)
  holds_dec f x k = ⊎_elim (λ t. inl ((holds_iff f x k).0 t)) (λ n. inr (λ h. n ((holds_iff f x k).1 h)))
      (T-dec (holds d f x))

  -- "some p" holds just where p selects a node
  pub some_iff : (p : Path) (x : ℕ) → x < length d →
      Holds d (some_of p) x ↔ ((y : ℕ) × (y < length d) × Selects d p x y)
  unfolding Selects
  some_iff p x k = (
    λ h. ⊎_elim
        (λ t. let r = any_yes (length d) (selects d p x) t in (r.0, r.1, (selects_iff p x r.0 k r.1).0 r.2))
        (λ n. absurd (h (λ y l s. n (yes_any (length d) (selects d p x) y l ((selects_iff p x y k l).1 s)))))
        (T-dec (any_below (length d) (selects d p x))),
    λ s n. n s.0 s.1 s.2,
  )
