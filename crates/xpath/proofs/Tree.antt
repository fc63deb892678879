-- Laws of the tree that a well-formed document is, of any length.
use Prim.Native.Nat.{ℕ, zero, suc, ◌≤◌, ◌<◌}
use mathlib.Core.Path.{◌≡◌, refl, sym, ◌∙◌}
use mathlib.Core.Bool.{false, not, ◌&&◌}
use mathlib.Core.Logic.{◌⊎◌, inl, inr, ⊎_elim}
use native.Mathlib.Omega.{arith}
use lib.Dec.{T, leb, eqb}
use lib.ListN.{length}
use mir.Facts.{and_yes, yes_and, or_yes, eqb_yes, yes_eqb, eqb_no, no_eqb}
use Rattle.common.specs.Bounded.{all_below}
use Rattle.xpath.specs.Document.{Document, kind_at, parent_at, is_child, climb_meets, is_ancestor, kind_and_name_ok}
use Rattle.xpath.specs.Document.{row_ok, well_formed}
use Rattle.common.proofs.Reflect.{tests_equal, yes_or, all_yes, below_suc, eq_or_ne, facts}

-- y is a child of x
abbrev pub Child : Document → ℕ → ℕ → Type 0
Child d x y = (0 < y) × (parent_at d y ≡ x)

-- x is an ancestor of y
pub data Ancestor (d : Document) (x : ℕ) : ℕ → Type 0 where
  parent_is : {y : ℕ} → 0 < y → parent_at d y ≡ x → Ancestor d x y
  above_parent : {y : ℕ} → 0 < y → Ancestor d x (parent_at d y) → Ancestor d x y

pub child_yes : (d : Document) (x y : ℕ) → T (is_child d x y) → Child d x y
unfolding is_child
child_yes d x y t =
    let r = and_yes (not (eqb y 0)) (eqb (parent_at d y) x) t in
    (omega (arith, eqb_no {a = y} {b = 0} r.0), eqb_yes r.1)

pub yes_child : (d : Document) (x y : ℕ) → Child d x y → T (is_child d x y)
unfolding is_child
yes_child d x y c = yes_and (not (eqb y 0)) (eqb (parent_at d y) x) (no_eqb {a = y} {b = 0} (λ e. omega arith))
    (yes_eqb c.1)

pub ancestor_trans : {d : Document} {x y z : ℕ} → Ancestor d x y → Ancestor d y z → Ancestor d x z
ancestor_trans a (parent_is h e) = above_parent h (rw e a)
ancestor_trans a (above_parent h b) = above_parent h (ancestor_trans a b)

-- an ancestor of y is the parent of y, or an ancestor of it
pub ancestor_cases : {d : Document} {x y : ℕ} → Ancestor d x y → (parent_at d y ≡ x) ⊎ Ancestor d x (parent_at d y)
ancestor_cases (parent_is h e) = inl e
ancestor_cases (above_parent h a) = inr a

-- row 0 has no ancestor
pub descendant_positive : {d : Document} {x y : ℕ} → Ancestor d x y → 0 < y
descendant_positive (parent_is h e) = h
descendant_positive (above_parent h a) = h

-- an ancestor x of y has a child that is y or an ancestor of y
pub child_toward : {d : Document} {x y : ℕ} → Ancestor d x y → (c : ℕ) × Child d x c × ((c ≡ y) ⊎ Ancestor d c y)
child_toward {y = y} (parent_is p e) = (y, (p, e), inl refl)
child_toward (above_parent p a) =
    let r = child_toward a in (r.0, r.1, inr (⊎_elim (λ e. parent_is p (sym e)) (λ b. above_parent p b) r.2))

-- the climb meets ancestors only
climb_yes : (n : ℕ) (d : Document) (x y : ℕ) → T (climb_meets n d x y) → Ancestor d x y
unfolding climb_meets
climb_yes zero d x y t = absurd t
climb_yes (suc n) d x y t =
    ⊎_elim
    (λ c. let r = child_yes d x y c in parent_is r.0 r.1)
    (λ u. let r = and_yes (not (eqb y 0)) (climb_meets n d x (parent_at d y)) u in
    above_parent (omega (arith, eqb_no {a = y} {b = 0} r.0)) (climb_yes n d x (parent_at d y) r.1))
    (or_yes (is_child d x y) (not (eqb y 0) && climb_meets n d x (parent_at d y)) t)

pub ancestor_yes : (d : Document) (x y : ℕ) → T (is_ancestor d x y) → Ancestor d x y
unfolding is_ancestor
ancestor_yes d x y t = climb_yes y d x y t

-- each of the rows 1 to n - 1 comes after its parent
abbrev pub ParentsSmaller : Document → ℕ → Type 0
ParentsSmaller d n = (k : ℕ) → k < n → 0 < k → parent_at d k < k

ancestor_smaller_below : {d : Document} {n x y : ℕ} → ParentsSmaller d n → y < n → Ancestor d x y → x < y
ancestor_smaller_below {d} {n} {x} {y} f l (parent_is h e) = omega (arith, f y l h)
ancestor_smaller_below {d} {n} {x} {y} f l (above_parent h a) =
    let p : parent_at d y < y = f y l h in
    omega (arith, ancestor_smaller_below {n = n} f (omega arith) a)

-- the climb meets every ancestor, if it may take enough parents
yes_climb : {d : Document} {m x y : ℕ} → ParentsSmaller d m → y < m → (n : ℕ) → y ≤ n → Ancestor d x y →
    T (climb_meets n d x y)
unfolding climb_meets parent_at
yes_climb f l zero h (parent_is p e) = omega arith
yes_climb {d} {m} {x} {y} f l (suc n) h (parent_is p e) = yes_or (is_child d x y) _ (inl (yes_child d x y (p, e)))
yes_climb f l zero h (above_parent p a) = omega arith
yes_climb {d} {m} {x} {y} f l (suc n) h (above_parent p a) =
    let q : parent_at d y < y = f y l p in
    let t : T (climb_meets n d x (parent_at d y)) =
    yes_climb {m = m} {y = parent_at d y} f (omega arith) n (omega arith) a in
    yes_or (is_child d x y) _ (inr (yes_and (not (eqb y 0)) _ (no_eqb {a = y} {b = 0} (λ e. omega arith)) t))

-- what is asked of row n + 1: its parent is row n or an ancestor of it, and is the root or an element; it is no root
abbrev RowAsked : Document → ℕ → Type 0
RowAsked d n =
    ((parent_at d (suc n) ≡ n) ⊎ Ancestor d (parent_at d (suc n)) n)
    × (kind_at d (parent_at d (suc n)) ≤ 1)
    × (0 < kind_at d (suc n))

-- a row after row 0 is no root, whatever its name
kind_not_root : (kind name : ℕ) → T (kind_and_name_ok kind name) → 0 < kind
unfolding kind_and_name_ok
kind_not_root zero name t = absurd t
kind_not_root (suc kind) name t = omega arith

row_asked : (d : Document) (n : ℕ) → T (row_ok d (suc n)) → RowAsked d n
unfolding row_ok
row_asked d n t =
    let r = simp (facts, row_ok) at t in (
      ⊎_elim (λ e. inl (eqb_yes e)) (λ a. inr (ancestor_yes d _ _ a)) r.0.0.0,
      r.0.0.1,
      kind_not_root _ _ r.0.1,
    )

-- where the rows below n are as they must be, each comes after its parent
pub parents_smaller : (d : Document) (n : ℕ) → ((k : ℕ) → k < n → T (row_ok d k)) → ParentsSmaller d n
parents_smaller d zero ok k h p = omega arith
parents_smaller d (suc zero) ok k h p = omega arith
parents_smaller d (suc (suc n)) ok k h p =
    let smaller = parents_smaller d (suc n) (λ j l. ok j (omega arith)) in
    ⊎_elim
    (λ e. rw e
    (⊎_elim
    (λ q. omega arith)
    (λ a. let b = ancestor_smaller_below smaller (omega arith) a in omega arith)
    (row_asked d n (ok (suc n) (omega arith))).0))
    (λ less. smaller k less p)
    (below_suc h)

module _ (d : Document) (w : T (well_formed d)) where
  row_ok_lem : (n : ℕ) → n < length d → T (row_ok d n)
  unfolding well_formed
  row_ok_lem n l = all_yes (length d) (row_ok d) (and_yes (leb 1 (length d)) (all_below (length d) (row_ok d)) w).1 n l

  pub row_facts : (n : ℕ) → suc n < length d → RowAsked d n
  row_facts n l = row_asked d n (row_ok_lem (suc n) l)

  -- what is asked of row n + 1, an attribute: its parent is an element, and is row n or has row n for an attribute
  pub attribute_facts : (n : ℕ) → suc n < length d → kind_at d (suc n) ≡ 5 →
      (kind_at d (parent_at d (suc n)) ≡ 1)
      × ((parent_at d (suc n) ≡ n) ⊎ ((kind_at d n ≡ 5) × (parent_at d n ≡ parent_at d (suc n))))
  unfolding row_ok
  attribute_facts n l k =
      let r = simp (facts, row_ok) at (row_ok_lem (suc n) l) in
      ⊎_elim
      (λ t. absurd (simp facts at t k))
      (λ t. let u = simp facts at t in (u.0, ⊎_elim (λ e. inl (eqb_yes e)) (λ s. inr (simp facts at s)) u.1))
      r.1

  -- a parent's row is smaller
  pub parent_smaller : ParentsSmaller d (length d)
  parent_smaller = parents_smaller d (length d) row_ok_lem

  pub ancestor_smaller : {x y : ℕ} → y < length d → Ancestor d x y → x < y
  ancestor_smaller l a = ancestor_smaller_below parent_smaller l a

  pub yes_ancestor : (x y : ℕ) → y < length d → Ancestor d x y → T (is_ancestor d x y)
  unfolding is_ancestor
  yes_ancestor x y l a = yes_climb parent_smaller l y (omega arith) a

  -- no row is an ancestor of itself or of an earlier one
  pub no_later_ancestor : (x y : ℕ) → y < length d → y ≤ x → is_ancestor d x y ≡ false
  no_later_ancestor x y l h =
      tests_equal (is_ancestor d x y) false
      (λ t. let a = ancestor_smaller l (ancestor_yes d x y t) in omega arith, λ f. absurd f)

  root_above_to : (n y : ℕ) → y ≤ n → y < length d → 0 < y → Ancestor d 0 y
  root_above_to zero y h l p = absurd (omega arith)
  root_above_to (suc n) y h l p =
      let q : parent_at d y < y = parent_smaller y l p in
      ⊎_elim
      (λ e. parent_is p e)
      (λ ne. above_parent p (root_above_to n (parent_at d y) (omega arith) (omega arith) (omega arith)))
      (eq_or_ne (parent_at d y) 0)

  -- row 0 is an ancestor of every other row
  pub root_above : (y : ℕ) → y < length d → 0 < y → Ancestor d 0 y
  root_above y l p = root_above_to y y (omega arith) l p

  -- an ancestor of row v + 1 that is not v is an ancestor of v
  ancestor_of_previous : (z v : ℕ) → suc v < length d → z < v → Ancestor d z (suc v) → Ancestor d z v
  ancestor_of_previous z v l h a = by_parent (ancestor_cases a) (row_facts v l).0
    where
      by_parent : (parent_at d (suc v) ≡ z) ⊎ Ancestor d z (parent_at d (suc v)) →
          (parent_at d (suc v) ≡ v) ⊎ Ancestor d (parent_at d (suc v)) v → Ancestor d z v
      by_parent (inl e) (inl f) = absurd (omega arith)
      by_parent (inl e) (inr b) = rw e at b
      by_parent (inr c) (inl f) = rw f at c
      by_parent (inr c) (inr b) = ancestor_trans c b

  -- subtrees are contiguous in document order: between a row and its descendant stand only descendants
  pub subtree_contiguous : (x y z : ℕ) → x < y → y ≤ z → z < length d → Ancestor d x z → Ancestor d x y
  subtree_contiguous x y zero h k l a = absurd (omega arith)
  subtree_contiguous x y (suc v) h k l a =
      ⊎_elim
      (λ e. rw e a)
      (λ ne. let g : y ≤ v = omega arith in
      subtree_contiguous x y v h g (omega arith) (ancestor_of_previous x v l (omega arith) a))
      (eq_or_ne y (suc v))

  -- a row after row 0 is no root
  pub kind_positive : (y : ℕ) → y < length d → 0 < y → 0 < kind_at d y
  kind_positive zero l p = absurd (omega arith)
  kind_positive (suc n) l p = (row_facts n l).2

  parent_kind : (y : ℕ) → y < length d → 0 < y → kind_at d (parent_at d y) ≤ 1
  parent_kind zero l p = absurd (omega arith)
  parent_kind (suc n) l p = (row_facts n l).1

  -- row 0 is a root
  pub root_kind : 0 < length d → kind_at d 0 ≡ 0
  unfolding row_ok
  root_kind l = let r = simp (facts, row_ok) at (row_ok_lem 0 l) in r.0.0

  -- an ancestor other than row 0 is an element
  pub ancestor_is_element : {x y : ℕ} → y < length d → 0 < x → Ancestor d x y → kind_at d x ≡ 1
  ancestor_is_element {x} {y} l p (parent_is h e) =
      let q : parent_at d y < y = parent_smaller y l h in
      let b : kind_at d x ≤ 1 = rw e at (parent_kind y l h) in
      omega (arith, kind_positive x (omega arith) p)
  ancestor_is_element {x} {y} l p (above_parent h a) = let q = parent_smaller y l h in
      ancestor_is_element (omega arith) p a

  -- an ancestor is the root or an element, and so no attribute
  pub ancestor_kind : {x y : ℕ} → y < length d → Ancestor d x y → kind_at d x ≤ 1
  ancestor_kind {x} {y} l (parent_is h e) = rw e at (parent_kind y l h)
  ancestor_kind {x} {y} l (above_parent h a) = let q = parent_smaller y l h in ancestor_kind (omega arith) a

  -- between an element and an attribute of it stand only attributes of it
  pub attributes_first : (s v : ℕ) → v < length d → kind_at d v ≡ 5 → parent_at d v < s → s ≤ v →
      (kind_at d s ≡ 5) × (parent_at d s ≡ parent_at d v)
  attributes_first s zero l k h g = absurd (omega arith)
  attributes_first s (suc n) l k h g =
      ⊎_elim
      (λ e. rw e (k, refl))
      (λ ne. ⊎_elim
      (λ p. absurd (omega (arith, ne)))
      (λ (m, q). let (i, j) = attributes_first s n (omega arith) m (omega arith) (omega (arith, ne)) in (i, j ∙ q))
      (attribute_facts n l k).1)
      (eq_or_ne s (suc n))
