-- The walks from child to child and from parent to parent, on a well-formed document.
use Prim.Native.Nat.{ℕ, ◌≤◌, ◌<◌}
use mathlib.Core.Path.{◌≡◌, refl, sym, ◌∙◌}
use mathlib.Core.Bool.{Bool, true, false, ◌&&◌, and-false}
use mathlib.Core.List.{List}
use mathlib.Core.Logic.{inl, inr, ⊎_elim}
use native.Mathlib.Omega.{arith}
use lib.Dec.{T, eqb}
use lib.ListN.{length, get_or, set}
use borrow.Author.Tests.{eq-eqb, ne_eqb, lt-ltb, le-ltb}
use Rattle.xpath.specs.Document.{Document, parent_at, is_child, is_ancestor, well_formed}
use Rattle.xpath.specs.represent.Ends.{EndsAt, Prepared}
use Rattle.marking.specs.private.Added.{Added, ChildrenFrom}
use Rattle.marking.proofs.Added.{between, from_on, up_start, up_marked, up_left, down_start, down_on, down_end}
use Rattle.common.proofs.Reflect.{tests_equal, true_iff, le_or_lt, eq_or_ne}
use Rattle.xpath.proofs.Tree.{Ancestor, parent_is, ancestor_trans, ancestor_cases, child_yes, yes_child, ancestor_yes}
use Rattle.xpath.proofs.Tree.{yes_ancestor, parent_smaller, ancestor_smaller, no_later_ancestor, subtree_contiguous}
use Rattle.xpath.proofs.Facts.{AncestorOrSelf}
use Rattle.xpath.proofs.Order.{ancestor_of_or_self}

module _ (d : Document) (w : T (well_formed d)) where
  is_not_child : (p k : ℕ) → (0 < k → parent_at d k ≡ p → ⊥) → is_child d p k ≡ false
  is_not_child p k f = tests_equal (is_child d p k) false
      (λ t. let r = child_yes d p k t in absurd (f r.0 r.1), λ t. absurd t)

  is_not_ancestor : (x y : ℕ) → (Ancestor d x y → ⊥) → is_ancestor d x y ≡ false
  is_not_ancestor x y f = tests_equal (is_ancestor d x y) false (λ t. absurd (f (ancestor_yes d x y t)), λ t. absurd t)

  -- `at` is x or an ancestor of x, and has a parent: the parent is the next ancestor of x
  module _ (x at : ℕ) (l : x < length d) (o : AncestorOrSelf d at x) (h : 0 < at) where
    at_in : at ≤ x
    at_in = ⊎_elim (λ e. omega arith) (λ a. let g = ancestor_smaller d w l a in omega arith) o

    pub climb_less : parent_at d at < at
    climb_less = let g = at_in in parent_smaller d w at (omega arith) h

    climb_up : Ancestor d (parent_at d at) x
    climb_up = ancestor_of_or_self (parent_is {y = at} h refl) o

    pub climb_current : AncestorOrSelf d (parent_at d at) x
    climb_current = inr climb_up

    pub climb_is : is_ancestor d (parent_at d at) x ≡ true
    climb_is = (true_iff _).0 (yes_ancestor d w (parent_at d at) x l climb_up)

    pub climb_skips : (k : ℕ) → parent_at d at < k → k < at → is_ancestor d k x ≡ false
    climb_skips k p q =
        is_not_ancestor k x (λ a.
        let g = at_in in
        let b : Ancestor d k at = ⊎_elim (λ e. rw e a) (λ _. subtree_contiguous d w k at x q (omega arith) l a) o in
        let s = climb_less in
        ⊎_elim (λ e. omega arith) (λ c. let z = ancestor_smaller d w {y = parent_at d at} (omega arith) c in
        omega arith) (ancestor_cases b))

module _ (d : Document) (es : List ℕ) (r : Prepared d es) where
  abbrev end : ℕ → ℕ
  end x = get_or es x 0

  pub at_end : (x : ℕ) → x < length d → EndsAt d x (end x)
  at_end = r.ends.row

  pub below_end : (x y : ℕ) → x < y → y < length d → y < end x → x < length d → Ancestor d x y
  below_end x y h l m k =
      ancestor_yes d x y ((true_iff _).1 ((at_end x k).below y l ∙ rw (lt-ltb x y h, lt-ltb y (end x) m)))

  pub past_end : (x y : ℕ) → end x ≤ y → y < length d → x < length d → Ancestor d x y → ⊥
  past_end x y h l k a =
      let t : is_ancestor d x y ≡ true = (true_iff _).0 (yes_ancestor d r.formed x y l a) in
      let f : is_ancestor d x y ≡ false = (at_end x k).below y l ∙ rw (le-ltb y (end x) h, and-false) in
      let z : true ≡ false = sym t ∙ f in
      let y : T false = (true_iff false).1 (sym z) in
      y

  -- y is a child of p: the next one stands at the end of its subtree, if p has one more
  module _ (p y : ℕ) (k : p < length d) (l : y < length d) (c : is_child d p y ≡ true) where
    child : (0 < y) × (parent_at d y ≡ p)
    child = child_yes d p y ((true_iff _).1 c)

    parent_before : p < y
    parent_before = let g = parent_smaller d r.formed y l child.0 in omega (arith, child.1)

    pub next_after : y < end y
    next_after = (at_end y l).after

    pub none_between : (n : ℕ) → n < length d → y < n → n < end y → is_child d p n ≡ false
    none_between n m h g =
        is_not_child d r.formed p n (λ _ e.
        let b = parent_before in
        ⊎_elim
        (λ q. omega arith)
        (λ a. let z = ancestor_smaller d r.formed {y = parent_at d n} (omega arith) a in omega arith)
        (ancestor_cases (below_end y n h m g l)))

    pub next_within : y < end p → end y ≤ end p
    next_within h =
        ⊎_elim
        (λ g. g)
        (λ g. let b = parent_before in
        let in_document : end y ≤ length d = (at_end y l).within in
        let q : end p < length d = omega arith in
        absurd (past_end p (end p) (omega arith) q k
        (ancestor_trans (parent_is {y = y} child.0 child.1) (below_end y (end p) h q g l))))
        (le_or_lt (end y) (end p))

    pub next_is_child : end y < end p → is_child d p (end y) ≡ true
    next_is_child h =
        let b = parent_before in
        let g = next_after in
        let in_document : end p ≤ length d = (at_end p k).within in
        let m : end y < length d = omega arith in
        let apart : Ancestor d y (end y) → ⊥ = past_end y (end y) (omega arith) m l in
        let q = parent_at d (end y) in
        let up : Ancestor d q (end y) = parent_is {y = end y} (omega arith) refl in
        let less : q < end y = parent_smaller d r.formed (end y) m (omega arith) in
        let between : Ancestor d p q → ⊥ = λ a.
        let s = ancestor_smaller d r.formed {y = q} (omega arith) a in
        ⊎_elim
        (λ e. apart (rw e at up))
        (λ ne. ⊎_elim
        (λ t. apart (ancestor_trans (below_end y q (omega (arith, ne)) (omega arith) less l) up))
        (λ t. let v : Ancestor d q y = subtree_contiguous d r.formed q y (end y) t (omega arith) m up in
        ⊎_elim
        (λ e. omega (arith, child.1))
        (λ a. let z = ancestor_smaller d r.formed {y = parent_at d y} (omega (arith, child.1)) a in
        omega (arith, child.1))
        (ancestor_cases v))
        (le_or_lt y q))
        (eq_or_ne q y) in
        (true_iff _).0
        (yes_child d p (end y) (
          omega arith,
          ⊎_elim (λ e. e) (λ a. absurd (between a)) (ancestor_cases (below_end p (end y) (omega arith) m h k)),
        ))

-- the loops: the state of each, and its steps

-- children of p, from lo to before hi, of which those before y are marked
pub record ChildrenBelow (d : Document) (es : List ℕ) (t : ℕ → Bool) (p lo hi y : ℕ) (old new : List ℕ) : Type 0 where
  pub from : lo ≤ y
  pub inside : y ≤ get_or es p 0
  pub child : y < hi → is_child d p y ≡ true
  pub past : (k : ℕ) → k < length d → hi ≤ k → k < y → is_child d p k ≡ false
  pub added : Added (length d) old new (between lo y (λ k. is_child d p k && t k))

-- what is known at the child y, whose subtree ends at e, before it is marked or left
pub record AtChild (d : Document) (es : List ℕ) (t : ℕ → Bool) (p lo hi y e : ℕ) (old new : List ℕ) : Type 0 where
  pub in_marks : y < length new
  pub less : y < e
  pub marked : t y ≡ true → ChildrenBelow d es t p lo hi e old (set new y 1)
  pub left : t y ≡ false → ChildrenBelow d es t p lo hi e old new

module _ (d : Document) (es : List ℕ) (r : Prepared d es) (t : ℕ → Bool) (p lo hi : ℕ)
    (c : ChildrenFrom d es p lo hi) (old : List ℕ) where
  pub children_start : ChildrenBelow d es t p lo hi lo old old
  children_start =
      record {
        from = omega arith;
        inside = let a = c.ordered in let b = c.inside in omega arith;
        child = c.first;
        past = λ k _ m h. let a = c.ordered in absurd (omega arith);
        added = up_start (λ k. is_child d p k && t k) lo;
      }

  module _ (y e : ℕ) (new : List ℕ) (u : ChildrenBelow d es t p lo hi y old new) (h : y < hi)
      (q : e ≡ get_or es y 0)
      (few : length d ≤ length old) where
    in_document : y < length d
    in_document = let a = c.inside in let b = (r.ends.row p c.parent).within in omega arith

    gap : (k : ℕ) → k < length d → y < k → k < e → is_child d p k ≡ false
    gap k m a b = none_between d es r p y c.parent in_document (u.child h) k m a (omega arith)

    less : y < e
    less = let a = next_after d es r p y c.parent in_document (u.child h) in omega arith

    in_marks : y < length new
    in_marks = let a = in_document in omega (arith, u.added.size)

    next : (new' : List ℕ) → Added (length d) old new' (between lo e (λ k. is_child d p k && t k)) →
        ChildrenBelow d es t p lo hi e old new'
    next new' v =
        let a = less in
        let b = c.inside in
        record {
          from = let z = u.from in omega arith;
          inside = let z = next_within d es r p y c.parent in_document (u.child h) (omega arith) in omega arith;
          child = λ g. rw q (next_is_child d es r p y c.parent in_document (u.child h) (omega arith));
          past = λ k m g s. gap k m (omega arith) s;
          added = v;
        }

    pub at_child : AtChild d es t p lo hi y e old new
    at_child =
        record {
          in_marks = in_marks;
          less = less;
          marked =
              λ z. next (set new y 1)
              (up_marked (λ k. is_child d p k && t k) lo y e u.added u.from less
              (λ k m a b. rw (gap k m a b)) in_marks
              (rw (u.child h, z)));
          left =
              λ z. next new
              (up_left (λ k. is_child d p k && t k) lo y e u.added u.from less (λ k m a b. rw (gap k m a b))
              (rw (z, and-false)));
        }

-- ancestors of x, of which those from `at` on are marked
pub record AncestorsFrom (d : Document) (t : ℕ → Bool) (x at : ℕ) (old new : List ℕ) : Type 0 where
  pub current : AncestorOrSelf d at x
  pub added : Added (length d) old new (from_on at (λ k. is_ancestor d k x && t k))

module _ (d : Document) (w : T (well_formed d)) (t : ℕ → Bool) (x : ℕ) (l : x < length d) (old : List ℕ) where
  pub ancestors_start : AncestorsFrom d t x x old old
  ancestors_start =
      record {
        current = inl refl;
        added = down_start (λ k. is_ancestor d k x && t k) x (λ y m h. rw (no_later_ancestor d w y x l h));
      }

  pub ancestors_at : (at : ℕ) (new : List ℕ) → AncestorsFrom d t x at old new → at < length d
  ancestors_at at new u =
      ⊎_elim (λ e. omega arith) (λ a. let g = ancestor_smaller d w l a in omega arith) u.current

  module _ (at p : ℕ) (new : List ℕ) (u : AncestorsFrom d t x at old new) (h : 0 < at)
      (q : p ≡ parent_at d at) where
    pub ancestors_less : p < at
    ancestors_less = let a = climb_less d w x at l u.current h in omega arith

    pub ancestors_within : p < length d
    ancestors_within = let a = ancestors_less in let b = at_in d w x at l u.current h in omega arith

    skips : (y : ℕ) → y < length d → p < y → y < at → (is_ancestor d y x && t y) ≡ false
    skips y m a b = rw (climb_skips d w x at l u.current h y (omega arith) b)

    is_one : is_ancestor d p x ≡ true
    is_one = rw q (climb_is d w x at l u.current h)

    pub ancestors_on : {newer : List ℕ} → Added (length d) new newer (λ y. eqb p y && t y) →
        AncestorsFrom d t x p old newer
    ancestors_on a =
        record {
          current = rw q (climb_current d w x at l u.current h);
          added = down_on (λ k. is_ancestor d k x && t k) at p u.added ancestors_less skips (λ y. eqb p y && t y) a
              (rw (eq-eqb p p refl, is_one)) (λ y n. rw (ne_eqb p y (λ e. n (sym e))));
        }

  pub ancestors_end : (at : ℕ) (new : List ℕ) → AncestorsFrom d t x at old new → at ≤ 0 →
      Added (length d) old new (λ k. is_ancestor d k x && t k)
  ancestors_end at new u h = down_end (λ k. is_ancestor d k x && t k) at h u.added
