-- What paths select from sets and back, and where qualifiers hold, by their parts.
use Prim.Native.Nat.{ℕ, zero, suc, ◌+◌, ◌≤◌, ◌<◌}
use mathlib.Core.Path.{◌≡◌, refl, sym, ap, subst, ◌∙◌}
use mathlib.Core.Bool.{Bool, true, false, not, ◌&&◌, ◌||◌, and-false, or-false, and-true}
use mathlib.Core.List.{List}
use mathlib.Core.Logic.{inl, inr, ⊎_elim}
use native.Mathlib.Omega.{arith}
use lib.Dec.{T, T_not, not_T, leb, ltb, eqb, lt→ltb}
use lib.ListN.{length, get_or, set, take, replicate, length-replicate, length-set, get_or-eq_default}
use lib.Seq.{get_or-set_same, get_or-set_other}
use mir.Facts.{and_yes, yes_and, or_yes, eqb_yes, yes_eqb, leb_yes}
use borrow.Author.Tests.{eq-eqb, ne_eqb, lt-ltb}
use Rattle.common.specs.Bounded.{any_below, all_below}
use Rattle.common.proofs.Reflect.{tests_equal, any_yes, yes_any, all_yes, yes_all, yes_or, eq_or_ne}
use Rattle.common.proofs.Tests.{any_cong}
use Rattle.xpath.specs.Document.{Document, row_ok, well_formed}
use Rattle.xpath.specs.Term.{Path, Qualifier, Void, Root, AxisStep, Union, Composition, Filter, True, False, Not, And}
use Rattle.xpath.specs.Term.{Or, In}
use Rattle.xpath.specs.Meaning.{selects, holds}
use Rattle.terms.specs.Row.{Row, row_at}
use Rattle.terms.specs.Terms.{Term, terms, term_by, as_path, as_qualifier, path_in, qualifier_in}
use Rattle.selection.proofs.Folds.{all_cong}
use Rattle.set_selection.proofs.Written.{DoneBelow}
use Rattle.selection.proofs.Rows.{term_not_held, term_held, leaf_path_lem, false_qualifier}
use Rattle.selection.specs.private.Parts.{leaf_path}
use Rattle.set_selection.specs.Sets.{marked, image, Image, NoMarks, Pointwise}
use Rattle.documents.specs.Columns.{rows_of, Sound}
use Rattle.set_selection.specs.Evaluations.{Holding, Only}
use Rattle.set_selection.proofs.Anys.{subst_T, any_none, any_single}
use Rattle.set_selection.proofs.Images.{image_cong, image_then, image_kept, image_none, image_or, image_on}
use Rattle.set_selection.proofs.Images.{no_marks_made, all_marked}
use Rattle.set_selection.proofs.Relations.{size}

turned : (a b : Bool) → (a && b) ≡ (b && a)
turned true true = refl
turned true false = refl
turned false true = refl
turned false false = refl

pub positive : (d : Document) → T (well_formed d) → 0 < length d
unfolding well_formed
positive d w = leb_yes (and_yes (leb 1 (length d)) (all_below (length d) (row_ok d)) w).0

-- what one node is related to
pub image_of_only : (R : ℕ → ℕ → Bool) {n x : ℕ} {m : List Bool} → x < n → Only n x m → (y : ℕ) → image R m y ≡ R x y
image_of_only R {n} {x} {m} h u y =
    any_cong (λ z. marked m z && R z y) (λ z. R z y && eqb x z) (length m)
    (λ z j. ap (λ (b : Bool). b && R z y) (u.each z (omega (arith, u.size, j))) ∙ turned (eqb x z) (R z y))
    ∙ any_single (length m) x (λ z. R z y) (omega (arith, u.size, h))

module _ (d : Document) where
  pub void_selected : {p : Path} → p ≡ Void → {m out : List Bool} {n : ℕ} → n ≡ length m → out ≡ replicate n false →
      Image (selects d p) m out
  unfolding selects
  void_selected e {m} {out} {n} l o =
      rw (e, o)
      (image_none (selects d Void) m (replicate n false) (no_marks_made n) (length-replicate {A = Bool} n false ∙ l)
      (λ x y h k. refl))

  pub void_back : {p : Path} → p ≡ Void → {m out : List Bool} {n : ℕ} → n ≡ length m → out ≡ replicate n false →
      Image (λ x y. selects d p y x) m out
  unfolding selects
  void_back e {m} {out} {n} l o =
      rw (e, o)
      (image_none (λ x y. selects d Void y x) m (replicate n false) (no_marks_made n)
      (length-replicate {A = Bool} n false ∙ l) (λ x y h k. refl))

  pub root_selected : {m out : List Bool} {n : ℕ} {b : Bool} → n ≡ length m → length m ≡ length d → 0 < length d →
      b ≡ any_below (length m) (marked m) → out ≡ set (replicate n false) 0 b → Image (selects d Root) m out
  unfolding selects
  root_selected {m} {out} {n} {b} l e h f o =
      rw o
      (record {
        size = length-set (replicate n false) 0 b ∙ length-replicate {A = Bool} n false ∙ l;
        each = λ y k. ⊎_elim
            (λ q. ap (λ (i : ℕ). marked (set (replicate n false) 0 b) i) q
            ∙ get_or-set_same (replicate n false) 0 b false (omega
            (arith, length-replicate {A = Bool} n false, h, l, e))
            ∙ f
            ∙ any_cong (marked m) (λ x. marked m x && (ltb y (length d) && eqb y 0)) (length m)
            (λ x j. sym (rw (lt-ltb y (length d) (omega (arith, k, e)), eq-eqb y 0 q) (and-true (marked m x)))))
            (λ ne. get_or-set_other (replicate n false) 0 y b false ne
            ∙ (no_marks_made n).none y
            ∙ sym (any_none (length m) (λ x. marked m x && (ltb y (length d) && eqb y 0))
            (λ x j. rw (ne_eqb y 0 ne, and-false, and-false) refl)))
            (eq_or_ne y 0);
      })

  root_image : (m : List Bool) (y : ℕ) → length m ≡ length d → 0 < length d →
      image (λ x y. selects d Root y x) m y ≡ marked m 0
  unfolding selects
  root_image m y e h =
      tests_equal (image (λ x y. selects d Root y x) m y) (marked m 0) (
        λ t. let r = any_yes (length m) (λ x. marked m x && (ltb x (length d) && eqb x 0)) t in
            let p = and_yes (marked m r.0) (ltb r.0 (length d) && eqb r.0 0) r.2 in
            let q = and_yes (ltb r.0 (length d)) (eqb r.0 0) p.1 in
            let z : r.0 ≡ 0 = eqb_yes q.1 in subst (λ (i : ℕ). T (marked m i)) z p.0,
        λ t. yes_any (length m) (λ x. marked m x && (ltb x (length d) && eqb x 0)) 0 (omega (arith, e, h))
            (yes_and (marked m 0) (ltb 0 (length d) && eqb 0 0) t
            (yes_and (ltb 0 (length d)) (eqb 0 0) (lt→ltb 0 (length d) h) tt)),
      )

  pub root_back_all : {m out : List Bool} {n : ℕ} → n ≡ length m → length m ≡ length d → 0 < length d →
      marked m 0 ≡ true → out ≡ replicate n true → Image (λ x y. selects d Root y x) m out
  root_back_all {m} {out} {n} l e h f o =
      rw o
      (record {
        size = length-replicate {A = Bool} n true ∙ l;
        each = λ y k. all_marked n y (omega (arith, k, l)) ∙ sym f ∙ sym (root_image m y e h);
      })

  pub root_back_none : {m out : List Bool} {n : ℕ} → n ≡ length m → length m ≡ length d → 0 < length d →
      marked m 0 ≡ false → out ≡ replicate n false → Image (λ x y. selects d Root y x) m out
  root_back_none {m} {out} {n} l e h f o =
      rw o
      (record {
        size = length-replicate {A = Bool} n false ∙ l;
        each = λ y k. (no_marks_made n).none y ∙ sym f ∙ sym (root_image m y e h);
      })

  module _ {w : Path} {p q : Path} where
    pub union_selected : w ≡ Union p q → {m a b c : List Bool} → Image (selects d p) m a → Image (selects d q) m b →
        Pointwise a c (λ y v. v || marked b y) → Image (selects d w) m c
    unfolding selects
    union_selected e u v s = rw e (image_cong (image_or u v s) (λ x y h k. refl))

    pub union_back : w ≡ Union p q → {m a b c : List Bool} → Image (λ x y. selects d p y x) m a →
        Image (λ x y. selects d q y x) m b → Pointwise a c (λ y v. v || marked b y) →
        Image (λ x y. selects d w y x) m c
    unfolding selects
    union_back e u v s = rw e (image_cong (image_or u v s) (λ x y h k. refl))

    pub composition_selected : w ≡ Composition p q → {m a b : List Bool} → length m ≡ length d →
        Image (selects d p) m a → Image (selects d q) a b → Image (selects d w) m b
    unfolding selects
    composition_selected e {m} l u v =
        rw e
        (image_cong (image_on u v)
        (λ x y h k. ap (λ (n : ℕ). any_below n (λ z. selects d p x z && selects d q z y)) l))

    pub composition_back : w ≡ Composition p q → {m a b : List Bool} → length m ≡ length d →
        Image (λ x y. selects d q y x) m a → Image (λ x y. selects d p y x) a b → Image (λ x y. selects d w y x) m b
    unfolding selects
    composition_back e {m} l u v =
        rw e
        (image_cong (image_on u v)
        (λ x y h k. any_cong (λ z. selects d q z x && selects d p y z) (λ z. selects d p y z && selects d q z x)
        (length m) (λ z j. turned (selects d q z x) (selects d p y z))
        ∙ ap (λ (n : ℕ). any_below n (λ z. selects d p y z && selects d q z x)) l))

  module _ {w p : Path} {f : Qualifier} where
    pub filter_selected : w ≡ Filter p f → {m a b c : List Bool} → length m ≡ length d →
        Image (selects d p) m a → Holding d f b → Pointwise a c (λ y v. v && marked b y) → Image (selects d w) m c
    unfolding selects
    filter_selected e {m} {a} {b} l u v s =
        rw e
        (image_cong (image_then (marked b) u s)
        (λ x y h k. ap (λ (t : Bool). selects d p x y && t) (v.each y (omega (arith, l, k)))))

    pub filter_back : w ≡ Filter p f → {m b c out : List Bool} → length m ≡ length d →
        Holding d f b → Pointwise b c (λ y v. v && marked m y) → Image (λ x y. selects d p y x) c out →
        Image (λ x y. selects d w y x) m out
    unfolding selects
    filter_back e {m} {b} {c} l v s u =
        rw e
        (image_cong (image_kept (marked b)
        (record {
          size = s.size ∙ v.size ∙ sym l;
          each = λ y h. s.each y (omega (arith, v.size, l, h)) ∙ turned (marked b y) (marked m y);
        })
        u)
        (λ x y h k. ap (λ (t : Bool). t && selects d p y x) (v.each x (omega (arith, l, h)))
        ∙ turned (holds d f x) (selects d p y x)))

  module _ {w : Qualifier} {n : ℕ} (l : n ≡ length d) where
    pub true_holding : w ≡ True → {out : List Bool} → out ≡ replicate n true → Holding d w out
    unfolding holds
    true_holding e o =
        rw (e, o)
        (record { size = length-replicate {A = Bool} n true ∙ l; each = λ y h. all_marked n y (omega (arith, l, h)) })

    pub false_holding : w ≡ False → {out : List Bool} → out ≡ replicate n false → Holding d w out
    unfolding holds
    false_holding e o =
        rw (e, o)
        (record { size = length-replicate {A = Bool} n false ∙ l; each = λ y h. (no_marks_made n).none y })

  pub not_holding : {w f : Qualifier} → w ≡ Not f → {a b : List Bool} → Holding d f a →
      Pointwise a b (λ y v. not v) → Holding d w b
  unfolding holds
  not_holding e u p =
      rw e
      (record {
        size = p.size ∙ u.size;
        each = λ y h. p.each y (omega (arith, u.size, h)) ∙ ap not (u.each y h);
      })

  module _ {w f g : Qualifier} {a b c : List Bool} (u : Holding d f a) (v : Holding d g b) where
    pub and_holding : w ≡ And f g → Pointwise a c (λ y v. v && marked b y) → Holding d w c
    unfolding holds
    and_holding e p =
        rw e
        (record {
          size = p.size ∙ u.size;
          each = λ y h. p.each y (omega (arith, u.size, h)) ∙ ap (λ (t : Bool). t && marked b y) (u.each y h)
              ∙ ap (λ (t : Bool). holds d f y && t) (v.each y h);
        })

    pub or_holding : w ≡ Or f g → Pointwise a c (λ y v. v || marked b y) → Holding d w c
    unfolding holds
    or_holding e p =
        rw e
        (record {
          size = p.size ∙ u.size;
          each = λ y h. p.each y (omega (arith, u.size, h)) ∙ ap (λ (t : Bool). t || marked b y) (u.each y h)
              ∙ ap (λ (t : Bool). holds d f y || t) (v.each y h);
        })

  -- a qualifier 'p in V' holds where p selects nothing
  pub none_holding : {w : Qualifier} {p v : Path} → w ≡ In p v → v ≡ Void → {n : ℕ} → n ≡ length d →
      {m a b : List Bool} → m ≡ replicate n true → Image (λ x y. selects d p y x) m a →
      Pointwise a b (λ y v. not v) → Holding d w b
  unfolding holds selects
  none_holding {w} {p} {v} e z {n} l {m} {a} {b} o u s =
      rw (e, z)
      (record {
        size = s.size ∙ u.size ∙ whole;
        each = λ y h. s.each y (omega (arith, u.size, whole, h)) ∙ ap not (u.each y (omega (arith, whole, h))) ∙ same
            y h;
      })
    where
      whole : length m ≡ length d
      whole = ap (λ (k : List Bool). length k) o ∙ length-replicate {A = Bool} n true ∙ l

      on : (y : ℕ) → y < length m → marked m y ≡ true
      on y h = ap (λ (k : List Bool). marked k y) o ∙ all_marked n y (omega (arith, whole, l, h))

      same : (y : ℕ) → y < length d →
          not (image (λ x y. selects d p y x) m y) ≡ all_below (length d) (λ z. not (selects d p y z) || false)
      same y h =
          tests_equal (not (image (λ x y. selects d p y x) m y))
          (all_below (length d) (λ z. not (selects d p y z) || false)) (
            λ t. yes_all (length d) (λ z. not (selects d p y z) || false)
                (λ k j. yes_or (not (selects d p y k)) false
                (inl (not_T (selects d p y k) (λ r. T_not (image (λ x y. selects d p y x) m y) t
                (yes_any (length m) (λ x. marked m x && selects d p y x) k (omega (arith, whole, j))
                (yes_and (marked m k) (selects d p y k) (subst_T (sym (on k (omega (arith, whole, j)))) tt) r)))))),
            λ t. not_T (image (λ x y. selects d p y x) m y)
                (λ r. let q = any_yes (length m) (λ x. marked m x && selects d p y x) r in
                let s = and_yes (marked m q.0) (selects d p y q.0) q.2 in
                ⊎_elim (λ i. T_not (selects d p y q.0) i s.1) (λ i. i)
                (or_yes (not (selects d p y q.0)) false
                (all_yes (length d) (λ z. not (selects d p y z) || false) t q.0 (omega (arith, whole, q.1))))),
          )

  -- from one node
  only_selected : (p : Path) (x : ℕ) {m a : List Bool} → x < length d → Only (length d) x m →
      Image (selects d p) m a → (y : ℕ) → y < length d → marked a y ≡ selects d p x y
  only_selected p x {m} {a} h u v y k = v.each y (omega (arith, u.size, k)) ∙ image_of_only (selects d p) h u y

  pub included : (p q : Path) (x : ℕ) {m a b : List Bool} → x < length d → Only (length d) x m → Image (selects d p) m
      a →
      Image (selects d q) m b →
      all_below (length a) (λ y. not (marked a y) || marked b y) ≡ holds d (In p q) x
  unfolding holds
  included p q x {m} {a} {b} h o u v =
      ap (λ (n : ℕ). all_below n (λ y. not (marked a y) || marked b y)) (u.size ∙ o.size)
      ∙ all_cong _ _ (length d)
      (λ y k. rw (only_selected p x h o u y k, only_selected q x h o v y k) refl)

  pub holding_all : {f : Qualifier} {y : ℕ} {out : List Bool} → DoneBelow (holds d f) y out → length d ≤ y →
      length out ≡ length d → Holding d f out
  holding_all u l e = record { size = e; each = λ k h. u.each k (omega arith) }

pub only_made : {n x : ℕ} {out : List Bool} → x < n → out ≡ set (replicate n false) x true → Only n x out
only_made {n} {x} {out} h o =
    rw o
    (record {
      size = length-set (replicate n false) x true ∙ length-replicate {A = Bool} n false;
      each = λ y k. ⊎_elim
          (λ e. ap (λ (i : ℕ). marked (set (replicate n false) x true) i) (sym e)
          ∙ get_or-set_same (replicate n false) x true false (omega (arith, length-replicate {A = Bool} n false, h))
          ∙ sym (eq-eqb x y e))
          (λ ne. get_or-set_other (replicate n false) x y true false (λ e. ne (sym e)) ∙ (no_marks_made n).none y
          ∙ sym (ne_eqb x y ne))
          (eq_or_ne x y);
    })

-- rows
module _ (rs : List Row) (top r : ℕ) where
  pub path_not_held : top ≤ r → path_in (terms (take top rs)) r ≡ Void
  unfolding as_path
  path_not_held h = ap as_path (term_not_held rs top r h)

  pub qualifier_not_held : top ≤ r → qualifier_in (terms (take top rs)) r ≡ False
  unfolding as_qualifier
  qualifier_not_held h = ap as_qualifier (term_not_held rs top r h)

  pub path_held : r < top → path_in (terms (take top rs)) r ≡ as_path (term_by (terms (take r rs)) (row_at rs r))
  path_held h = ap as_path (term_held rs top r h (row_at rs r) refl)

  pub qualifier_held : r < top →
      qualifier_in (terms (take top rs)) r ≡ as_qualifier (term_by (terms (take r rs)) (row_at rs r))
  qualifier_held h = ap as_qualifier (term_held rs top r h (row_at rs r) refl)

module _ (ts : List Term) (r : Row) where
  pub root_row_is : r.kind ≡ 1 → as_path (term_by ts r) ≡ Root
  unfolding term_by as_path
  root_row_is e = rw e refl

  pub union_row_is : r.kind ≡ 3 → as_path (term_by ts r) ≡ Union (path_in ts r.a) (path_in ts r.b)
  unfolding term_by as_path
  union_row_is e = rw e refl

  pub composition_row_is : r.kind ≡ 4 → as_path (term_by ts r) ≡ Composition (path_in ts r.a) (path_in ts r.b)
  unfolding term_by as_path
  composition_row_is e = rw e refl

  pub filter_row_is : r.kind ≡ 5 → as_path (term_by ts r) ≡ Filter (path_in ts r.a) (qualifier_in ts r.b)
  unfolding term_by as_path
  filter_row_is e = rw e refl

  pub step_row_is : r.kind ≡ 2 → as_path (term_by ts r) ≡ AxisStep r.a r.b r.c
  unfolding term_by as_path
  step_row_is e = rw e refl

  pub no_path_row : ¬ (r.kind ≡ 1) → ¬ (r.kind ≡ 2) → ¬ (r.kind ≡ 3) → ¬ (r.kind ≡ 4) → ¬ (r.kind ≡ 5) →
      as_path (term_by ts r) ≡ Void
  unfolding leaf_path
  no_path_row o n l m k =
      leaf_path_lem ts r l m k
      ∙ ⊎_elim (λ e. rw e refl) (λ h. let g : 2 < r.kind = omega (arith, o, n, h) in rw get_or-eq_default refl)
      (eq_or_ne r.kind 0)

  pub void_row_is : r.kind ≡ 0 → as_path (term_by ts r) ≡ Void
  unfolding term_by as_path
  void_row_is e = rw e refl

  pub true_row_is : r.kind ≡ 6 → as_qualifier (term_by ts r) ≡ True
  unfolding term_by as_qualifier
  true_row_is e = rw e refl

  pub not_row_is : r.kind ≡ 8 → as_qualifier (term_by ts r) ≡ Not (qualifier_in ts r.a)
  unfolding term_by as_qualifier
  not_row_is e = rw e refl

  pub and_row_is : r.kind ≡ 9 → as_qualifier (term_by ts r) ≡ And (qualifier_in ts r.a) (qualifier_in ts r.b)
  unfolding term_by as_qualifier
  and_row_is e = rw e refl

  pub or_row_is : r.kind ≡ 10 → as_qualifier (term_by ts r) ≡ Or (qualifier_in ts r.a) (qualifier_in ts r.b)
  unfolding term_by as_qualifier
  or_row_is e = rw e refl

  pub in_row_is : r.kind ≡ 11 → as_qualifier (term_by ts r) ≡ In (path_in ts r.a) (path_in ts r.b)
  unfolding term_by as_qualifier
  in_row_is e = rw e refl
