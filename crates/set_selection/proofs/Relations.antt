-- The relations of the columns are those of the document.
use Prim.Native.Nat.{ℕ, zero, suc, ◌≤◌, ◌<◌}
use mathlib.Core.Path.{◌≡◌, refl, sym, ap, ◌∙◌}
use mathlib.Core.Bool.{Bool, true, false, not, ◌&&◌, ◌||◌}
use mathlib.Core.List.{List, [], ◌∷◌}
use mathlib.Core.Logic.{◌⊎◌, inl, inr, ⊎_elim}
use native.Mathlib.Omega.{arith}
use lib.Dec.{T, leb, ltb, eqb, ltb→lt, lt→ltb, leb→le, le→leb}
use lib.ListN.{length, get_or}
use mir.Facts.{and_yes, yes_and, or_yes, eqb_yes, yes_eqb}
use borrow.Author.Tests.{ne_eqb, lt-ltb, le-ltb}
use Rattle.common.proofs.Reflect.{tests_equal, le_or_lt, eq_or_ne, facts}
use Rattle.common.proofs.Tests.{eqb_turned}
use Rattle.xpath.specs.Document.{Document, kind_at, parent_at, name_at, is_attribute, is_child, is_ancestor}
use Rattle.xpath.specs.Document.{are_siblings}
use Rattle.xpath.specs.Axis.{on_axis}
use Rattle.set_selection.specs.Walks.{is_under, is_over, is_below, is_above, is_after, is_before, is_later, is_earlier}
use Rattle.documents.specs.Columns.{rows_of, Sound}
use Rattle.documents.proofs.Fields.{rows_length, rows_kind, rows_parent, rows_name}

and_turned : (a b : Bool) → (a && b) ≡ (b && a)
and_turned true true = refl
and_turned true false = refl
and_turned false true = refl
and_turned false false = refl

or_turned : (a b : Bool) → (a || b) ≡ (b || a)
or_turned true true = refl
or_turned true false = refl
or_turned false true = refl
or_turned false false = refl

later_siblings : (x y p q : ℕ) (a b : Bool) →
    ((a && (not (eqb x 0) && (ltb x y && eqb p q))) && b)
    ≡ ((not (eqb x 0) && (not (eqb y 0) && eqb q p) && not (eqb x y) && a && b) && ltb x y)
later_siblings x y p q a b =
    tests_equal ((a && (not (eqb x 0) && (ltb x y && eqb p q))) && b)
    ((not (eqb x 0) && (not (eqb y 0) && eqb q p) && not (eqb x y) && a && b) && ltb x y) (
      λ t. let r = simp facts at t in
          simp facts (
            (
              (
                ((r.0.1.0, (λ e. omega (arith, r.0.1.1.0), sym r.0.1.1.1)), λ e. omega (arith, r.0.1.1.0)),
                r.0.0,
              ),
              r.1,
            ),
            r.0.1.1.0,
          ),
      λ t. let r = simp facts at t in
          simp facts ((r.0.0.1, (r.0.0.0.0.0, (r.1, sym r.0.0.0.0.1.1))), r.0.1),
    )

earlier_siblings : (x y p q : ℕ) (a b : Bool) →
    ((a && (not (eqb y 0) && (ltb y x && eqb q p))) && b)
    ≡ ((not (eqb x 0) && (not (eqb y 0) && eqb q p) && not (eqb x y) && a && b) && ltb y x)
earlier_siblings x y p q a b =
    tests_equal ((a && (not (eqb y 0) && (ltb y x && eqb q p))) && b)
    ((not (eqb x 0) && (not (eqb y 0) && eqb q p) && not (eqb x y) && a && b) && ltb y x) (
      λ t. let r = simp facts at t in
          simp facts (
            (
              (
                ((λ e. omega (arith, r.0.1.1.0), (r.0.1.0, r.0.1.1.1)), λ e. omega (arith, r.0.1.1.0)),
                r.0.0,
              ),
              r.1,
            ),
            r.0.1.1.0,
          ),
      λ t. let r = simp facts at t in
          simp facts ((r.0.0.1, (r.0.0.0.0.1.0, (r.1, r.0.0.0.0.1.1))), r.0.1),
    )

turned_siblings : (x y p q : ℕ) (a b : Bool) →
    (not (eqb x 0) && (not (eqb y 0) && eqb q p) && not (eqb x y) && a && b)
    ≡ (not (eqb y 0) && (not (eqb x 0) && eqb p q) && not (eqb y x) && b && a)
turned_siblings x y p q a b =
    tests_equal (not (eqb x 0) && (not (eqb y 0) && eqb q p) && not (eqb x y) && a && b)
    (not (eqb y 0) && (not (eqb x 0) && eqb p q) && not (eqb y x) && b && a) (
      λ t. let r = simp facts at t in
          simp facts ((((r.0.0.0.1.0, (r.0.0.0.0, sym r.0.0.0.1.1)), λ e. r.0.0.1 (sym e)), r.1), r.0.1),
      λ t. let r = simp facts at t in
          simp facts ((((r.0.0.0.1.0, (r.0.0.0.0, sym r.0.0.0.1.1)), λ e. r.0.0.1 (sym e)), r.1), r.0.1),
    )

pub self_axis : (ks ps ns : List ℕ) (x y : ℕ) → eqb x y ≡ on_axis 0 (rows_of ks ps ns) x y
unfolding on_axis
self_axis ks ps ns x y = refl

module _ (ks ps ns es : List ℕ) (s : Sound ks ps ns es) where
  pub size : length (rows_of ks ps ns) ≡ length ks
  size = rows_length ks ps ns s.parents_size s.names_size

  -- y is no attribute, by the column of kinds
  abbrev pub other : ℕ → Bool
  other y = not (eqb (get_or ks y 0) 5)

  attribute_is : (y : ℕ) → is_attribute (rows_of ks ps ns) y ≡ eqb (get_or ks y 0) 5
  attribute_is y = ap (λ (k : ℕ). eqb k 5) (rows_kind ks ps ns s.parents_size s.names_size y)

  child_is : (x y : ℕ) → is_under ps x y ≡ is_child (rows_of ks ps ns) x y
  unfolding is_child
  child_is x y =
      ap (λ (p : ℕ). not (eqb y 0) && eqb p x) (sym (rows_parent ks ps ns s.parents_size s.names_size y))

  below_is : (x y : ℕ) → x < length ks → y < length ks → is_below es x y ≡ is_ancestor (rows_of ks ps ns) x y
  below_is x y h k = sym ((s.ends.row x (omega (arith, size, h))).below y (omega (arith, size, k)))

  after_is : (x y : ℕ) → x < length ks → y < length ks →
      is_after es x y ≡ (ltb x y && not (is_ancestor (rows_of ks ps ns) x y))
  after_is x y h k =
      let a = (s.ends.row x (omega (arith, size, h))).after in
      ap (λ (n : Bool). n) (by_end (le_or_lt (get_or es x 0) y) a)
      ∙ ap (λ (b : Bool). ltb x y && not b) (below_is x y h k)
    where
      none : (b : Bool) → T (b && not (b && true)) → ⊥
      none true t = t
      none false t = t

      by_end : (get_or es x 0 ≤ y) ⊎ (y < get_or es x 0) → x < get_or es x 0 →
          leb (get_or es x 0) y ≡ (ltb x y && not (ltb x y && ltb y (get_or es x 0)))
      by_end (inl l) a =
          tests_equal (leb (get_or es x 0) y) (ltb x y && not (ltb x y && ltb y (get_or es x 0)))
          (λ t. rw (lt-ltb x y (omega arith), le-ltb y (get_or es x 0) l) tt, λ t. le→leb (get_or es x 0) y l)
      by_end (inr l) a =
          tests_equal (leb (get_or es x 0) y) (ltb x y && not (ltb x y && ltb y (get_or es x 0))) (
            λ t. let h = leb→le (get_or es x 0) y t in absurd (omega arith),
            λ t. absurd (none (ltb x y) (rw (lt-ltb y (get_or es x 0) l) at t)),
          )

  -- forward
  pub child_axis : (x y : ℕ) → (is_under ps x y && other y) ≡ on_axis 1 (rows_of ks ps ns) x y
  unfolding on_axis
  child_axis x y = rw (child_is x y, ← attribute_is y) refl

  pub attribute_axis : (x y : ℕ) → (is_under ps x y && eqb (get_or ks y 0) 5) ≡ on_axis 11 (rows_of ks ps ns) x y
  unfolding on_axis
  attribute_axis x y = rw (child_is x y, ← attribute_is y) refl

  pub parent_axis : (x y : ℕ) → is_over ps x y ≡ on_axis 2 (rows_of ks ps ns) x y
  unfolding on_axis
  parent_axis x y = child_is y x

  pub descendant_axis : (x y : ℕ) → x < length ks → y < length ks →
      (is_below es x y && other y) ≡ on_axis 3 (rows_of ks ps ns) x y
  unfolding on_axis
  descendant_axis x y h k = rw (below_is x y h k, ← attribute_is y) refl

  pub ancestor_axis : (x y : ℕ) → x < length ks → y < length ks → is_above es x y ≡ on_axis 4 (rows_of ks ps ns) x y
  unfolding on_axis
  ancestor_axis x y h k = below_is y x k h

  pub descendant_or_self_axis : (x y : ℕ) → x < length ks → y < length ks →
      (is_below es x y && other y || eqb x y) ≡ on_axis 5 (rows_of ks ps ns) x y
  unfolding on_axis
  descendant_or_self_axis x y h k = or_turned _ (eqb x y) ∙ rw (below_is x y h k, ← attribute_is y) refl

  pub ancestor_or_self_axis : (x y : ℕ) → x < length ks → y < length ks →
      (is_above es x y || eqb x y) ≡ on_axis 6 (rows_of ks ps ns) x y
  unfolding on_axis
  ancestor_or_self_axis x y h k = or_turned _ (eqb x y) ∙ ap (λ (b : Bool). eqb x y || b) (below_is y x k h)

  pub following_axis : (x y : ℕ) → x < length ks → y < length ks →
      (is_after es x y && other y) ≡ on_axis 9 (rows_of ks ps ns) x y
  unfolding on_axis
  following_axis x y h k = rw (after_is x y h k, ← attribute_is y) refl

  pub preceding_axis : (x y : ℕ) → x < length ks → y < length ks →
      (is_before es x y && other y) ≡ on_axis 10 (rows_of ks ps ns) x y
  unfolding on_axis
  preceding_axis x y h k = rw (after_is y x k h, ← attribute_is y) refl

  siblings_is : (x y : ℕ) → are_siblings (rows_of ks ps ns) x y
      ≡ (not (eqb x 0) && (not (eqb y 0) && eqb (get_or ps y 0) (get_or ps x 0)) && not (eqb x y) && other x && other y)
  unfolding are_siblings is_child
  siblings_is x y =
      rw (
        attribute_is x,
        attribute_is y,
        rows_parent ks ps ns s.parents_size s.names_size x,
        rows_parent ks ps ns s.parents_size s.names_size y,
      ) refl

  pub following_sibling_axis : (x y : ℕ) →
      ((other x && is_later ps x y) && other y) ≡ on_axis 7 (rows_of ks ps ns) x y
  unfolding on_axis
  following_sibling_axis x y =
      later_siblings x y (get_or ps x 0) (get_or ps y 0) (other x) (other y)
      ∙ ap (λ (b : Bool). b && ltb x y) (sym (siblings_is x y))

  pub preceding_sibling_axis : (x y : ℕ) →
      ((other x && is_earlier ps x y) && other y) ≡ on_axis 8 (rows_of ks ps ns) x y
  unfolding on_axis
  preceding_sibling_axis x y =
      earlier_siblings x y (get_or ps x 0) (get_or ps y 0) (other x) (other y)
      ∙ ap (λ (b : Bool). b && ltb y x) (sym (siblings_is x y))

  -- back
  turned : (x y : ℕ) → are_siblings (rows_of ks ps ns) x y ≡ are_siblings (rows_of ks ps ns) y x
  turned x y =
      siblings_is x y ∙ turned_siblings x y (get_or ps x 0) (get_or ps y 0) (other x) (other y) ∙ sym (siblings_is y x)

  pub back_self : (x y : ℕ) → eqb x y ≡ on_axis 0 (rows_of ks ps ns) y x
  unfolding on_axis
  back_self x y = eqb_turned x y

  pub back_parent : (x y : ℕ) → is_under ps x y ≡ on_axis 2 (rows_of ks ps ns) y x
  unfolding on_axis
  back_parent x y = child_is x y

  pub back_ancestor : (x y : ℕ) → x < length ks → y < length ks → is_below es x y ≡ on_axis 4 (rows_of ks ps ns) y x
  unfolding on_axis
  back_ancestor x y h k = below_is x y h k

  pub back_ancestor_or_self : (x y : ℕ) → x < length ks → y < length ks →
      (is_below es x y || eqb x y) ≡ on_axis 6 (rows_of ks ps ns) y x
  unfolding on_axis
  back_ancestor_or_self x y h k =
      or_turned _ (eqb x y) ∙ rw (eqb_turned x y) (ap (λ (b : Bool). eqb y x || b) (below_is x y h k))

  pub back_descendant_or_self : (x y : ℕ) → x < length ks → y < length ks →
      (other x && is_above es x y || eqb x y) ≡ on_axis 5 (rows_of ks ps ns) y x
  unfolding on_axis
  back_descendant_or_self x y h k =
      or_turned _ (eqb x y)
      ∙ rw (
        eqb_turned x y,
        and_turned (not (eqb (get_or ks x 0) 5)) (is_above es x y),
        below_is y x k h,
        ← attribute_is x,
      ) refl

  pub back_attribute : (x y : ℕ) → (eqb (get_or ks x 0) 5 && is_over ps x y) ≡ on_axis 11 (rows_of ks ps ns) y x
  unfolding on_axis
  back_attribute x y = rw (and_turned (eqb (get_or ks x 0) 5) (is_over ps x y), child_is y x, ← attribute_is x) refl

  pub back_child : (x y : ℕ) → (other x && is_over ps x y) ≡ on_axis 1 (rows_of ks ps ns) y x
  unfolding on_axis
  back_child x y =
      rw (and_turned (not (eqb (get_or ks x 0) 5)) (is_over ps x y), child_is y x, ← attribute_is x) refl

  pub back_descendant : (x y : ℕ) → x < length ks → y < length ks →
      (other x && is_above es x y) ≡ on_axis 3 (rows_of ks ps ns) y x
  unfolding on_axis
  back_descendant x y h k =
      rw (and_turned (not (eqb (get_or ks x 0) 5)) (is_above es x y), below_is y x k h, ← attribute_is x) refl

  pub back_following : (x y : ℕ) → x < length ks → y < length ks →
      (other x && is_before es x y) ≡ on_axis 9 (rows_of ks ps ns) y x
  unfolding on_axis
  back_following x y h k =
      rw (and_turned (not (eqb (get_or ks x 0) 5)) (is_before es x y), after_is y x k h, ← attribute_is x) refl

  pub back_preceding : (x y : ℕ) → x < length ks → y < length ks →
      (other x && is_after es x y) ≡ on_axis 10 (rows_of ks ps ns) y x
  unfolding on_axis
  back_preceding x y h k =
      rw (and_turned (not (eqb (get_or ks x 0) 5)) (is_after es x y), after_is x y h k, ← attribute_is x) refl

  pub back_following_sibling : (x y : ℕ) → on_axis 8 (rows_of ks ps ns) x y ≡ on_axis 7 (rows_of ks ps ns) y x
  unfolding on_axis
  back_following_sibling x y = ap (λ (b : Bool). b && ltb y x) (turned x y)

  pub back_preceding_sibling : (x y : ℕ) → on_axis 7 (rows_of ks ps ns) x y ≡ on_axis 8 (rows_of ks ps ns) y x
  unfolding on_axis
  back_preceding_sibling x y = ap (λ (b : Bool). b && ltb x y) (turned x y)
