-- What a node's name decides: no axis, and no test of another node.
use Prim.Native.Nat.{ℕ, zero, suc, ◌+◌, ◌*◌, ◌/◌, ◌≤◌}
use mathlib.Core.Path.{◌≡◌, refl, sym, ap, ◌∙◌}
use mathlib.Core.Bool.{cond}
use mathlib.Core.List.{List}
use mathlib.Core.Logic.{⊎_elim}
use native.Mathlib.Omega.{arith}
use lib.Dec.{ltb}
use lib.ListN.{length, get_or, set, length-set, get_or-eq_default}
use lib.Seq.{get_or-set_same, get_or-set_other}
use Rattle.xpath.specs.Document.{Document, Node, root_node, kind_at, parent_at, name_at}
use Rattle.xpath.specs.Document.{is_child, climb_meets, is_ancestor, are_siblings}
use Rattle.xpath.specs.Axis.{on_axis, passes}
use Rattle.xpath.specs.Meaning.{selects}
use Rattle.xpath.specs.OneName.{SameButName, StepSameElsewhere, Renamed}
use Rattle.xpath.specs.OneName.{LentSameButName, LentDocuments, LentRenamed}
use Rattle.common.proofs.Reflect.{le_or_lt, eq_or_ne}
use Rattle.xpath.proofs.LentNumbers.{nodes_lent, kind_lent, parent_lent, name_lent}

module _ (m : ℕ) (d e : Document) (s : SameButName m d e) where
  child_same : (x y : ℕ) → is_child d x y ≡ is_child e x y
  unfolding is_child
  child_same x y = rw (s.parents y)

  climb_same : (k x y : ℕ) → climb_meets k d x y ≡ climb_meets k e x y
  unfolding climb_meets
  climb_same zero x y = refl
  climb_same (suc k) x y = rw (child_same x y, s.parents y, climb_same k x (parent_at e y))

  ancestor_same : (x y : ℕ) → is_ancestor d x y ≡ is_ancestor e x y
  unfolding is_ancestor
  ancestor_same x y = climb_same y x y

  siblings_same : (x y : ℕ) → are_siblings d x y ≡ are_siblings e x y
  unfolding are_siblings
  siblings_same x y = rw (s.parents x, child_same (parent_at e x) y, s.kinds x, s.kinds y)

  axis_same : (a x y : ℕ) → on_axis a d x y ≡ on_axis a e x y
  unfolding on_axis
  axis_same a x y =
      rw (child_same x y, child_same y x, ancestor_same x y, ancestor_same y x, siblings_same x y, s.kinds y)

  passes_same : (a t c y : ℕ) → ¬ (y ≡ m) → passes a t c d y ≡ passes a t c e y
  unfolding passes
  passes_same a t c y n = rw (s.kinds y, s.names y n)

pub step_same_elsewhere : StepSameElsewhere
unfolding selects
step_same_elsewhere m d e s a t c x y n = rw (s.size, axis_same m d e s a x y, passes_same m d e s a t c y n)

module _ (m : ℕ) (xs ys : List ℕ) (s : LentSameButName m xs ys) where
  -- the number at a place of row y, which is not that of the name of row m
  lent_same : (y j : ℕ) → ¬ (3 * y + j ≡ 3 * m + 2)
      → cond (ltb y (length xs / 3)) (get_or xs (3 * y + j) 0) 0
      ≡ cond (ltb y (length ys / 3)) (get_or ys (3 * y + j) 0) 0
  lent_same y j n = rw (s.size, s.numbers (3 * y + j) n)

pub lent_documents : LentDocuments
lent_documents m xs ys s =
    let same = lent_same m xs ys s in
    record {
      size = nodes_lent xs ∙ rw s.size (sym (nodes_lent ys));
      kinds = λ y. kind_lent xs y ∙ same y 0 (λ q. absurd (omega arith)) ∙ sym (kind_lent ys y);
      parents = λ y. parent_lent xs y ∙ same y 1 (λ q. absurd (omega arith)) ∙ sym (parent_lent ys y);
      names = λ y n. name_lent xs y ∙ same y 2 (λ q. n (omega arith)) ∙ sym (name_lent ys y);
    }

-- a field that node n has as node m of d has it: putting n for node m changes it nowhere
field_set : (d : Document) (m : ℕ) (n : Node) (f : Node → ℕ) → f n ≡ f (get_or d m root_node) → (y : ℕ)
    → f (get_or d y root_node) ≡ f (get_or (set d m n) y root_node)
field_set d m n f q y = ⊎_elim here (λ o. sym (ap f (get_or-set_other d m y n root_node o))) (eq_or_ne y m)
  where
    past : length d ≤ m → f (get_or d m root_node) ≡ f (get_or (set d m n) m root_node)
    past h =
        ap f (get_or-eq_default d root_node h)
        ∙ sym (ap f (get_or-eq_default (set d m n) root_node (omega (arith, length-set d m n))))

    here : y ≡ m → f (get_or d y root_node) ≡ f (get_or (set d m n) y root_node)
    here e = rw e (⊎_elim past (λ h. sym (ap f (get_or-set_same d m n root_node h) ∙ q)) (le_or_lt (length d) m))

pub renamed : Renamed
unfolding kind_at parent_at name_at
renamed d m name =
    record {
      size = sym (length-set d m _);
      kinds = field_set d m _ (λ n. n.kind) refl;
      parents = field_set d m _ (λ n. n.parent) refl;
      names = λ y o. sym (ap (λ n. n.name) (get_or-set_other d m y _ root_node o));
    }

pub lent_renamed : LentRenamed
lent_renamed xs m name =
    record {
      size = sym (length-set xs (3 * m + 2) name);
      numbers = λ i o. sym (get_or-set_other xs (3 * m + 2) i name 0 o);
    }
