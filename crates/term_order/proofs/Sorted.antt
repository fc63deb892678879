-- Sorted lists that hold the same are the same list: what comes first is in the other list, so that each first entry is
-- at most the other.
use Prim.Native.Nat.{ℕ, ◌+◌, ◌≤◌}
use mathlib.Core.Path.{◌≡◌, refl, sym, ap, ap₂, subst, ◌∙◌}
use mathlib.Core.List.{List, [], ◌∷◌}
use native.Mathlib.Omega.{arith}
use Rattle.term_order.specs.Order.{Order, less, equal, greater}
use Rattle.term_order.specs.OrderLaws.{AtMost, TotalOrder, Sorted, one_if_equal, occurrences, HoldSame, SortedMatch}
use Rattle.term_order.proofs.Orders.{not_greater, Orders, total_order}

module _ {A : Type 0} {order : A → A → Order} (laws : Orders order) where
  abbrev total : TotalOrder order
  total = total_order laws

  at_most_itself : (x : A) → AtMost order x x
  at_most_itself x e = not_greater (sym e ∙ laws.same x)

  sorted_rest : (x : A) (xs : List A) → Sorted order (x ∷ xs) → Sorted order xs
  sorted_rest x [] s = tt
  sorted_rest x (y ∷ ys) s = s.1

  -- x is y, or is among the n others that y is at most
  at_most_lem : (x y : A) (n : ℕ) → (1 ≤ n → AtMost order y x) → (o : Order) → order x y ≡ o
      → 1 ≤ one_if_equal o + n → AtMost order y x
  at_most_lem x y n others less e h = others (omega arith)
  at_most_lem x y n others equal e h = subst (λ z. AtMost order y z) (sym (laws.equal_same x y e)) (at_most_itself y)
  at_most_lem x y n others greater e h = others (omega arith)

  -- the first entry is at most each
  first_least : (x y : A) (ys : List A) → Sorted order (y ∷ ys) → 1 ≤ occurrences order x (y ∷ ys) → AtMost order y x
  unfolding occurrences
  first_least x y [] s h = at_most_lem x y 0 (λ g. absurd (omega arith)) (order x y) refl h
  first_least x y (z ∷ zs) s h =
      at_most_lem x y (occurrences order x (z ∷ zs))
      (λ g. total.transitive y z x s.0 (first_least x z zs s.1 g)) (order x y) refl h

  first_occurs : (x : A) (xs : List A) → 1 ≤ occurrences order x (x ∷ xs)
  unfolding occurrences
  first_occurs x xs = rw (laws.same x) (omega arith)

  pub sorted_match : SortedMatch order
  unfolding occurrences
  sorted_match [] [] s t h = refl
  sorted_match [] (y ∷ ys) s t h = absurd (omega (arith, first_occurs y ys, h y))
  sorted_match (x ∷ xs) [] s t h = absurd (omega (arith, first_occurs x xs, h x))
  sorted_match (x ∷ xs) (y ∷ ys) s t h =
      let first : x ≡ y =
      total.antisymmetric x y
      (first_least y x xs s (subst (λ n. 1 ≤ n) (sym (h y)) (first_occurs y ys)))
      (first_least x y ys t (subst (λ n. 1 ≤ n) (h x) (first_occurs x xs))) in
      let others : HoldSame order xs ys =
      λ z.
      let u : one_if_equal (order z x) + occurrences order z xs
      ≡ one_if_equal (order z x) + occurrences order z ys =
      h z ∙ ap (λ w. one_if_equal (order z w) + occurrences order z ys) (sym first) in
      omega arith in
      ap₂ ◌∷◌ first (sorted_match xs ys (sorted_rest x xs s) (sorted_rest y ys t) others)
