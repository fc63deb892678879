-- What is guaranteed of an order, and of lists that are sorted by it.
use Rattle.std.specs.Prelude.{ℕ, ◌+◌, ◌≡◌, List, [], ◌∷◌, ◌↔◌, ◌⊎◌}
use Rattle.term_order.specs.Order.{Order, less, equal, greater}

-- the other way round
abbrev pub reverse : Order → Order
reverse less = greater
reverse equal = equal
reverse greater = less

-- 1 where a comparison finds equal, else 0
abbrev pub one_if_equal : Order → ℕ
one_if_equal less = 0
one_if_equal equal = 1
one_if_equal greater = 0

module _ {A : Type 0} (order : A → A → Order) where
  abbrev pub AtMost : A → A → Type 0
  AtMost x y = ¬ (order x y ≡ greater)

  -- a total order, in which equal holds just when both are the same
  pub record TotalOrder : Type 0 where
    pub total : (x y : A) → AtMost x y ⊎ AtMost y x
    pub antisymmetric : (x y : A) → AtMost x y → AtMost y x → x ≡ y
    pub transitive : (x y z : A) → AtMost x y → AtMost y z → AtMost x z
    pub equal_iff : (x y : A) → (order x y ≡ equal) ↔ (x ≡ y)
    pub reversed : (x y : A) → order y x ≡ reverse (order x y)

  -- each entry is at most the next
  abbrev pub Sorted : List A → Type 0
  Sorted [] = Unit {0}
  Sorted (x ∷ []) = Unit {0}
  Sorted (x ∷ y ∷ xs) = AtMost x y × Sorted (y ∷ xs)

  -- how often x is in the list
  unfoldable pub occurrences : A → List A → ℕ
  occurrences x [] = 0
  occurrences x (y ∷ ys) = one_if_equal (order x y) + occurrences x ys

  -- the lists hold the same, each as often
  abbrev pub HoldSame : List A → List A → Type 0
  HoldSame xs ys = (x : A) → occurrences x xs ≡ occurrences x ys

  -- sorted lists that hold the same are the same list
  abbrev pub SortedMatch : Type 0
  SortedMatch = (xs ys : List A) → Sorted xs → Sorted ys → HoldSame xs ys → xs ≡ ys
