-- Comparisons one after the other, and orders of numbers.
use Prim.Native.Nat.{ℕ, ◌<◌}
use mathlib.Core.Path.{◌≡◌, refl, sym, ap, ◌∙◌}
use mathlib.Core.Logic.{◌⊎◌, inl, inr, ⊎_elim}
use native.Mathlib.Omega.{arith}
use borrow.Author.Tests.{lt-ltb, le-ltb}
use Rattle.common.proofs.Reflect.{le_or_lt}
use Rattle.term_order.specs.Order.{Order, less, equal, greater, ◌and_then◌, number_order}
use Rattle.term_order.specs.OrderCall.{order_value}
use Rattle.term_order.specs.OrderLaws.{reverse, AtMost, TotalOrder}

-- x and y, y and z, x and z are compared as in an order
abbrev pub Follows : (xy yz xz : Order) → Type 0
Follows less less xz = xz ≡ less
Follows less equal xz = xz ≡ less
Follows less greater xz = Unit {0}
Follows equal yz xz = xz ≡ yz
Follows greater less xz = Unit {0}
Follows greater equal xz = xz ≡ greater
Follows greater greater xz = xz ≡ greater

pub follows_then : (a b c d e f : Order) → Follows a b c → Follows d e f → Follows (a and_then d) (b and_then e)
    (c and_then f)
follows_then less less c d e f h g = rw h
follows_then less equal c d less f h g = rw h
follows_then less equal c d equal f h g = rw h
follows_then less equal c d greater f h g = tt
follows_then less greater c d e f h g = tt
follows_then equal less c less e f h g = rw h
follows_then equal less c equal e f h g = rw h
follows_then equal less c greater e f h g = tt
follows_then equal equal c d e f h g = rw h g
follows_then equal greater c less e f h g = tt
follows_then equal greater c equal e f h g = rw h
follows_then equal greater c greater e f h g = rw h
follows_then greater less c d e f h g = tt
follows_then greater equal c d less f h g = tt
follows_then greater equal c d equal f h g = rw h
follows_then greater equal c d greater f h g = rw h
follows_then greater greater c d e f h g = rw h

pub less_follows : (o : Order) → Follows o less less
less_follows less = refl
less_follows equal = refl
less_follows greater = tt

pub less_followed : (o : Order) → Follows less o less
less_followed less = refl
less_followed equal = refl
less_followed greater = tt

pub greater_follows : (o : Order) → Follows o greater greater
greater_follows less = tt
greater_follows equal = refl
greater_follows greater = refl

pub greater_followed : (o : Order) → Follows greater o greater
greater_followed less = tt
greater_followed equal = refl
greater_followed greater = refl

pub reverse_then : (a b : Order) → reverse (a and_then b) ≡ reverse a and_then reverse b
reverse_then less b = refl
reverse_then equal b = refl
reverse_then greater b = refl

-- the three orders differ
pub not_less : {A : Type 0} → less ≡ equal → A
not_less e = absurd (omega (arith, ap order_value e))

pub not_greater : {A : Type 0} → greater ≡ equal → A
not_greater e = absurd (omega (arith, ap order_value e))

pub less_greater : {A : Type 0} → less ≡ greater → A
less_greater e = absurd (omega (arith, ap order_value e))

-- both find equal where one after the other does
pub both_equal : (a b : Order) → a and_then b ≡ equal → (a ≡ equal) × (b ≡ equal)
both_equal less b e = not_less e
both_equal equal b e = (refl, e)
both_equal greater b e = not_greater e

-- what the laws of an order come from
pub record Orders {A : Type 0} (order : A → A → Order) : Type 0 where
  pub same : (x : A) → order x x ≡ equal
  pub equal_same : (x y : A) → order x y ≡ equal → x ≡ y
  pub reversed : (x y : A) → order y x ≡ reverse (order x y)
  pub follows : (x y z : A) → Follows (order x y) (order y z) (order x z)

-- numbers are less, equal or greater
pub data Numbers (n m : ℕ) (o : Order) : Type 0 where
  below : n < m → o ≡ less → Numbers n m o
  alike : n ≡ m → o ≡ equal → Numbers n m o
  above : m < n → o ≡ greater → Numbers n m o

pub numbers : (n m : ℕ) → Numbers n m (number_order n m)
unfolding number_order
numbers n m =
    ⊎_elim
    (λ h. ⊎_elim (λ g. alike (omega arith) (rw (le-ltb n m g, le-ltb m n h))) (λ g. below g (rw (lt-ltb n m g)))
    (le_or_lt m n))
    (λ h. above h (rw (le-ltb n m (omega arith), lt-ltb m n h)))
    (le_or_lt n m)

pub numbers_ordered : Orders number_order
numbers_ordered =
    record { same = same; equal_same = equal_same; reversed = reversed; follows = follows }
  where
    same : (n : ℕ) → number_order n n ≡ equal
    same n = is (numbers n n)
      where
        is : {o : Order} → Numbers n n o → o ≡ equal
        is (below h e) = absurd (omega arith)
        is (alike h e) = e
        is (above h e) = absurd (omega arith)

    equal_same : (n m : ℕ) → number_order n m ≡ equal → n ≡ m
    equal_same n m = is (numbers n m)
      where
        is : {o : Order} → Numbers n m o → o ≡ equal → n ≡ m
        is (below h e) f = not_less (sym e ∙ f)
        is (alike h e) f = h
        is (above h e) f = not_greater (sym e ∙ f)

    reversed : (n m : ℕ) → number_order m n ≡ reverse (number_order n m)
    reversed n m = are (numbers n m) (numbers m n)
      where
        are : {o u : Order} → Numbers n m o → Numbers m n u → u ≡ reverse o
        are (below h e) (below g f) = absurd (omega arith)
        are (below h e) (alike g f) = absurd (omega arith)
        are (below h e) (above g f) = rw (e, f)
        are (alike h e) (below g f) = absurd (omega arith)
        are (alike h e) (alike g f) = rw (e, f)
        are (alike h e) (above g f) = absurd (omega arith)
        are (above h e) (below g f) = rw (e, f)
        are (above h e) (alike g f) = absurd (omega arith)
        are (above h e) (above g f) = absurd (omega arith)

    follows : (n m k : ℕ) → Follows (number_order n m) (number_order m k) (number_order n k)
    follows n m k = are (numbers n m) (numbers m k) (numbers n k)
      where
        third_less : {o : Order} → n < k → Numbers n k o → o ≡ less
        third_less l (below h e) = e
        third_less l (alike h e) = absurd (omega arith)
        third_less l (above h e) = absurd (omega arith)

        third_equal : {o : Order} → n ≡ k → Numbers n k o → o ≡ equal
        third_equal l (below h e) = absurd (omega arith)
        third_equal l (alike h e) = e
        third_equal l (above h e) = absurd (omega arith)

        third_greater : {o : Order} → k < n → Numbers n k o → o ≡ greater
        third_greater l (below h e) = absurd (omega arith)
        third_greater l (alike h e) = absurd (omega arith)
        third_greater l (above h e) = e

        are : {o u v : Order} → Numbers n m o → Numbers m k u → Numbers n k v → Follows o u v
        are (below h e) (below g f) t = rw (e, f) (third_less (omega arith) t)
        are (below h e) (alike g f) t = rw (e, f) (third_less (omega arith) t)
        are (below h e) (above g f) t = rw (e, f) tt
        are (alike h e) (below g f) t = rw (e, f) (third_less (omega arith) t)
        are (alike h e) (alike g f) t = rw (e, f) (third_equal (omega arith) t)
        are (alike h e) (above g f) t = rw (e, f) (third_greater (omega arith) t)
        are (above h e) (below g f) t = rw (e, f) tt
        are (above h e) (alike g f) t = rw (e, f) (third_greater (omega arith) t)
        are (above h e) (above g f) t = rw (e, f) (third_greater (omega arith) t)

-- the laws in the words of the guarantee
module _ {A : Type 0} {order : A → A → Order} (laws : Orders order) where
  pub total_order : TotalOrder order
  total_order =
      record {
        total = λ x y. total x y (order x y) refl;
        antisymmetric = λ x y. antisymmetric x y (order x y) refl;
        transitive = λ x y z. transitive (order x y) (order y z) (order x z) (laws.follows x y z);
        equal_iff = λ x y. (laws.equal_same x y, λ e. ap (order x) (sym e) ∙ laws.same x);
        reversed = laws.reversed;
      }
    where
      total : (x y : A) (o : Order) → order x y ≡ o → AtMost order x y ⊎ AtMost order y x
      total x y less e = inl (λ g. less_greater (sym e ∙ g))
      total x y equal e = inl (λ g. not_greater (sym g ∙ e))
      total x y greater e = inr (λ g. less_greater (sym (laws.reversed x y ∙ ap reverse e) ∙ g))

      antisymmetric : (x y : A) (o : Order) → order x y ≡ o → AtMost order x y → AtMost order y x → x ≡ y
      antisymmetric x y less e f g = absurd (g (laws.reversed x y ∙ ap reverse e))
      antisymmetric x y equal e f g = laws.equal_same x y e
      antisymmetric x y greater e f g = absurd (f e)

      transitive : (a b c : Order) → Follows a b c → ¬ (a ≡ greater) → ¬ (b ≡ greater) → ¬ (c ≡ greater)
      transitive less less c h f g e = less_greater (sym h ∙ e)
      transitive less equal c h f g e = less_greater (sym h ∙ e)
      transitive less greater c h f g e = g refl
      transitive equal b c h f g e = g (sym h ∙ e)
      transitive greater b c h f g e = f refl
