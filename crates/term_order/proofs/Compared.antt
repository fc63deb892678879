-- The ways through the code that compares two rows.
use Prim.Native.Nat.{ℕ}
use mathlib.Core.Path.{◌≡◌, refl, sym, ap, ap₂, subst, ◌∙◌}
use mathlib.Core.Bool.{Bool, true, false, false≢true}
use mathlib.Core.List.{List}
use native.Mathlib.Omega.{arith}
use lib.ListN.{get_or, set, take, replicate}
use Rattle.std.specs.declared.cmp.Ordering.{Ordering}
use Rattle.std.specs.declared.cmp.Ordering.TheVariants.{Less, Equal, Greater}
use Rattle.std.proofs.Common.{Option, Some, None}
use Rattle.std.specs.Ordering.{nat_cmp, is_ne, is_eq}
use Rattle.std.proofs.lemmas.Grind.{common_steps}
use Rattle.terms.specs.Row.{Row, row_at}
use Rattle.terms.specs.Fields.{Field, Fields, fields_of}
use Rattle.terms.specs.Terms.{terms, term_at}
use Rattle.terms.proofs.Noted.{nothing_noted, noted_more}
use Rattle.term_order.specs.Order.{Order, less, equal, greater, ◌and_then◌, number_order}
use Rattle.term_order.specs.TermOrder.{row_order, field_order, term_order}
use Rattle.calls.specs.represent.Answers.{order_number}
use Rattle.term_order.specs.OrderCall.{order_value}
use Rattle.term_order.specs.private.FieldsCompared.{order_of, term_kind, field_as, Noted, Compared}
use Rattle.term_order.proofs.Orders.{numbers_ordered}
use Rattle.term_order.proofs.TermOrder.{terms_ordered}
use Rattle.term_order.proofs.Rows.{row_by, row_at_lem}

-- a comparison that doesn't find equal decides
pub decided : (o u : Order) (r : Ordering) → order_of r ≡ o → is_ne r ≡ true → order_of r ≡ (o and_then u)
decided o u Less e n = rw (← e)
decided o u Equal e n = absurd (false≢true n)
decided o u Greater e n = rw (← e)

-- where it finds equal, the next one decides
pub passed : (o u : Order) (r : Ordering) → order_of r ≡ o → is_ne r ≡ false → (o and_then u) ≡ u
passed o u Less e f = absurd (false≢true (sym f))
passed o u Equal e f = rw (← e)
passed o u Greater e f = absurd (false≢true (sym f))

-- an order by three comparisons, one after the other
pub record Three (o u v w : Order) : Type 0 where
  pub is : o ≡ (u and_then v and_then w)

module _ {o u v w : Order} (three : Three o u v w) (r₁ : Ordering) (first : order_of r₁ ≡ u) where
  pub first_decides : is_ne r₁ ≡ true → order_of r₁ ≡ o
  first_decides n = decided u _ r₁ first n ∙ sym three.is

  module _ (first-equal : is_ne r₁ ≡ false) (r₂ : Ordering) (second : order_of r₂ ≡ v) where
    after_first : o ≡ (v and_then w)
    after_first = three.is ∙ passed u _ r₁ first first-equal

    pub second_decides : is_ne r₂ ≡ true → order_of r₂ ≡ o
    second_decides n = decided v _ r₂ second n ∙ sym after_first

    pub third_decides : is_ne r₂ ≡ false → (r₃ : Ordering) → order_of r₃ ≡ w → order_of r₃ ≡ o
    third_decides second-equal r₃ third = third ∙ sym (after_first ∙ passed v w r₂ second second-equal)

equal_of : (r : Ordering) → is_ne r ≡ false → order_of r ≡ equal
equal_of Less f = absurd (false≢true (sym f))
equal_of Equal f = refl
equal_of Greater f = absurd (false≢true (sym f))

equal_where : (r : Ordering) → is_eq r ≡ true → order_of r ≡ equal
equal_where Less e = absurd (false≢true e)
equal_where Equal e = refl
equal_where Greater e = absurd (false≢true e)

-- two numbers that are compared, which are n and m
pub numbers_compared : (k l : ℕ) {n m : ℕ} {o : Ordering} → o ≡ nat_cmp k l → k ≡ n → l ≡ m
    → order_of o ≡ number_order n m
unfolding number_order
numbers_compared k l e f g = grind (arith, common_steps)

-- an answer's value is that of equal
pub found_equal : (o : Order) {r : ℕ} → r ≡ order_value o → r ≡ 1 → o ≡ equal
found_equal less e f = absurd (omega arith)
found_equal equal e f = refl
found_equal greater e f = absurd (omega arith)

module _ (rs ss : List Row) where
  pub none_noted : (k : ℕ) → Noted rs ss (replicate k None)
  unfolding Noted
  none_noted k i j q = nothing_noted k i j q

  pub noted_equal : (xs : List (Option ℕ)) (i j : ℕ) → Noted rs ss xs → get_or xs i None ≡ Some j
      → Compared rs ss (term_order (term_at rs i) (term_at ss j)) Equal xs
  unfolding Noted
  noted_equal xs i j s there =
      let same : term_at rs i ≡ term_at ss j = s i j there in
      record {
        answer = sym (ap (term_order (term_at rs i)) (sym same) ∙ terms_ordered.same (term_at rs i));
        noted = s;
      }

  pub equal_noted : (xs : List (Option ℕ)) (i j : ℕ) → Noted rs ss xs → term_order (term_at rs i) (term_at ss j) ≡ equal
      → Noted rs ss (set xs i (Some j))
  unfolding Noted
  equal_noted xs i j s e =
      noted_more (λ i j. term_at rs i ≡ term_at ss j) xs i j s
      (terms_ordered.equal_same (term_at rs i) (term_at ss j) e)

  -- a pair that is found equal
  pub pair_noted : (i j : ℕ) (r : Ordering) → order_of r ≡ term_order (term_at rs i) (term_at ss j) → is_eq r ≡ true
      → (xs ys : List (Option ℕ)) → Noted rs ss xs → ys ≡ set xs i (Some j) → Noted rs ss ys
  pair_noted i j r e q xs ys noted stored =
      subst (Noted rs ss) (sym stored) (equal_noted xs i j noted (sym e ∙ equal_where r q))

  -- the fields x and y at one place of rows i and j
  abbrev pub fields : (i j : ℕ) → Field → (x y : ℕ) → Order
  fields i j f x y = field_order (field_as (terms (take i rs)) f x) (field_as (terms (take j ss)) f y)

  -- rows i and j, read as the code reads them, and their kinds
  module _ (i j : ℕ) {x y : Row} {n m : ℕ} (left : x ≡ row_at rs n) (n-is : n ≡ i) (right : y ≡ row_at ss m)
      (m-is : m ≡ j) {k l : ℕ} (kind : k ≡ term_kind x.kind) (other : l ≡ term_kind y.kind) {r₀ : Ordering}
      (compared : r₀ ≡ nat_cmp k l) {unequal : Bool} (told : unequal ≡ is_ne r₀) where
    abbrev kinds : Order
    kinds = number_order (term_kind x.kind) (term_kind y.kind)

    kinds-are : order_of r₀ ≡ kinds
    kinds-are = numbers_compared k l compared kind other

    abbrev order : Order
    order = term_order (term_at rs i) (term_at ss j)

    both_rows : order ≡ row_order (row_by (terms (take i rs)) x) (row_by (terms (take j ss)) y)
    unfolding term_order
    both_rows =
        ap₂ row_order (row_at_lem rs i ∙ ap (row_by (terms (take i rs))) (sym (left ∙ ap (row_at rs) n-is)))
        (row_at_lem ss j ∙ ap (row_by (terms (take j ss))) (sym (right ∙ ap (row_at ss) m-is)))

    pub kinds_differ : unequal ≡ true → order_of r₀ ≡ order
    unfolding row_order
    kinds_differ e = decided kinds _ r₀ kinds-are (sym told ∙ e) ∙ sym both_rows

    abbrev by : Fields → Order
    by fs = fields i j fs.a x.a y.a and_then fields i j fs.b x.b y.b and_then fields i j fs.c x.c y.c

    -- of one kind, whose fields are these
    pub by_fields : unequal ≡ false → {fs : Fields} → fs ≡ fields_of k
        → Three order (fields i j fs.a x.a y.a) (fields i j fs.b x.b y.b) (fields i j fs.c x.c y.c)
    unfolding row_order
    by_fields e are =
        let alike : kinds ≡ equal = sym kinds-are ∙ equal_of r₀ (sym told ∙ e) in
        let same : term_kind x.kind ≡ term_kind y.kind = numbers_ordered.equal_same _ _ alike in
        let by_kind : order ≡ by (fields_of (term_kind x.kind)) =
        both_rows ∙ rw (← same, numbers_ordered.same (term_kind x.kind)) in
        record { is = by_kind ∙ ap by (sym (are ∙ ap fields_of kind)) }

-- an order's number is that of the order that it stands for
pub number_of_order : (r : Ordering) → order_number r ≡ order_value (order_of r)
number_of_order Less = refl
number_of_order Equal = refl
number_of_order Greater = refl
