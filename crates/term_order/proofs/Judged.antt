-- The answers of order calls, case by case.
use Prim.Native.Nat.{ℕ, ◌≤◌, ◌<◌}
use mathlib.Core.Path.{◌≡◌, refl, sym, ap, ◌∙◌}
use mathlib.Core.Bool.{Bool, true, false, cond}
use mathlib.Core.List.{List}
use mathlib.Core.Logic.{◌↔◌}
use native.Mathlib.Omega.{arith}
use lib.Dec.{leb}
use lib.ListN.{length}
use borrow.Author.Tests.{leb-false, lt-leb}
use Rattle.terms.specs.Row.{Row}
use Rattle.terms.specs.Terms.{term_at}
use Rattle.calls.specs.Book.{Book, Answer, answer}
use Rattle.common.specs.Refusals.{bad_side}
use Rattle.std.specs.Prelude.{Ok, Err}
use Rattle.std.specs.declared.cmp.Ordering.{Ordering}
use Rattle.std.specs.declared.cmp.Ordering.TheVariants.{Less, Equal, Greater}
use Rattle.common.specs.declared.refusal.Refusal.TheVariants.{BadSide}
use Rattle.calls.specs.represent.Answers.{OrderOrRefusal, order_number, order_answer_of}
use Rattle.term_order.specs.Order.{Order, less, equal, greater}
use Rattle.term_order.specs.TermOrder.{term_order}
use Rattle.term_order.specs.BundleOrder.{steps_order, term_steps, bundle_order}
use Rattle.term_order.specs.OrderCall.{order_value, order_answer, bundle_order_answer}
use Rattle.term_order.specs.OrderLaws.{AtMost}
use Rattle.term_order.proofs.Compared.{found_equal}
use Rattle.term_order.proofs.TermOrder.{terms_ordered}
use Rattle.term_order.proofs.BundleOrder.{steps_ordered}

-- the answer, where `left` says that the left row is not held, and `right` that the right one is not
abbrev answer_by : (left right : Bool) → Order → Answer
answer_by left right o = cond left (answer bad_side 1) (cond right (answer bad_side 2) (answer 0 (order_value o)))

accepted_by : (left right : Bool) (o : Order) → (answer_by left right o).number ≡ 0 → (left ≡ false) × (right ≡ false)
accepted_by true right o e = absurd (omega arith)
accepted_by false true o e = absurd (omega arith)
accepted_by false false o e = (refl, refl)

low_by : (left right : Bool) (o : Order) → (answer_by left right o).number ≡ 0 → (answer_by left right o).value ≤ 1
    → ¬ (o ≡ greater)
low_by true right o e h g = absurd (omega arith)
low_by false true o e h g = absurd (omega arith)
low_by false false o e h g = absurd (omega (arith, ap order_value g))

-- less or equal
pub at_most_lem : (rs : List Row) (i j : ℕ) → (order_answer rs i rs j).number ≡ 0 → (order_answer rs i rs j).value ≤ 1
    → AtMost term_order (term_at rs i) (term_at rs j)
unfolding order_answer
at_most_lem rs i j e h = low_by (leb (length rs) i) (leb (length rs) j) (term_order (term_at rs i) (term_at rs j)) e h

-- equal
pub equal_iff : (rs : List Row) (i : ℕ) (ss : List Row) (j : ℕ) → (order_answer rs i ss j ≡ answer 0 1)
    ↔ ((i < length rs) × (j < length ss) × (term_at rs i ≡ term_at ss j))
unfolding order_answer
equal_iff rs i ss j = (
  λ e.
      let order = term_order (term_at rs i) (term_at ss j) in
      let (left, right) = accepted_by (leb (length rs) i) (leb (length ss) j) order (ap (λ a. a.number) e) in
      let told : answer 0 (order_value order) ≡ answer 0 1 = rw (left, right) at e in (
        leb-false (length rs) i left,
        leb-false (length ss) j right,
        terms_ordered.equal_same (term_at rs i) (term_at ss j)
            (found_equal order refl (ap (λ a. a.value) told)),
      ),
  λ h.
      rw (lt-leb (length rs) i h.0, lt-leb (length ss) j h.1)
      (ap (λ o. answer 0 (order_value o))
      (ap (term_order (term_at rs i)) (sym h.2) ∙ terms_ordered.same (term_at rs i))),
)

pub bundles_equal_iff : (b c : Book) → (bundle_order_answer b c ≡ answer 0 1) ↔ (term_steps b ≡ term_steps c)
unfolding bundle_order_answer bundle_order
bundles_equal_iff b c = (
  λ e. steps_ordered.equal_same (term_steps b) (term_steps c) (found_equal _ refl (ap (λ a. a.value) e)),
  λ e. ap (λ o. answer 0 (order_value o)) (ap (steps_order (term_steps b)) (sym e) ∙ steps_ordered.same (term_steps b)),
)

-- every order is that of a case of the code's
ordering_case : (o : Order) → (r : Ordering) × (order_number r ≡ order_value o)
ordering_case less = (Less, refl)
ordering_case equal = (Equal, refl)
ordering_case greater = (Greater, refl)

compared_case : (o : Order) → (r : OrderOrRefusal) × (order_answer_of r ≡ answer 0 (order_value o))
compared_case o = let (r, e) = ordering_case o in (Ok r, ap (answer 0) e)

-- every answer is that of a case of the code's answer
case_of : (left right : Bool) (o : Order) → (r : OrderOrRefusal) × (order_answer_of r ≡ answer_by left right o)
case_of true right o = (Err (BadSide 1), refl)
case_of false true o = (Err (BadSide 2), refl)
case_of false false o = compared_case o

pub order_case : (rs : List Row) (i : ℕ) (ss : List Row) (j : ℕ)
    → (r : OrderOrRefusal) × (order_answer_of r ≡ order_answer rs i ss j)
unfolding order_answer
order_case rs i ss j = case_of (leb (length rs) i) (leb (length ss) j) (term_order (term_at rs i) (term_at ss j))

pub bundle_order_case : (b c : Book) → (r : OrderOrRefusal) × (order_answer_of r ≡ bundle_order_answer b c)
unfolding bundle_order_answer
bundle_order_case b c = compared_case (bundle_order b c)
