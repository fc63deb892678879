-- Each clause of what is guaranteed of order and bundle order, written out once more: without one of them this fails.
use Rattle.calls.specs.represent.Answers.{OrderOrRefusal, order_answer_of}
use Prim.Native.Nat.{ℕ, ◌≤◌, ◌<◌}
use mathlib.Core.Path.{◌≡◌}
use mathlib.Core.List.{List, [], ◌∷◌, map}
use mathlib.Core.Logic.{◌↔◌}
use lib.ListN.{length}
use Rattle.terms.specs.Terms.{Term, term_at}
use Rattle.calls.specs.Book.{Book, answer, empty_book}
use Rattle.calls.specs.Runs.{Run, final}
use Rattle.calls.specs.Calls.{Call, CallSeen, plain_book}
use Rattle.term_order.specs.TermOrder.{term_order}
use Rattle.term_order.specs.BundleOrder.{term_step, term_steps}
use Rattle.term_order.specs.OrderCall.{order_answer, bundle_order_answer}
use Rattle.term_order.specs.OrderLaws.{occurrences}
use Rattle.session.specs.declared.session.Session.{Session}
use Rattle.session.specs.View.{view}
use Rattle.session.specs.OrderGuarantee.{SortedRows, ArchivesOrdered}
use Rattle.session.proofs.Source.{New, Called, Ordered, BundleOrdered, order_guarantee}

module _ (s₀ t₀ s t : Session) (cs ds : List Call) (os us : List CallSeen) (new-s : New s₀) (new-t : New t₀)
    (run-s : Run view Called s₀ cs os s) (run-t : Run view Called t₀ ds us t) where
  abbrev left : Book
  left = final plain_book empty_book cs

  abbrev right : Book
  right = final plain_book empty_book ds

  abbrev met : ArchivesOrdered Ordered BundleOrdered s t left right
  met = order_guarantee s₀ t₀ s t cs ds os us new-s new-t run-s run-t

  abbrev left_terms : List ℕ → List Term
  left_terms is = map (term_at left.rows) is

  abbrev right_terms : List ℕ → List Term
  right_terms js = map (term_at right.rows) js

  -- an order call
  module _ (i j : ℕ) (r : OrderOrRefusal) (ordered : Ordered s i t j r) where
    pub answered : order_answer_of r ≡ order_answer left.rows i right.rows j
    answered = met.answers i j r ordered

    pub equal_iff : (order_answer_of r ≡ answer 0 1)
        ↔ ((i < length left.rows) × (j < length right.rows) × (term_at left.rows i ≡ term_at right.rows j))
    equal_iff = met.equal i j r ordered

  -- order calls of a session say that row i is at most row j; that each row of a list is at most the next one
  abbrev AtMost : Session → (i j : ℕ) → Type 0
  AtMost u i j = (r : OrderOrRefusal) × Ordered u i u j r × ((order_answer_of r).number ≡ 0)
      × ((order_answer_of r).value ≤ 1)

  abbrev InOrder : Session → List ℕ → Type 0
  InOrder u [] = Unit {0}
  InOrder u (i ∷ []) = Unit {0}
  InOrder u (i ∷ j ∷ is) = AtMost u i j × InOrder u (j ∷ is)

  in_order : (u : Session) (is : List ℕ) → InOrder u is → SortedRows Ordered BundleOrdered u is
  in_order u [] h = tt
  in_order u (i ∷ []) h = tt
  in_order u (i ∷ j ∷ is) h = (h.0, in_order u (j ∷ is) h.1)

  -- lists of any length
  pub sorted_rows : (is js : List ℕ) → InOrder s is → InOrder t js
      → ((u : Term) → occurrences term_order u (left_terms is) ≡ occurrences term_order u (right_terms js))
      → left_terms is ≡ right_terms js
  sorted_rows is js h k = met.sorted is js (in_order s is h) (in_order t js k)

  -- a bundle order call
  module _ (r : OrderOrRefusal) (ordered : BundleOrdered s t r) where
    pub bundle_answered : order_answer_of r ≡ bundle_order_answer left right
    bundle_answered = met.bundle_answers r ordered

    pub bundle_equal_iff : (order_answer_of r ≡ answer 0 1)
        ↔ (map (term_step left.rows) left.steps ≡ map (term_step right.rows) right.steps)
    unfolding term_steps
    bundle_equal_iff = met.bundle_equal r ordered
