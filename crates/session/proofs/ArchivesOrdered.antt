-- What order calls mean on two sessions that calls lead to.
use Rattle.calls.specs.represent.Answers.{OrderOrRefusal, order_answer_of}
use Prim.Native.Nat.{ℕ, ◌≤◌}
use mathlib.Core.Path.{◌≡◌, sym, ap, ap₂, subst, ◌∙◌}
use mathlib.Core.List.{List, [], ◌∷◌, map}
use Rattle.terms.specs.Row.{Row}
use Rattle.terms.specs.Terms.{term_at}
use Rattle.calls.specs.Book.{Book}
use Rattle.calls.specs.Calls.{book_after}
use Rattle.term_order.specs.TermOrder.{term_order}
use Rattle.term_order.specs.OrderCall.{order_answer, bundle_order_answer}
use Rattle.term_order.specs.OrderLaws.{Sorted}
use Rattle.session.specs.declared.session.Session.{Session}
use Rattle.session.specs.View.{view, fresh_session}
use Rattle.session.specs.Promises.{CallRelation, Met}
use Rattle.session.specs.OrderGuarantee.{OrderRelation, BundleOrderRelation, OrderMet, BundleOrderMet}
use Rattle.session.specs.OrderGuarantee.{SortedRows, ArchivesOrdered, OrderGuarantee}
use Rattle.term_order.proofs.TermOrder.{terms_ordered}
use Rattle.term_order.proofs.Sorted.{sorted_match}
use Rattle.term_order.proofs.Judged.{equal_iff, bundles_equal_iff, at_most_lem}
use Rattle.session.proofs.Simulation.{calls_follow}
use Rattle.session.proofs.FollowsBook.{CallsKept, made_from_fresh}

-- order calls on sessions, or on what has a session, that meet the session's promises
abbrev pub OrdersKept : {S : Type 0} → (S → Session) → OrderRelation S → Type 0
OrdersKept {S} session Ordered = (s : S) (i : ℕ) (t : S) (j : ℕ) (r : OrderOrRefusal)
    → Ordered s i t j r → OrderMet (session s) i (session t) j r

abbrev pub BundleOrdersKept : {S : Type 0} → (S → Session) → BundleOrderRelation S → Type 0
BundleOrdersKept {S} session Ordered = (s t : S) (r : OrderOrRefusal)
    → Ordered s t r → BundleOrderMet (session s) (session t) r

module _ {S : Type 0} (session : S → Session)
    (Ordered : OrderRelation S) (order_tied : OrdersKept session Ordered)
    (BundleOrdered : BundleOrderRelation S) (bundle_order_tied : BundleOrdersKept session BundleOrdered) where
  -- rows that calls sort are sorted terms
  sorted_terms : (s : S) (rs : List Row) → (view (session s)).rows ≡ rs → (is : List ℕ)
      → SortedRows Ordered BundleOrdered s is → Sorted term_order (map (term_at rs) is)
  sorted_terms s rs same [] sorted = tt
  sorted_terms s rs same (i ∷ []) sorted = tt
  sorted_terms s rs same (i ∷ j ∷ is) sorted =
      let (r, ordered, accepted, low) = sorted.0 in
      let told : order_answer_of r ≡ order_answer rs i rs j =
      order_tied s i s j r ordered ∙ ap (λ rs. order_answer rs i rs j) same in (
        at_most_lem rs i j (ap (λ a. a.number) (sym told) ∙ accepted)
            (subst (λ n. n ≤ 1) (ap (λ a. a.value) told) low),
        sorted_terms s rs same (j ∷ is) sorted.1,
      )

  pub ordered : (s t : S) (b c : Book) → view (session s) ≡ b → view (session t) ≡ c
      → ArchivesOrdered Ordered BundleOrdered s t b c
  ordered s t b c same_s same-t =
      let told : (i j : ℕ) (r : OrderOrRefusal) → Ordered s i t j r
      → order_answer_of r ≡ order_answer b.rows i c.rows j =
      λ i j r m. order_tied s i t j r m ∙ ap₂ (λ b c. order_answer b.rows i c.rows j) same_s same-t in
      let bundles_told : (r : OrderOrRefusal) → BundleOrdered s t r → order_answer_of r ≡ bundle_order_answer b c =
      λ r m. bundle_order_tied s t r m ∙ ap₂ bundle_order_answer same_s same-t in
      record {
        answers = told;
        equal = λ i j r m.
            let iff = equal_iff b.rows i c.rows j in
            (λ e. iff.0 (sym (told i j r m) ∙ e), λ h. told i j r m ∙ iff.1 h);
        sorted = λ is js sorted-is sorted-js.
            sorted_match terms_ordered (map (term_at b.rows) is) (map (term_at c.rows) js)
            (sorted_terms s b.rows (ap (λ b. b.rows) same_s) is sorted-is)
            (sorted_terms t c.rows (ap (λ c. c.rows) same-t) js sorted-js);
        bundle_answers = bundles_told;
        bundle_equal = λ r m.
            let iff = bundles_equal_iff b c in
            (λ e. iff.0 (sym (bundles_told r m) ∙ e), λ h. bundles_told r m ∙ iff.1 h);
      }

-- so for every `new`, every calls and every orders on sessions that meet their promises
pub order_guarantee_by : (Ordered : OrderRelation Session) → OrdersKept (λ s. s) Ordered
    → (BundleOrdered : BundleOrderRelation Session) → BundleOrdersKept (λ s. s) BundleOrdered
    → (New : Session → Type 0) (Called : CallRelation)
    → ((s : Session) → New s → s ≡ fresh_session) → CallsKept Called Met
    → OrderGuarantee Ordered BundleOrdered New Called
order_guarantee_by Ordered order_tied BundleOrdered bundle_order_tied New Called new_tied call_tied s₀ t₀ s t cs ds os us
    new-s new-t run-s run-t =
    ordered (λ s. s) Ordered order_tied BundleOrdered bundle_order_tied s t (book_after cs) (book_after ds)
    (calls_follow (made_from_fresh new_tied call_tied new-s run-s)).held
    (calls_follow (made_from_fresh new_tied call_tied new-t run-t)).held
