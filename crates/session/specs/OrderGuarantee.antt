-- The calls order and bundle order on two sessions, and what they mean on every two sessions that calls lead to.
use Rattle.calls.specs.represent.Answers.{OrderOrRefusal, order_answer_of}
use Rattle.std.specs.Prelude.{ℕ, ◌≤◌, ◌<◌, ◌≡◌, List, [], ◌∷◌, map, ◌↔◌, length}
use Rattle.terms.specs.Terms.{term_at}
use Rattle.calls.specs.Book.{Book, answer, IsAccepted}
use Rattle.calls.specs.Runs.{Run}
use Rattle.calls.specs.Calls.{Call, CallSeen, book_after}
use Rattle.term_order.specs.TermOrder.{term_order}
use Rattle.term_order.specs.BundleOrder.{term_steps}
use Rattle.term_order.specs.OrderCall.{order_answer, bundle_order_answer}
use Rattle.term_order.specs.OrderLaws.{HoldSame}
use Rattle.session.specs.declared.session.Session.{Session}
use Rattle.session.specs.View.{view}
use Rattle.session.specs.Promises.{CallRelation}

-- what may be said of an order call: a session or register and a row, another one and a row, and the answer
abbrev pub OrderRelation : Type 0 → Type 1
OrderRelation S = S → (i : ℕ) → S → (j : ℕ) → OrderOrRefusal → Type 0

-- what may be said of a bundle order call: two sessions or registers, and the answer
abbrev pub BundleOrderRelation : Type 0 → Type 1
BundleOrderRelation S = S → S → OrderOrRefusal → Type 0

-- `Session::order` and `Session::bundle_order` on s and t; both sessions stay the caller's
abbrev pub OrderMet : OrderRelation Session
OrderMet s i t j r = order_answer_of r ≡ order_answer (view s).rows i (view t).rows j

abbrev pub BundleOrderMet : BundleOrderRelation Session
BundleOrderMet s t r = order_answer_of r ≡ bundle_order_answer (view s) (view t)

module _ {S : Type 0} (Ordered : OrderRelation S) (BundleOrdered : BundleOrderRelation S) where
  -- an order call on rows i and j of s answered less or equal
  abbrev pub RowAtMost : S → (i j : ℕ) → Type 0
  RowAtMost s i j =
      (r : OrderOrRefusal) × Ordered s i s j r × IsAccepted (order_answer_of r) × ((order_answer_of r).value ≤ 1)

  -- a list of rows that is sorted by such calls
  abbrev pub SortedRows : S → List ℕ → Type 0
  SortedRows s [] = Unit {0}
  SortedRows s (i ∷ []) = Unit {0}
  SortedRows s (i ∷ j ∷ is) = RowAtMost s i j × SortedRows s (j ∷ is)

  -- what is asked of the sessions, or the registers, s and t that calls left; b and c are the plain books fed the same
  -- calls
  pub record ArchivesOrdered (s t : S) (b c : Book) : Type 0 where
    pub answers : (i j : ℕ) (r : OrderOrRefusal) → Ordered s i t j r
        → order_answer_of r ≡ order_answer b.rows i c.rows j
    -- the answer is equal just when both rows are held and have the same term
    pub equal : (i j : ℕ) (r : OrderOrRefusal) → Ordered s i t j r
        → (order_answer_of r ≡ answer 0 1)
        ↔ ((i < length b.rows) × (j < length c.rows) × (term_at b.rows i ≡ term_at c.rows j))
    -- lists of rows, of any length, each sorted in its session: where they hold the same terms, these match
    pub sorted : (is js : List ℕ) → SortedRows s is → SortedRows t js
        → HoldSame term_order (map (term_at b.rows) is) (map (term_at c.rows) js)
        → map (term_at b.rows) is ≡ map (term_at c.rows) js
    pub bundle_answers : (r : OrderOrRefusal) → BundleOrdered s t r → order_answer_of r ≡ bundle_order_answer b c
    -- bundles are equal just when their steps are the same, as terms
    pub bundle_equal : (r : OrderOrRefusal) → BundleOrdered s t r
        → (order_answer_of r ≡ answer 0 1) ↔ (term_steps b ≡ term_steps c)

-- the guarantee: every two lists of calls, run from what `Session::new` gives, refused ones included
abbrev pub OrderGuarantee : (Ordered : OrderRelation Session) (BundleOrdered : BundleOrderRelation Session)
    (New : Session → Type 0) (Called : CallRelation) → Type 0
OrderGuarantee Ordered BundleOrdered New Called = (s₀ t₀ s t : Session) (cs ds : List Call) (os us : List CallSeen)
    → New s₀ → New t₀ → Run view Called s₀ cs os s → Run view Called t₀ ds us t
    → ArchivesOrdered Ordered BundleOrdered s t (book_after cs) (book_after ds)
