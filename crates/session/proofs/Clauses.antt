-- Each clause of the guarantee over lists of calls, written out once more: without one of them this fails. Below it,
-- those of the others.
pub mod AcceptClauses
pub mod ReadClauses
pub mod ReplaceClauses
pub mod WayBackClauses
pub mod PointClauses
pub mod OrderClauses
use Rattle.calls.specs.represent.Answers.{NumberOrRefusal, answer_of}
use Prim.Native.Nat.{ℕ, ◌≤◌, ◌<◌}
use mathlib.Core.Path.{◌≡◌}
use mathlib.Core.Bool.{cond}
use mathlib.Core.List.{List}
use lib.Dec.{T}
use lib.ListN.{length, get_or}
use Rattle.xpath.specs.Document.{Document, document_of, well_formed}
use Rattle.xpath.specs.Term.{Path, Qualifier}
use Rattle.xpath.specs.Meaning.{selects, holds}
use Rattle.terms.specs.Terms.{path_at}
use Rattle.rules.specs.Claim.{Containment, Implication}
use Rattle.calls.specs.Book.{Step, no_step, Book, empty_book}
use Rattle.calls.specs.StepCall.{claim_of}
use Rattle.calls.specs.SelectCall.{select_answer}
use Rattle.calls.specs.Runs.{Run, shown, final}
use Rattle.calls.specs.Calls.{Call, CallSeen, plain_book}
use Rattle.session.specs.declared.session.Session.{Session}
use Rattle.session.specs.View.{view}
use Rattle.session.specs.Promises.{CallRelation, SelectRelation}
use Rattle.session.specs.FollowsBook.{FollowsBook, BookGuarantee}

module _ (Selected : SelectRelation) (New : Session → Type 0) (Called : CallRelation)
    (guarantee : BookGuarantee Selected New Called)
    (s₀ s : Session) (cs : List Call) (os : List CallSeen) (new : New s₀) (run : Run view Called s₀ cs os s)
  where
    abbrev held : Book
    held = final plain_book empty_book cs

    abbrev met : FollowsBook Selected cs os s
    met = guarantee s₀ s cs os new run

    pub as_the_book : (os ≡ shown plain_book empty_book cs) × (view s ≡ held)
    as_the_book = (met.seen, met.held)

    -- the step numbered i + 1
    module _ (i : ℕ) (is_held_lem : i < length held.steps) where
      abbrev said : Step
      said = get_or held.steps i no_step

      pub contained : (p q : Path) → claim_of held.rows said ≡ Containment p q
          → (d : Document) → T (well_formed d) → (x : ℕ) → x < length d
          → (y : ℕ) → T (selects d p x y) → T (selects d q x y)
      contained = met.upheld.containment i is_held_lem

      pub implied : (f g : Qualifier) → claim_of held.rows said ≡ Implication f g
          → (d : Document) → T (well_formed d) → (x : ℕ) → x < length d → T (holds d f x) → T (holds d g x)
      implied = met.upheld.implication i is_held_lem

      -- two select calls of its rows on the same document from the same node, whatever their limits and buffers
      pub none_lost : (p q : Path) → claim_of held.rows said ≡ Containment p q
          → (xs : List ℕ) (x limit limit' : ℕ) (buffer buffer' left left' : List ℕ) (t t' : NumberOrRefusal)
          → Selected s said.left xs x limit buffer t left → (answer_of t).number ≡ 0
          → Selected s said.right xs x limit' buffer' t' left' → (answer_of t').number ≡ 0
          → (y : ℕ) → y < length (document_of xs) → get_or left y 0 ≡ 1 → get_or left' y 0 ≡ 1
      none_lost = met.upheld.marks_contained i is_held_lem

    -- a select call
    module _ (row : ℕ) (xs : List ℕ) (x limit : ℕ) (buffer left : List ℕ) (t : NumberOrRefusal)
        (selected : Selected s row xs x limit buffer t left)
      where
        pub answered : answer_of t ≡ select_answer held.rows row xs x limit (length buffer)
        answered = met.upheld.answers row xs x limit buffer left t selected

        pub left_as_it_was : ¬ ((answer_of t).number ≡ 0) → left ≡ buffer
        left_as_it_was = met.upheld.refused row xs x limit buffer left t selected

        pub marked : (answer_of t).number ≡ 0
            → T (well_formed (document_of xs))
            × ((y : ℕ) → y < length (document_of xs)
            → get_or left y 0 ≡ cond (selects (document_of xs) (path_at held.rows row) x y) 1 0)
            × ((y : ℕ) → length (document_of xs) ≤ y → get_or left y 0 ≡ get_or buffer y 0)
        marked = met.upheld.marks row xs x limit buffer left t selected
