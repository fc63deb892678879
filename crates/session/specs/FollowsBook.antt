-- Every list of term, step, text, point and return calls from a fresh session, refused ones included, is answered as
-- the plain book answers it, and what is then held is true (Specification, Guarantees, 3).
use Rattle.calls.specs.represent.Answers.{NumberOrRefusal, answer_of}
use Rattle.std.specs.Prelude.{ℕ, ◌≤◌, ◌<◌, ◌≡◌, cond, List, T, length, get_or}
use Rattle.xpath.specs.Document.{Document, document_of, well_formed}
use Rattle.xpath.specs.Term.{Path, Qualifier}
use Rattle.xpath.specs.Meaning.{selects, holds}
use Rattle.terms.specs.Terms.{path_at}
use Rattle.rules.specs.Claim.{Containment, Implication}
use Rattle.session.specs.declared.session.Session.{Session}
use Rattle.calls.specs.Book.{no_step, Book, IsAccepted}
use Rattle.calls.specs.StepCall.{claim_of}
use Rattle.calls.specs.SelectCall.{select_answer}
use Rattle.calls.specs.Runs.{Run}
use Rattle.calls.specs.Calls.{Call, CallSeen, book_seen, book_after}
use Rattle.session.specs.View.{view}
use Rattle.session.specs.Promises.{CallRelation, SelectRelation}

-- `Selected s row xs x limit buffer t left`: select on the session s answers t and leaves the bytes `left`
module _ (Selected : SelectRelation) where
  -- what holds of the session s that calls left; b is the plain book fed the same calls
  pub record Upheld (s : Session) (b : Book) : Type 0 where
    -- a held step that says that p is contained in q: on every document of any size, from every node, each node that p
    -- selects, q selects
    pub containment : (i : ℕ) → i < length b.steps
        → (p q : Path) → claim_of b.rows (get_or b.steps i no_step) ≡ Containment p q
        → (d : Document) → T (well_formed d) → (x : ℕ) → x < length d
        → (y : ℕ) → T (selects d p x y) → T (selects d q x y)
    -- a held step that says that f implies g: at every node of every document where f is true, g is
    pub implication : (i : ℕ) → i < length b.steps
        → (f g : Qualifier) → claim_of b.rows (get_or b.steps i no_step) ≡ Implication f g
        → (d : Document) → T (well_formed d) → (x : ℕ) → x < length d → T (holds d f x) → T (holds d g x)
    -- select on the session so left answers the first refusal that applies, else 0 with the visits
    pub answers : (row : ℕ) (xs : List ℕ) (x limit : ℕ) (buffer left : List ℕ) (t : NumberOrRefusal)
        → Selected s row xs x limit buffer t left
        → answer_of t ≡ select_answer b.rows row xs x limit (length buffer)
    -- a refused select leaves the buffer
    pub refused : (row : ℕ) (xs : List ℕ) (x limit : ℕ) (buffer left : List ℕ) (t : NumberOrRefusal)
        → Selected s row xs x limit buffer t left → ¬ IsAccepted (answer_of t) → left ≡ buffer
    -- where select accepts, the lent numbers are a well-formed document, its nodes are marked 1 or 0 as the path
    -- selects them, and later bytes stay
    pub marks : (row : ℕ) (xs : List ℕ) (x limit : ℕ) (buffer left : List ℕ) (t : NumberOrRefusal)
        → Selected s row xs x limit buffer t left → IsAccepted (answer_of t)
        → T (well_formed (document_of xs))
        × ((y : ℕ) → y < length (document_of xs)
        → get_or left y 0 ≡ cond (selects (document_of xs) (path_at b.rows row) x y) 1 0)
        × ((y : ℕ) → length (document_of xs) ≤ y → get_or left y 0 ≡ get_or buffer y 0)
    -- where select accepts both paths of a held step for one document and node, no node is marked for p and unmarked
    -- for q
    pub marks_contained : (i : ℕ) → i < length b.steps
        → (p q : Path) → claim_of b.rows (get_or b.steps i no_step) ≡ Containment p q
        → (xs : List ℕ) (x limit limit' : ℕ) (buffer buffer' left left' : List ℕ) (t t' : NumberOrRefusal)
        → Selected s (get_or b.steps i no_step).left xs x limit buffer t left → IsAccepted (answer_of t)
        → Selected s (get_or b.steps i no_step).right xs x limit' buffer' t' left' → IsAccepted (answer_of t')
        → (y : ℕ) → y < length (document_of xs) → get_or left y 0 ≡ 1 → get_or left' y 0 ≡ 1

  -- what holds of the calls cs, of which os was seen and which left s
  pub record FollowsBook (cs : List Call) (os : List CallSeen) (s : Session) : Type 0 where
    -- each call's number and value, and after it the rows, steps and points held, in order, are the book's
    pub seen : os ≡ book_seen cs
    pub held : view s ≡ book_after cs
    -- what is then held is true, and select marks by it
    pub upheld : Upheld s (book_after cs)

  -- the guarantee: every list of calls, run from what `Session::new` gives; `New s` says that it gives s, and
  -- `Called s c a t` that the call c on the session s answers a and leaves the session t
  abbrev pub BookGuarantee : (New : Session → Type 0) (Called : CallRelation) → Type 0
  BookGuarantee New Called = (s₀ s : Session) (cs : List Call) (os : List CallSeen)
      → New s₀ → Run view Called s₀ cs os s → FollowsBook cs os s
