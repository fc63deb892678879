-- What the document check and the ancestor test give.
use Rattle.std.specs.Prelude.{ℕ, zero, suc, ◌≡◌, Bool, ◌||◌, List, eqb, length, set}
use Rattle.std.specs.Prelude.{Result, Ok, Err, IfOk, IfNone}
use Rattle.std.specs.Prelude as code
use Rattle.std.proofs.Math.Option.{Option, none, some}
use Rattle.common.specs.Bounded.{first_below}
use Rattle.xpath.specs.Document.{Document, parent_at, document_of, lent_rows, bad_row_by, document_refusal}
use Rattle.xpath.specs.Climb.{above, parents_taken, climb_met}
use Rattle.xpath.specs.represent.Ends.{Ends}

-- the value of refusal 8, none where the document is accepted
abbrev pub refusal_of : Result (List ℕ) ℕ → Option ℕ
refusal_of (Ok es) = none
refusal_of (Err v) = some v

-- the check of lent numbers: refusal 8, and where it doesn't apply the end of each row's subtree; the ends past the
-- last row are left open
pub record DocumentChecked (xs : List ℕ) (r : Result (List ℕ) ℕ) : Type 0 where
  pub refusal : refusal_of r ≡ document_refusal xs
  pub ends : IfOk r (Ends (document_of xs))

-- what the code found, if anything
abbrev pub found : code.Option ℕ → Option ℕ
found code.None = none
found (code.Some n) = some n

-- the ends once the subtrees of the first k rows of the climb from y are closed at row e
unfoldable pub closed : Document → (y e k : ℕ) → List ℕ → List ℕ
closed d y e zero es = es
closed d y e (suc k) es = set (closed d y e k es) (above d k y) e

-- the climb from y toward x, which closes at row e the subtree of each row that it leaves
pub record ClimbMade (d : Document) (x y e : ℕ) (es : List ℕ) (r : Bool) (k : ℕ) (left : List ℕ) : Type 0 where
  pub met : r ≡ climb_met d x y
  pub parents : k ≡ parents_taken d x y
  pub ends : left ≡ closed d y e (parents_taken d x y) es

-- What the parts of the check promise each other.

-- whether row p is row n or an ancestor of it, by the climb, which closes the subtrees that end after row n
pub record Placed (d : Document) (p n : ℕ) (es : List ℕ) (r : Bool) (left : List ℕ) : Type 0 where
  pub placed : r ≡ (eqb p n || climb_met d p n)
  pub ends : left ≡ closed d n (suc n) (parents_taken d p n) es

-- the ends once the subtrees are closed that end before row n: those of the rows that the climb from the row before it
-- toward its parent leaves
unfoldable pub closed_before : Document → ℕ → List ℕ → List ℕ
closed_before d zero es = es
closed_before d (suc n) es = closed d n (suc n) (parents_taken d (parent_at d (suc n)) n) es

-- the same for each of the first n rows in turn
unfoldable pub closed_in_turn : Document → ℕ → List ℕ → List ℕ
closed_in_turn d zero es = es
closed_in_turn d (suc n) es = closed_before d n (closed_in_turn d n es)

-- r is the first bad row of the lent numbers, by the climb; if there is none, each subtree that ends at a row is closed
-- there
pub record FirstBad (xs es : List ℕ) (r : code.Option ℕ) (left : List ℕ) : Type 0 where
  pub first : found r ≡ first_below (lent_rows xs) (bad_row_by climb_met xs)
  pub ends : IfNone r (left ≡ closed_in_turn (document_of xs) (length (document_of xs)) es)
