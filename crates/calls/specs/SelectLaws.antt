-- What may be known of a select call before it is made.
use Rattle.std.specs.Prelude.{ℕ, ◌≤◌, ◌<◌, ◌≡◌, List, length, get_or}
use Rattle.common.specs.RowKinds.{step_row}
use Rattle.xpath.specs.Document.{document_of}
use Rattle.xpath.specs.Chain.{Chain, visit_bound}
use Rattle.xpath.specs.OneName.{LentSameButName}
use Rattle.terms.specs.Row.{Row, row_at}
use Rattle.terms.specs.Terms.{path_at}
use Rattle.common.specs.Refusals.{limit_passed}
use Rattle.calls.specs.Book.{IsAccepted}
use Rattle.calls.specs.represent.Answers.{NumberOrRefusal, answer_of}
use Rattle.calls.specs.Promises.{SelectMade}

-- a path of k steps on n nodes, with a limit of at least the bound for k and n: the answer is never 15
abbrev pub LimitSuffices : Type 0
LimitSuffices = (rs : List Row) (row : ℕ) (xs : List ℕ) (x limit : ℕ) (buffer left : List ℕ) (t : NumberOrRefusal)
    → SelectMade rs row xs x limit buffer t left
    → (k : ℕ) → Chain k (path_at rs row) → visit_bound k (length (document_of xs)) ≤ limit
    → ¬ ((answer_of t).number ≡ limit_passed)

-- two accepted calls of one row that is a step of a path, from one context node, on lent numbers alike but for the name
-- of node m: they mark every other node alike
abbrev pub MarksSameElsewhere : Type 0
MarksSameElsewhere = (rs : List Row) (row x : ℕ) → (row_at rs row).kind ≡ step_row
    → (m : ℕ) (xs xs' : List ℕ) → LentSameButName m xs xs'
    → (limit limit' : ℕ) (buffer buffer' left left' : List ℕ) (t t' : NumberOrRefusal)
    → SelectMade rs row xs x limit buffer t left → IsAccepted (answer_of t)
    → SelectMade rs row xs' x limit' buffer' t' left' → IsAccepted (answer_of t')
    → (y : ℕ) → y < length (document_of xs) → ¬ (y ≡ m) → get_or left y 0 ≡ get_or left' y 0
