-- What the calls term, step and select accept: just what is well formed, what the rule table yields and what can be
-- selected on, on every session that calls lead to.
use Rattle.calls.specs.represent.Answers.{NumberOrRefusal, answer_of}
use Rattle.std.specs.Prelude.{ℕ, ◌*◌, ◌≤◌, ◌<◌, ◌≡◌, List, map, ◌↔◌, T, leb, length}
use Rattle.xpath.specs.Document.{document_of, well_formed, node_width, max_nodes}
use Rattle.xpath.specs.Visits.{visits}
use Rattle.terms.specs.Row.{Row, row_at, max_rows}
use Rattle.terms.specs.Fields.{max_kind, fields_of, field_ok, held_path}
use Rattle.terms.specs.Nesting.{max_nesting, nesting}
use Rattle.terms.specs.Terms.{path_at}
use Rattle.rules.specs.Yields.{Yields, premise_count}
use Rattle.calls.specs.Book.{Step, max_steps, Book, Answer, IsAccepted}
use Rattle.calls.specs.StepCall.{same_sort, premise_ok, claim_of, premises_of}
use Rattle.calls.specs.Runs.{Run}
use Rattle.calls.specs.Calls.{Call, CallSeen, book_after}
use Rattle.session.specs.declared.session.Session.{Session}
use Rattle.session.specs.View.{view}
use Rattle.session.specs.Promises.{CallRelation, SelectRelation}

-- the row r is well formed after the rows rs: its kind is one of the twelve, each field is what its place asks, an
-- operand a held row of the right sort, an axis, a test, a name or 0 where it is unused, and its nesting is allowed
pub record RowWellFormed (rs : List Row) (r : Row) : Type 0 where
  pub kind : r.kind ≤ max_kind
  pub a : T (field_ok rs (fields_of r.kind).a r.a r.b)
  pub b : T (field_ok rs (fields_of r.kind).b r.b r.b)
  pub c : T (field_ok rs (fields_of r.kind).c r.c r.b)
  pub nesting : nesting rs r ≤ max_nesting

-- it is so, no row held is equal to it, and there is space
pub record AcceptableRow (rs : List Row) (r : Row) : Type 0 where
  pub well_formed : RowWellFormed rs r
  pub new : (i : ℕ) → i < length rs → ¬ (row_at rs i ≡ r)
  pub space : length rs < max_rows

-- the step's rows are held, both paths or both qualifiers; each premise that its rule takes is the number of a held
-- step, from 1, another is 0; the rule yields what the step says from what its premises say, as terms; and there is
-- space
pub record AcceptableStep (b : Book) (p : Step) : Type 0 where
  pub left : p.left < length b.rows
  pub right : p.right < length b.rows
  pub one_sort : T (same_sort b.rows p.left p.right)
  pub first : T (premise_ok (leb 1 (premise_count p.rule)) (length b.steps) p.first)
  pub second : T (premise_ok (leb 2 (premise_count p.rule)) (length b.steps) p.second)
  pub yielded : Yields p.rule (claim_of b.rows p) (map (claim_of b.rows) (premises_of b.steps p))
  pub space : length b.steps < max_steps

-- the lent numbers are whole rows, 1 to 512, of a well-formed document, x is one of its nodes, the row is a held path,
-- the marks have room for each node, and the visits are within the limit
pub record AcceptableSelect (rs : List Row) (row : ℕ) (xs : List ℕ) (x limit room : ℕ) : Type 0 where
  pub whole : length xs ≡ node_width * length (document_of xs)
  pub few : length (document_of xs) ≤ max_nodes
  pub well_formed : T (well_formed (document_of xs))
  pub context : x < length (document_of xs)
  pub path : T (held_path rs row)
  pub marks : length (document_of xs) ≤ room
  pub within : visits (document_of xs) (path_at rs row) x ≤ limit

module _ (Selected : SelectRelation) (Called : CallRelation) where
  -- what is asked of the session s that calls left; b is the plain book fed the same calls
  pub record AcceptsExactly (s : Session) (b : Book) : Type 0 where
    pub rows : (r : Row) (a : Answer) (t : Session) → Called s (Call.term r) a t → IsAccepted a ↔ AcceptableRow b.rows r
    pub steps : (p : Step) (a : Answer) (t : Session) → Called s (Call.step p) a t → IsAccepted a ↔ AcceptableStep b p
    pub selects : (row : ℕ) (xs : List ℕ) (x limit : ℕ) (buffer left : List ℕ) (t : NumberOrRefusal)
        → Selected s row xs x limit buffer t left
        → IsAccepted (answer_of t) ↔ AcceptableSelect b.rows row xs x limit (length buffer)

  -- the guarantee: every list of calls, run from what `Session::new` gives, refused ones included
  abbrev pub AcceptGuarantee : (New : Session → Type 0) → Type 0
  AcceptGuarantee New = (s₀ s : Session) (cs : List Call) (os : List CallSeen)
      → New s₀ → Run view Called s₀ cs os s → AcceptsExactly s (book_after cs)
