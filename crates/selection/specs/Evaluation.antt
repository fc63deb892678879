-- What an evaluation answers, and the buffer that it leaves.
use Rattle.std.specs.Prelude.{ℕ, cond, ◌||◌, List, leb, ltb, length}
use Rattle.xpath.specs.Document.{Document, max_nodes}
use Rattle.xpath.specs.Term.{Path}
use Rattle.xpath.specs.Meaning.{selects}
use Rattle.xpath.specs.Visits.{visits}
use Rattle.terms.specs.Row.{Row}
use Rattle.terms.specs.Terms.{path_at}
use Rattle.selection.specs.Marks.{written}

pub data EvaluationAnswer : Type 0 where
  selected : (made : ℕ) → EvaluationAnswer
  no_room too_many_visits : EvaluationAnswer

pub record Outcome : Type 0 where
  pub answer : EvaluationAnswer
  pub buffer : List ℕ

abbrev pub outcome : EvaluationAnswer → List ℕ → Outcome
outcome a buffer = record { answer = a; buffer = buffer }

-- the path p on d from x: the marks of an evaluation have room for max_nodes, the buffer for as many as it has bytes
unfoldable pub path_evaluated : Path → Document → ℕ → ℕ → List ℕ → Outcome
path_evaluated p d x limit buffer =
    cond (ltb max_nodes (length d) || ltb (length buffer) (length d)) (outcome no_room buffer)
    (cond (leb (visits d p x) limit) (outcome (selected (visits d p x)) (written (length d) (selects d p x) buffer))
    (outcome too_many_visits buffer))

-- the path in row `row` of the table
abbrev pub evaluated : List Row → ℕ → Document → ℕ → ℕ → List ℕ → Outcome
evaluated rs row d x limit buffer = path_evaluated (path_at rs row) d x limit buffer
