-- A select on a document of any size by a selector as text: the text call on a fresh session, and then the select of
-- the row that it answers.
use Rattle.std.specs.Prelude.{ℕ, ◌≡◌, Bool, Result, Err}
use Rattle.std.specs.Global.{Vec}
use Rattle.common.specs.declared.refusal.Refusal.{Refusal}
use Rattle.xpath.specs.Document.{Document}
use Rattle.selector_grammar.specs.Bytes.{Bytes}
use Rattle.calls.specs.Book.{Answer, IsAccepted}
use Rattle.calls.specs.represent.Answers.{refusal_answer}
use Rattle.session.specs.TextRead.{read_answer, read_rows}
use Rattle.document_calls.specs.Selections.{NodesSelected}
use Rattle.document_calls.specs.declared.selection_error.SelectionError.{SelectionError}
use Rattle.document_calls.specs.declared.selection_error.SelectionError.TheVariants.{Refused}

-- the refusal whose answer is a
abbrev pub RefusedBy : Answer → Result (Vec Bool) SelectionError → Type 0
RefusedBy a r = (e : Refusal) × (r ≡ Err (Refused e)) × (refusal_answer e ≡ a)

-- the refusal of the text, or the select on the document d from the node x
pub record TextNodesSelected (names t : Bytes) (d : Document) (x : ℕ) (r : Result (Vec Bool) SelectionError) : Type 0
  where
    pub refused : ¬ IsAccepted (read_answer names t) → RefusedBy (read_answer names t) r
    pub accepted : IsAccepted (read_answer names t)
        → NodesSelected (read_rows names t) (read_answer names t).value d x r
