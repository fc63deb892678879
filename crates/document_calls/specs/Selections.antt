-- What a select on a document of any size answers.
use Rattle.std.specs.Prelude.{ℕ, ◌≡◌, ◌<◌, Bool, not, cond, List, leb, eqb, length, Result, Ok, Err}
use Rattle.std.specs.Global.{Vec}
use Rattle.std.proofs.Math.Option.{Option, none, some}
use Rattle.common.specs.declared.refusal.Refusal.{Refusal}
use Rattle.common.specs.declared.refusal.Refusal.TheVariants.{BadArgument}
use Rattle.xpath.specs.Document.{Document}
use Rattle.xpath.specs.Meaning.{selects}
use Rattle.terms.specs.Row.{Row}
use Rattle.terms.specs.Fields.{held_path}
use Rattle.terms.specs.Terms.{path_at}
use Rattle.set_selection.specs.Sets.{marked, image}
use Rattle.document_calls.specs.declared.selection_error.SelectionError.{SelectionError}
use Rattle.document_calls.specs.declared.selection_error.SelectionError.TheVariants.{Refused, OutOfMemory}

-- the refusal of a select by row `row` on a checked document, in the order of `select`: the context is not of the
-- document, or the row is no held path
abbrev pub refusal_of : (outside : Bool) → List Row → (row : ℕ) → Option Refusal
refusal_of outside rs row =
    cond outside (some (BadArgument 1)) (cond (not (held_path rs row)) (some (BadArgument 2)) none)

-- a mark for each node of the document, as s has it
pub record Marks (d : Document) (s : ℕ → Bool) (marks : List Bool) : Type 0 where
  pub size : length marks ≡ length d
  pub each : (y : ℕ) → y < length d → marked marks y ≡ s y

-- where no refusal applies, the marks are as s has them, or memory runs out; else the answer is the refusal
abbrev pub MarksOr : Option Refusal → (d : Document) → (ℕ → Bool) → Result (Vec Bool) SelectionError → Type 0
MarksOr o d s (Ok v) = (none ≡ o) × Marks d s v.items
MarksOr o d s (Err (Refused e)) = some e ≡ o
MarksOr o d s (Err OutOfMemory) = none ≡ o

-- from the node x
abbrev pub NodesSelected : List Row → (row : ℕ) → Document → (x : ℕ) → Result (Vec Bool) SelectionError → Type 0
NodesSelected rs row d x = MarksOr (refusal_of (leb (length d) x) rs row) d (selects d (path_at rs row) x)

-- from the marked nodes of the context, which has a mark for each node
abbrev pub NodesSelectedFrom : List Row → (row : ℕ) → Document → (context : List Bool)
    → Result (Vec Bool) SelectionError → Type 0
NodesSelectedFrom rs row d context =
    MarksOr (refusal_of (not (eqb (length context) (length d))) rs row) d (image (selects d (path_at rs row)) context)
