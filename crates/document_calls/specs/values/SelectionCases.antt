-- Refusals of selects on documents of any size, and what is selected from sets, by computation.
use Rattle.std.specs.Prelude.{ℕ, refl, Bool, true, false, ◌&&◌, ◌||◌, List, [], ◌∷◌, leb, length, get_or}
use Rattle.std.proofs.Math.Option.{none, some}
use Rattle.common.specs.Bounded.{any_below}
use Rattle.common.specs.declared.refusal.Refusal.TheVariants.{BadArgument}
use Rattle.common.specs.values.Expected.{◌is◌, AllRight}
use Rattle.xpath.specs.Document.{Document, node, root_node, kind_at, parent_at, name_at, is_child, climb_meets}
use Rattle.xpath.specs.Document.{is_ancestor, are_siblings}
use Rattle.xpath.specs.Axis.{on_axis, passes}
use Rattle.xpath.specs.Term.{AxisStep}
use Rattle.xpath.specs.Meaning.{selects}
use Rattle.terms.specs.Row.{Row, row}
use Rattle.terms.specs.Fields.{is_path, held_path}
use Rattle.set_selection.specs.Sets.{image}
use Rattle.document_calls.specs.Selections.{refusal_of}

-- a path and a qualifier
abbrev rows : List Row
rows = row 1 0 0 0 ∷ row 6 0 0 0 ∷ []

pub selects_refused :
    AllRight
    (refusal_of (leb 3 3) rows 0 is some (BadArgument 1)
    ∷ refusal_of (leb 3 4) rows 0 is some (BadArgument 1)
    -- of two refusals the first
    ∷ refusal_of (leb 3 3) rows 1 is some (BadArgument 1)
    -- a qualifier, and no row
    ∷ refusal_of (leb 3 2) rows 1 is some (BadArgument 2)
    ∷ refusal_of (leb 3 2) rows 2 is some (BadArgument 2)
    ∷ refusal_of (leb 3 2) rows 0 is none
    ∷ [])
unfolding held_path is_path
selects_refused = refl

-- root, log, run, its attribute, mark, mark
abbrev log : Document
log = root_node ∷ node 1 0 1 ∷ node 1 1 2 ∷ node 5 2 4 ∷ node 1 2 3 ∷ node 1 1 3 ∷ []

-- the nodes that the step selects from some of these
abbrev from : (axis test name : ℕ) → List Bool → List Bool
from a t c m =
    image (selects log (AxisStep a t c)) m 0
    ∷ image (selects log (AxisStep a t c)) m 1
    ∷ image (selects log (AxisStep a t c)) m 2
    ∷ image (selects log (AxisStep a t c)) m 3
    ∷ image (selects log (AxisStep a t c)) m 4
    ∷ image (selects log (AxisStep a t c)) m 5
    ∷ []

pub selected_from_sets :
    AllRight
    -- children of the log and of the run
    (from 1 1 0 (false ∷ true ∷ true ∷ false ∷ false ∷ false ∷ [])
    is (false ∷ false ∷ true ∷ false ∷ true ∷ true ∷ [])
    -- marks among them
    ∷ from 1 0 3 (false ∷ true ∷ true ∷ false ∷ false ∷ false ∷ [])
    is (false ∷ false ∷ false ∷ false ∷ true ∷ true ∷ [])
    -- from no node
    ∷ from 5 2 0 (false ∷ false ∷ false ∷ false ∷ false ∷ false ∷ [])
    is (false ∷ false ∷ false ∷ false ∷ false ∷ false ∷ [])
    -- the owner of an attribute
    ∷ from 2 2 0 (false ∷ false ∷ false ∷ true ∷ false ∷ false ∷ [])
    is (false ∷ false ∷ true ∷ false ∷ false ∷ false ∷ [])
    ∷ [])
unfolding any_below selects on_axis passes kind_at parent_at name_at is_child climb_meets is_ancestor are_siblings
selected_from_sets = refl
