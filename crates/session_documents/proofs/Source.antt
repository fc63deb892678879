-- What the contracts in the source say of each call, as the toolchain reads them off it, and what they mean.
use Prim.Native.Nat.{ℕ}
use mathlib.Core.Bool.{Bool}
use mathlib.Core.List.{List}
use Rattle.std.specs.Prelude.{Result}
use Rattle.std.specs.Global.{Vec}
use Rattle.documents.specs.Documents.{doc}
use Rattle.documents.specs.declared.document.Document.{Document}
use Rattle.selector_grammar.specs.Bytes.{Bytes}
use Rattle.session.specs.declared.session.Session.{Session}
use Rattle.session.specs.View.{view}
use Rattle.session.proofs.Source as session
use Rattle.document_calls.specs.Selections.{NodesSelected, NodesSelectedFrom}
use Rattle.document_calls.specs.declared.selection_error.SelectionError.{SelectionError}
use Rattle.session_documents.specs.TextNodes.{TextNodesSelected}
use Rattle.session_documents.specs.NodesGuarantee.{NodesAlike, NodesContained, TextNodesMeant}
use Rattle.session_documents.proofs.Nodes as nodes
use Rattle.session_documents.proofs.select.select_nodes.Reads as nodes-reads
use Rattle.session_documents.proofs.select.select_from.Reads as from-reads
use Rattle.session_documents.proofs.select.select_text.Reads as text-reads

-- `select_nodes` on a session with a row, a document and a context node answers r
pub data NodesMarked : Session → (row : ℕ) → Document → (x : ℕ) → Result (Vec Bool) SelectionError → Type 0 where
  nodes_called : (κs : _) (a : _) (r : _) (x : _) → nodes-reads.Post κs a r x
      → NodesMarked a.0.now a.1.0 a.1.1.0.now a.1.1.1.0 r

-- `select_from` with the marks of the context nodes
pub data NodesMarkedFrom : Session → (row : ℕ) → Document → (context : List Bool)
    → Result (Vec Bool) SelectionError → Type 0
  where
    from_called : (κs : _) (a : _) (r : _) (x : _) → from-reads.Post κs a r x
        → NodesMarkedFrom a.0.now a.1.0 a.1.1.0.now a.1.1.1.0.now r

-- `select_text` with names and a text
pub data TextNodesMarked : (names t : Bytes) → Document → (x : ℕ) → Result (Vec Bool) SelectionError → Type 0 where
  text_called : (κs : _) (a : _) (r : _) (x : _) → text-reads.Post κs a r x
      → TextNodesMarked a.0.now a.1.0.now a.1.1.0.now a.1.1.1.0 r

pub nodes_tied : (s : Session) (row : ℕ) (d : Document) (x : ℕ) (r : Result (Vec Bool) SelectionError)
    → NodesMarked s row d x r → NodesSelected (view s).rows row (doc d) x r
nodes_tied s row d x r (nodes_called κs a q y m) = m

pub from_tied : (s : Session) (row : ℕ) (d : Document) (context : List Bool) (r : Result (Vec Bool) SelectionError)
    → NodesMarkedFrom s row d context r → NodesSelectedFrom (view s).rows row (doc d) context r
from_tied s row d context r (from_called κs a q y m) = m

pub text_tied : (names t : Bytes) (d : Document) (x : ℕ) (r : Result (Vec Bool) SelectionError)
    → TextNodesMarked names t d x r → TextNodesSelected names t (doc d) x r
text_tied names t d x r (text_called κs a q y m) = m

pub nodes_alike : NodesAlike session.Selected NodesMarked
nodes_alike = nodes.nodes_alike NodesMarked nodes_tied session.Selected session.select_tied

pub nodes_contained : NodesContained session.New session.Called NodesMarked
nodes_contained =
    nodes.nodes_contained NodesMarked nodes_tied session.Selected session.New session.Called session.book_guarantee

pub text_nodes_meant : TextNodesMeant TextNodesMarked
text_nodes_meant names t d x v m = nodes.text_nodes names t d x v (text_tied names t d x _ m)
