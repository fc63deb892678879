-- What the marks of a select on a document of any size mean.
use Rattle.std.specs.Prelude.{ℕ, ◌<◌, ◌≡◌, Bool, cond, List, T, length, get_or, Result, Ok, Err}
use Rattle.std.specs.Global.{Vec}
use Rattle.xpath.specs.Document.{document_of}
use Rattle.xpath.specs.Term.{Path}
use Rattle.xpath.specs.Meaning.{selects}
use Rattle.documents.specs.Documents.{doc}
use Rattle.documents.specs.declared.document.Document.{Document}
use Rattle.rules.specs.Claim.{Containment}
use Rattle.selector_grammar.specs.Bytes.{Bytes}
use Rattle.selector_grammar.specs.Words.{number_of}
use Rattle.selector_grammar.specs.Grammar.{Union, Spells}
use Rattle.selector_grammar.specs.Denotes.{union_of}
use Rattle.calls.specs.Book.{no_step, IsAccepted}
use Rattle.calls.specs.StepCall.{claim_of}
use Rattle.calls.specs.Runs.{Run}
use Rattle.calls.specs.Calls.{Call, CallSeen, book_after}
use Rattle.calls.specs.represent.Answers.{NumberOrRefusal, answer_of}
use Rattle.session.specs.declared.session.Session.{Session}
use Rattle.session.specs.View.{view}
use Rattle.session.specs.Promises.{CallRelation, SelectRelation}
use Rattle.set_selection.specs.Sets.{marked}
use Rattle.document_calls.specs.Selections.{Marks}
use Rattle.document_calls.specs.declared.selection_error.SelectionError.{SelectionError}
use Rattle.document_calls.specs.declared.selection_error.SelectionError.TheVariants.{Refused, OutOfMemory}

-- what may be said of such a select: the session, the row, the document, the context node, and what is answered
abbrev pub NodesRelation : Type 1
NodesRelation = Session → (row : ℕ) → Document → (x : ℕ) → Result (Vec Bool) SelectionError → Type 0

-- of one by a text: the names, the text, the document, the context node, and what is answered
abbrev pub TextNodesRelation : Type 1
TextNodesRelation = (names t : Bytes) → Document → (x : ℕ) → Result (Vec Bool) SelectionError → Type 0

-- the marks of the first n nodes are those of the bytes; or memory ran out, and never a refusal
abbrev pub MarkedAlike : (n : ℕ) → (bytes : List ℕ) → Result (Vec Bool) SelectionError → Type 0
MarkedAlike n bytes (Ok v) = (y : ℕ) → y < n → get_or bytes y 0 ≡ cond (marked v.items y) 1 0
MarkedAlike n bytes (Err (Refused e)) = ⊥
MarkedAlike n bytes (Err OutOfMemory) = Unit {0}

-- where `select` accepts, a select on the document of the same rows, from the same node, marks the same nodes
abbrev pub NodesAlike : SelectRelation → NodesRelation → Type 0
NodesAlike Selected NodesMarked = (s : Session) (row : ℕ) (xs : List ℕ) (x limit : ℕ) (buffer left : List ℕ)
    (t : NumberOrRefusal) → Selected s row xs x limit buffer t left → IsAccepted (answer_of t)
    → (d : Document) → doc d ≡ document_of xs → (r : Result (Vec Bool) SelectionError) → NodesMarked s row d x r
    → MarkedAlike (length (document_of xs)) left r

-- after every list of calls from a fresh session, of a held step that says that p is contained in q: on every document,
-- from every node, no node is marked for p and unmarked for q
abbrev pub NodesContained : (Session → Type 0) → CallRelation → NodesRelation → Type 0
NodesContained New Called NodesMarked = (s₀ s : Session) (cs : List Call) (os : List CallSeen)
    → New s₀ → Run view Called s₀ cs os s
    → (i : ℕ) → i < length (book_after cs).steps
    → (p q : Path) → claim_of (book_after cs).rows (get_or (book_after cs).steps i no_step) ≡ Containment p q
    → (d : Document) (x : ℕ) (old new : Vec Bool)
    → NodesMarked s (get_or (book_after cs).steps i no_step).left d x (Ok old)
    → NodesMarked s (get_or (book_after cs).steps i no_step).right d x (Ok new)
    → (y : ℕ) → y < length (doc d) → T (marked old.items y) → T (marked new.items y)

-- nodes that are marked for a text: the context node is in the document, the text is a selector, and the marks are as
-- its path selects the nodes
pub record TextNodes (names t : Bytes) (d : Document) (x : ℕ) (v : List Bool) : Type 0 where
  pub inside : x < length (doc d)
  pub tree : Union
  pub spells : Spells t tree
  pub marks : Marks (doc d) (selects (doc d) (union_of (number_of names) tree) x) v

abbrev pub TextNodesMeant : TextNodesRelation → Type 0
TextNodesMeant NodesMarked = (names t : Bytes) (d : Document) (x : ℕ) (v : Vec Bool) → NodesMarked names t d x (Ok v)
    → TextNodes names t d x v.items
