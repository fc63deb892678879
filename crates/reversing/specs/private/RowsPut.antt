-- What the functions that put the rows of a way back promise each other.
use Rattle.std.specs.Prelude.{ℕ, ◌<◌, ◌≡◌, List, length, take, get_or, Option, Some, None}
use Rattle.std.specs.Prelude.{Result, OnOk, OnErr}
use Rattle.std.proofs.Math.Option as math
use Rattle.std.proofs.Math.Option.{none, some}
use Rattle.common.specs.declared.refusal.Refusal.{Refusal}
use Rattle.terms.specs.Row.{Row, max_rows, table_with}
use Rattle.terms.specs.private.Kept.{rows_in}
use Rattle.terms.specs.represent.RowTypes.{row_of}
use Rattle.selector_grammar.specs.Denotes.{Put}
use Rattle.selector_readings.specs.private.Build.{Beyond}
use Rattle.calls.specs.Book.{answer}
use Rattle.calls.specs.represent.Answers.{answer_of}
use Rattle.reversing.specs.declared.Part.{Part as CodePart}
use Rattle.reversing.specs.declared.Part.TheVariants as Parts
use Rattle.reversing.specs.declared.Reversal.{Reversal as CodeReversal}
use Rattle.reversing.specs.private.RowsBack.{Part, back, step, filter, Reversal, reversal, back_nestings, back_put}
use Rattle.reversing.specs.private.RowsBack.{row_reply}

-- the code's parts as the definitions have them
abbrev pub part_of : CodePart → Part
part_of (Parts.Back p) = back p
part_of (Parts.Step r) = step (row_of r)
part_of (Parts.Filter f) = filter f

abbrev pub reversal_in : Option CodeReversal → math.Option Reversal
reversal_in None = none
reversal_in (Some r) = some (reversal r.kind (part_of r.left) (part_of r.right))

-- a table of numbers, and how many rows of it are held
abbrev pub Table : Type 0
Table = List ℕ × ℕ

abbrev pub rows_of : Table → List Row
rows_of t = rows_in t.0 t.1

-- f has put rows, and v is the row that it put last; or they don't fit
abbrev pub PutMet : (List Row → Put) → (t u : Table) → Option ℕ → Type 0
PutMet f t u None = max_rows < length (f (rows_of t)).rows
PutMet f t u (Some v) = (rows_of u ≡ (f (rows_of t)).rows) × (v ≡ (f (rows_of t)).at) × Beyond t.0 t.1 u.0 u.1

-- each row that is noted is that of a way back, all of whose rows are held
unfoldable pub Noted : (before held : List Row) → List (Option ℕ) → Type 0
Noted rs ss xs = (i j : ℕ) → get_or xs i None ≡ Some j → back_put rs i ss ≡ record { rows = ss; at = j }

-- nothing is
abbrev pub NothingNoted : List (Option ℕ) → Type 0
NothingNoted xs = (rs ss : List Row) → Noted rs ss xs

-- where the rows fit, it is so of the table that is left
abbrev pub NotedIn : List Row → Table → Option ℕ → List (Option ℕ) → Type 0
NotedIn rs u None xs = Unit {0}
NotedIn rs u (Some v) xs = Noted rs (rows_of u) xs

-- f has put rows from the table t, and notes are left
pub record BackPut (rs : List Row) (f : List Row → Put) (t u : Table) (v : Option ℕ) (xs : List (Option ℕ))
    : Type 0 where
  pub met : PutMet f t u v
  pub noted : NotedIn rs u v xs

-- the nestings of the ways back of rows, in order, from the start of a table
pub record BackNestings (rs : List Row) (table : List ℕ) : Type 0 where
  pub size : length table ≡ max_rows
  pub entries : take (length rs) table ≡ back_nestings rs

-- the call way-back of row i on the table t: the answer, and the table that is left, where a refused call leaves it
pub record WayBackMade (t : Table) (i : ℕ) (u : Table) (a : Result ℕ Refusal) : Type 0 where
  pub answer : answer_of a ≡ answer (row_reply (rows_of t) i).number (row_reply (rows_of t) i).value
  pub rows : OnOk a (u.0 ≡ table_with t.0 t.1 (row_reply (rows_of t) i).rows)
  pub count : OnOk a (u.1 ≡ length (row_reply (rows_of t) i).rows)
  pub refused : OnErr a (u.0 ≡ t.0)
