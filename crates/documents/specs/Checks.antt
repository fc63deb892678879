-- What the parts of the check promise each other.
use Rattle.std.specs.Prelude.{ℕ, ◌≡◌, not, List, length, IfNone}
use Rattle.std.specs.Prelude as code
use Rattle.common.specs.Bounded.{first_below}
use Rattle.xpath.specs.Document.{Document, row_ok}
use Rattle.xpath.specs.represent.Check.{found}
use Rattle.documents.specs.Columns.{rows_of, Sound}
use Rattle.documents.specs.declared.unchecked.Unchecked.{Unchecked}

abbrev pub listed : Unchecked → Document
listed c = rows_of c.kinds.now c.parents.now c.names.now

-- r is the first bad row of the columns' document; if there is none, the columns and the ends are sound
pub record FirstBad (ks ps ns : List ℕ) (r : code.Option ℕ) (es : List ℕ) : Type 0 where
  pub first : found r ≡ first_below (length (rows_of ks ps ns)) (λ n. not (row_ok (rows_of ks ps ns) n))
  pub sound : IfNone r (Sound ks ps ns es)
