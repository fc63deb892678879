-- The documents of the code's rows and documents, and what the check of rows answers.
use Rattle.std.specs.Prelude.{ℕ, ◌≡◌, not, length, Result, Ok, Err}
use Rattle.std.proofs.Math.Option.{Option, none, some}
use Rattle.xpath.specs.Document.{Document, row_ok, refused_rows}
use Rattle.documents.specs.Columns.{rows_of}
use Rattle.documents.specs.declared.rows.Rows.{Rows}
use Rattle.documents.specs.declared.document.Document.{Document as CheckedDocument}
use Rattle.documents.specs.declared.document_error.DocumentError.{DocumentError}
use Rattle.documents.specs.declared.document_error.DocumentError.TheVariants.{BadDocument, OutOfMemory}

abbrev pub rows_in : Rows → Document
rows_in r = rows_of r.kinds.items r.parents.items r.names.items

abbrev pub doc : CheckedDocument → Document
doc c = rows_of c.kinds.items c.parents.items c.names.items

-- the most rows of a document: their numbers have 32 bits
abbrev pub most_rows : ℕ
most_rows = 4294967295

-- the value of refusal 8 for a document of any size
abbrev pub refused_row : Document → Option ℕ
refused_row d = refused_rows most_rows (length d) (λ n. not (row_ok d n))

-- the check of the rows d: they are refused with that value, or it is the document of the same rows; unless memory
-- runs out
abbrev pub ChecksTo : Document → Result CheckedDocument DocumentError → Type 0
ChecksTo d (Ok c) = (none ≡ refused_row d) × (doc c ≡ d)
ChecksTo d (Err (BadDocument v)) = some v ≡ refused_row d
ChecksTo d (Err OutOfMemory) = Unit {0}
