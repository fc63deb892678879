-- The document that a check gives.
use mathlib.Core.Path.{◌≡◌}
use Rattle.std.specs.Prelude.{Result, Ok, Err, IfOk}
use Rattle.xpath.specs.Document.{Document}
use Rattle.documents.specs.Documents.{doc, ChecksTo}
use Rattle.documents.specs.declared.document.Document.{Document as CheckedDocument}
use Rattle.documents.specs.declared.document_error.DocumentError.{DocumentError}

pub checked : (d : Document) (r : Result CheckedDocument DocumentError) → ChecksTo d r → IfOk r (λ c. doc c ≡ d)
checked d (Ok c) m = m.1
checked d (Err e) m = tt
