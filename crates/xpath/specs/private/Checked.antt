-- Documents that were checked.
use Rattle.xpath.specs.Document.{Document, document_of}
use Rattle.xpath.specs.declared.checked.Checked.{Checked}

-- the document
abbrev pub doc : Checked → Document
doc c = document_of c.numbers.now
