-- The numbers that a list gives to the names of a document that was read from XML, and the document with them.
use Rattle.std.specs.Prelude.{ℕ, suc, ◌≡◌, ◌-◌, Bool, not, cond, ◌&&◌, List, eqb, leb, length, get_or}
use Rattle.std.specs.Prelude.{Result, Ok, Err}
use Rattle.std.proofs.Math.Option.{Option, none, some}
use Rattle.common.specs.Bounded.{first_below}
use Rattle.common.specs.Limits.{max_number}
use Rattle.lines.specs.Line.{lines}
use Rattle.selector_grammar.specs.Bytes.{Bytes, is_word}
use Rattle.selector_grammar.specs.Words.{number_of}
use Rattle.xpath.specs.Document.{Document}
use Rattle.documents.specs.Columns.{rows_of}
use Rattle.documents.specs.Documents.{doc}
use Rattle.documents.specs.declared.document.Document.{Document as CheckedDocument}
use Rattle.xml_document.specs.declared.document.Document.{Document as XmlDocument}
use Rattle.xml_document.specs.declared.names.Names.{Names}
use Rattle.xml_document.specs.Names.{nth_name}
use Rattle.xml_document.specs.Xml.{IsXml}
use Rattle.xml_numbers.specs.declared.numbering.Lookup.{Lookup}
use Rattle.xml_numbers.specs.declared.numbering.Lookup.TheVariants.{NoNamespace, LocalPart}
use Rattle.xml_numbers.specs.declared.numbering.Unlisted.{Unlisted}
use Rattle.xml_numbers.specs.declared.numbering.Unlisted.TheVariants.{Refused, Spare}
use Rattle.xml_numbers.specs.declared.numbering.Numbering.{Numbering}
use Rattle.xml_numbers.specs.declared.number_error.NumberError.{NumberError}
use Rattle.xml_numbers.specs.declared.number_error.NumberError.TheVariants.{Unlisted as NotListed, OutOfMemory}

-- the number that a list has for a name, if a selector can have it; 0 for none
abbrev pub listed : (list name : Bytes) → ℕ
listed list name = cond (is_word name) (number_of list name) 0

-- that number, of a name in a namespace, 0 for none; 0 where the name is not sought
abbrev pub sought : Lookup → (number namespace : ℕ) → ℕ
sought NoNamespace k s = cond (eqb s 0) k 0
sought LocalPart k s = k

-- the number of the names that the list lacks, the one after its last; 0 for none
abbrev pub spare : Unlisted → (list : Bytes) → ℕ
spare Refused list = 0
spare Spare list = cond (leb (suc (length (lines list))) max_number) (suc (length (lines list))) 0

-- the first of two numbers that is one
abbrev pub first_of : ℕ → ℕ → ℕ
first_of m k = cond (eqb m 0) k m

-- the number of a name, which has a number in a table and one of its namespace; 0 for none
abbrev pub number_by : (list : Bytes) → Lookup → Unlisted → Names → (name namespace : ℕ) → ℕ
number_by list l u t n s = cond (eqb n 0) 0 (first_of (sought l (listed list (nth_name t (n - 1))) s) (spare u list))

-- the number of the name of row i
abbrev pub number_at : XmlDocument → Numbering → ℕ → ℕ
number_at x m i =
    number_by m.list.now m.lookup m.unlisted x.name_table (get_or x.names.items i 0) (get_or x.namespaces.items i 0)

-- row i has a name, and the name no number
abbrev pub unnumbered : XmlDocument → Numbering → ℕ → Bool
unnumbered x m i = not (eqb (get_or x.names.items i 0) 0) && eqb (number_at x m i) 0

-- the first such row
abbrev pub first_unnumbered : XmlDocument → Numbering → Option ℕ
first_unnumbered x m = first_below (length x.kinds.items) (unnumbered x m)

-- the rows of a document that was read, with the numbers of their names
pub record Numbered (x : XmlDocument) (m : Numbering) (d : Document) : Type 0 where
  pub numbers : List ℕ
  pub rows : d ≡ rows_of x.kinds.items x.parents.items numbers
  pub size : length numbers ≡ length x.kinds.items
  pub each : (i : ℕ) → get_or numbers i 0 ≡ number_at x m i
  pub xml : IsXml d

-- no numbers: the first row without one, and its line
abbrev pub Refuses : XmlDocument → Numbering → NumberError → Type 0
Refuses x m (NotListed row line) = (some row ≡ first_unnumbered x m) × (line ≡ get_or x.lines.items row 0)
Refuses x m OutOfMemory = Unit {0}

abbrev pub NumbersTo : XmlDocument → Numbering → Result CheckedDocument NumberError → Type 0
NumbersTo x m (Ok c) = (none ≡ first_unnumbered x m) × Numbered x m (doc c)
NumbersTo x m (Err e) = Refuses x m e
