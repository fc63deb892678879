-- What the parts of the numbering promise each other.
use Rattle.std.specs.Prelude.{ℕ, ◌≡◌, List, length, get_or}
use Rattle.std.proofs.Math.Option.{none}
use Rattle.selector_grammar.specs.Bytes.{Bytes}
use Rattle.xml_document.specs.declared.document.Document.{Document as XmlDocument}
use Rattle.xml_document.specs.declared.names.Names.{Names}
use Rattle.xml_document.specs.Names.{nth_name}
use Rattle.xml_numbers.specs.declared.numbering.Numbering.{Numbering}
use Rattle.xml_numbers.specs.Numbers.{listed, number_at, first_unnumbered}

-- the numbers that a list has for the names of a table
pub record TableListed (list : Bytes) (t : Names) (vs : List ℕ) : Type 0 where
  pub each : (k : ℕ) → get_or vs k 0 ≡ listed list (nth_name t k)

-- the numbers of the names of all rows, of which none lacks one
pub record Column (x : XmlDocument) (m : Numbering) (ns : List ℕ) : Type 0 where
  pub size : length ns ≡ length x.kinds.items
  pub each : (i : ℕ) → get_or ns i 0 ≡ number_at x m i
  pub all : none ≡ first_unnumbered x m
