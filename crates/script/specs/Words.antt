-- The words of a script's lines, and what stands after each.
use Rattle.std.specs.Prelude.{ℕ, ◌+◌, ◌*◌, List, [], ◌∷◌}
use Rattle.xpath.specs.Document.{max_nodes, node_width}
use Rattle.lines.specs.Ascii.{ascii}
use Rattle.calls.specs.represent.Tables.{row_width, step_width}
use Rattle.script.specs.declared.words.Word.{Word}
use Rattle.script.specs.declared.words.Word.TheVariants.{Term, Step, Select, Document, Fresh, Old, New, Replace}
use Rattle.script.specs.declared.words.Word.TheVariants.{Write, Point, Return, Other, Order, BundleOrder, Names}
use Rattle.script.specs.declared.words.Word.TheVariants.{Text, Record, Current, Release, Records, Released}
use Rattle.script.specs.declared.words.Word.TheVariants.{CrewCurrent, WayBack}

-- one node more than a select takes, three numbers a node
abbrev pub max_numbers : ℕ
max_numbers = node_width * (max_nodes + 1)

-- the most numbers of a line of old rows, of new rows, or of steps: more than a replace takes
abbrev pub max_listed : ℕ
max_listed = 100

-- the words of lines
unfoldable pub words : List (List ℕ × Word)
words =
    (ascii "term", Term)
    ∷ (ascii "step", Step)
    ∷ (ascii "select", Select)
    ∷ (ascii "document", Document)
    ∷ (ascii "fresh", Fresh)
    ∷ (ascii "old", Old)
    ∷ (ascii "new", New)
    ∷ (ascii "replace", Replace)
    ∷ (ascii "write", Write)
    ∷ (ascii "point", Point)
    ∷ (ascii "return", Return)
    ∷ (ascii "other", Other)
    ∷ (ascii "order", Order)
    ∷ (ascii "bundle-order", BundleOrder)
    ∷ (ascii "names", Names)
    ∷ (ascii "text", Text)
    ∷ (ascii "record", Record)
    ∷ (ascii "current", Current)
    ∷ (ascii "release", Release)
    ∷ (ascii "records", Records)
    ∷ (ascii "released", Released)
    ∷ (ascii "crew-current", CrewCurrent)
    ∷ (ascii "way-back", WayBack)
    ∷ []

-- what may stand after a word: so many numbers of 16 bits, a list of up to so many, the numbers of a select, the length
-- of a buffer, or any bytes
pub data Shape : Type 0 where
  Counted : ℕ → Shape
  Listed : ℕ → Shape
  Selection : Shape
  Room : Shape
  Rest : Shape

-- what stands after a word
unfoldable pub shape_of : Word → Shape
shape_of Term = Counted row_width
shape_of Step = Counted step_width
shape_of Select = Selection
shape_of Document = Listed max_numbers
shape_of Fresh = Counted 0
shape_of Old = Listed max_listed
shape_of New = Listed max_listed
shape_of Replace = Listed max_listed
shape_of Write = Room
shape_of Point = Counted 1
shape_of Return = Counted 1
shape_of Other = Counted 0
shape_of Order = Counted 2
shape_of BundleOrder = Counted 0
shape_of Names = Rest
shape_of Text = Rest
shape_of Record = Counted 4
shape_of Current = Counted 1
shape_of Release = Counted 1
shape_of Records = Counted 0
shape_of Released = Counted 0
shape_of CrewCurrent = Counted 1
shape_of WayBack = Counted 1
