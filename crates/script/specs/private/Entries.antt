-- The code's words.
use Rattle.std.specs.Prelude.{ℕ, List, []}
use Rattle.lines.specs.Ascii.{ascii}
use Rattle.script.specs.declared.words.Word.{Word}
use Rattle.script.specs.declared.words.Word.TheVariants.{Term, Step, Select, Document, Fresh, Old, New, Replace}
use Rattle.script.specs.declared.words.Word.TheVariants.{Write, Point, Return, Other, Order, BundleOrder, Names}
use Rattle.script.specs.declared.words.Word.TheVariants.{Text, Record, Current, Release, Records, Released}
use Rattle.script.specs.declared.words.Word.TheVariants.{CrewCurrent, WayBack}

-- the bytes of a word
unfoldable pub text_of : Word → List ℕ
text_of Term = ascii "term"
text_of Step = ascii "step"
text_of Select = ascii "select"
text_of Document = ascii "document"
text_of Fresh = ascii "fresh"
text_of Old = ascii "old"
text_of New = ascii "new"
text_of Replace = ascii "replace"
text_of Write = ascii "write"
text_of Point = ascii "point"
text_of Return = ascii "return"
text_of Other = ascii "other"
text_of Order = ascii "order"
text_of BundleOrder = ascii "bundle-order"
text_of Names = ascii "names"
text_of Text = ascii "text"
text_of Record = ascii "record"
text_of Current = ascii "current"
text_of Release = ascii "release"
text_of Records = ascii "records"
text_of Released = ascii "released"
text_of CrewCurrent = ascii "crew-current"
text_of WayBack = ascii "way-back"

-- the entry of a word in the table of words
abbrev pub entry_of : Word → List ℕ × Word
entry_of w = (text_of w, w)

-- an entry past the last one
abbrev pub no_entry : List ℕ × Word
no_entry = ([], Term)
