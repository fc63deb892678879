-- Values of the definitions, by computation.
use Rattle.std.specs.Prelude.{ℕ, refl, List, [], ◌∷◌, replicate}
use Prim.Native.String.{String}
use Rattle.std.proofs.Math.Option.{Option, none, some, Option-elim}
use Rattle.common.specs.values.Expected.{◌is◌, AllRight}
use Rattle.lines.specs.Ascii.{ascii}
use Rattle.lines.specs.Line.{in_first_line, lines, in_first_part, parts, same_bytes}
use Rattle.common.specs.Lists.{all_of}
use Rattle.lines.specs.Number.{is_digit, is_decimal, append_digits, numbers_up_to}
use Rattle.lines.specs.private.NumbersRead.{first_parts}
use Rattle.script.specs.declared.words.Word.TheVariants.{Term, Step, Select, Document, Fresh, Old, New, Replace}
use Rattle.script.specs.declared.words.Word.TheVariants.{Write, Point, Return, Other, Order, BundleOrder, Names, Text}
use Rattle.script.specs.declared.words.Word.TheVariants.{Record, Current, Release, Records, Released, CrewCurrent}
use Rattle.script.specs.declared.words.Word.TheVariants.{WayBack}
use Rattle.script.specs.Command.{Command, command, at_most, named, word_for, command_by, command_of}
use Rattle.script.specs.Words.{words, shape_of}

-- the command of a text's first line
abbrev first : String → Option Command
first text = first_parts command_of (lines (ascii text))

pub commands :
    AllRight
    (first "term 2 3 0 65535\n" is some (command Term (2 ∷ 3 ∷ 0 ∷ 65535 ∷ []))
    ∷ first "step 8 0 1 0 0\n" is some (command Step (8 ∷ 0 ∷ 1 ∷ 0 ∷ 0 ∷ []))
    ∷ first "select 4 0 4294967295 1024\n" is some (command Select (4 ∷ 0 ∷ 4294967295 ∷ 1024 ∷ []))
    ∷ first "document 0 0 7\n" is some (command Document (0 ∷ 0 ∷ 7 ∷ []))
    ∷ first "document\n" is some (command Document [])
    ∷ first "fresh\n" is some (command Fresh [])
    ∷ first "old 3\n" is some (command Old (3 ∷ []))
    ∷ first "old\n" is some (command Old [])
    ∷ first "new 0 65535 0\n" is some (command New (0 ∷ 65535 ∷ 0 ∷ []))
    ∷ first "new\n" is some (command New [])
    ∷ first "replace 1 2\n" is some (command Replace (1 ∷ 2 ∷ []))
    ∷ first "replace\n" is some (command Replace [])
    ∷ first "write 0\n" is some (command Write (0 ∷ []))
    ∷ first "write 65536\n" is some (command Write (65536 ∷ []))
    ∷ first "point 65535\n" is some (command Point (65535 ∷ []))
    ∷ first "return 0\n" is some (command Return (0 ∷ []))
    ∷ first "other\n" is some (command Other [])
    ∷ first "order 0 65535\n" is some (command Order (0 ∷ 65535 ∷ []))
    ∷ first "bundle-order\n" is some (command BundleOrder [])
    -- any bytes after the word, none, and two spaces
    ∷ first "names log mark\n" is some (command Names [])
    ∷ first "names\n" is some (command Names [])
    ∷ first "text //mark[ not(a) ]\n" is some (command Text [])
    ∷ first "text 65536\n" is some (command Text [])
    ∷ first "text  \n" is some (command Text [])
    ∷ first "text\n" is some (command Text [])
    ∷ first "record 65535 1 0 2048\n" is some (command Record (65535 ∷ 1 ∷ 0 ∷ 2048 ∷ []))
    ∷ first "current 65535\n" is some (command Current (65535 ∷ []))
    ∷ first "release 256\n" is some (command Release (256 ∷ []))
    ∷ first "records\n" is some (command Records [])
    ∷ first "released\n" is some (command Released [])
    ∷ first "crew-current 7\n" is some (command CrewCurrent (7 ∷ []))
    ∷ first "way-back 65535\n" is some (command WayBack (65535 ∷ []))
    ∷ [])
unfolding ascii words word_for shape_of command_by named at_most first_parts lines in_first_line parts in_first_part
    same_bytes
    numbers_up_to Option-elim is_decimal all_of is_digit append_digits
commands = refl

pub no_commands :
    AllRight
    -- no line, an empty line, a line without its newline
    (first "" is none
    ∷ first "\n" is none
    ∷ first "fresh" is none
    -- a term of three numbers, of five, with a space at its end, with two spaces, with a leading zero, with 65536
    ∷ first "term 2 3 0\n" is none
    ∷ first "term 2 3 0 2 2\n" is none
    ∷ first "term 2 3 0 2 \n" is none
    ∷ first "term  2 3 0 2\n" is none
    ∷ first "term 2 3 0 02\n" is none
    ∷ first "term 2 3 0 65536\n" is none
    -- another word, the word alone, a space before a word
    ∷ first "Term 2 3 0 2\n" is none
    ∷ first "term\n" is none
    ∷ first " fresh\n" is none
    -- a step of four numbers, of six
    ∷ first "step 8 0 1 0\n" is none
    ∷ first "step 8 0 1 0 0 0\n" is none
    -- a select with row 65536, with context 65536, with limit 4294967296, with marks 1025
    ∷ first "select 65536 0 1 1\n" is none
    ∷ first "select 4 65536 1 1\n" is none
    ∷ first "select 4 0 4294967296 1\n" is none
    ∷ first "select 4 0 1 1025\n" is none
    -- a document with a space at its end, with 65536, another word; fresh with a space at its end, with a number
    ∷ first "document \n" is none
    ∷ first "document 0 0 65536\n" is none
    ∷ first "documents\n" is none
    ∷ first "fresh \n" is none
    ∷ first "fresh 0\n" is none
    -- a list with a space at its end, with 65536, another word
    ∷ first "old \n" is none
    ∷ first "new 65536\n" is none
    ∷ first "replace 1 \n" is none
    ∷ first "olds 1\n" is none
    -- a write with 65537, with no number, with two, with a space at its end
    ∷ first "write 65537\n" is none
    ∷ first "write\n" is none
    ∷ first "write 1 1\n" is none
    ∷ first "write 1 \n" is none
    -- a point without a name, with 65536, with two names; a return without one, with 65536, with a space at its end
    ∷ first "point\n" is none
    ∷ first "point 65536\n" is none
    ∷ first "point 1 2\n" is none
    ∷ first "return\n" is none
    ∷ first "return 65536\n" is none
    ∷ first "return 1 \n" is none
    -- other with a number; an order alone, with one row, with three, with 65536; a bundle order with a number, other
    -- words
    ∷ first "other 0\n" is none
    ∷ first "order\n" is none
    ∷ first "order 1\n" is none
    ∷ first "order 1 1 1\n" is none
    ∷ first "order 65536 0\n" is none
    ∷ first "order 0 65536\n" is none
    ∷ first "bundle-order 0\n" is none
    ∷ first "bundle\n" is none
    ∷ first "bundle order\n" is none
    -- a way back alone, of two rows, of 65536; another word
    ∷ first "way-back\n" is none
    ∷ first "way-back 1 1\n" is none
    ∷ first "way-back 65536\n" is none
    ∷ first "wayback 1\n" is none
    -- other words, and a text without its newline
    ∷ first "name a\n" is none
    ∷ first "texts a\n" is none
    ∷ first "text a" is none
    -- a record of three numbers, of five, alone, with 65536, with a space at its end; current alone, with 65536, with
    -- two numbers, with a space at its end; other words
    ∷ first "record 7 1 0\n" is none
    ∷ first "record 7 1 0 0 0\n" is none
    ∷ first "record\n" is none
    ∷ first "record 65536 1 0 0\n" is none
    ∷ first "record 7 1 0 0 \n" is none
    ∷ first "current\n" is none
    ∷ first "current 65536\n" is none
    ∷ first "current 7 1\n" is none
    ∷ first "current 7 \n" is none
    ∷ first "currents 7\n" is none
    -- a release alone, with two places, with 65536; listings with a number, with a space at their end; a crew's
    -- current edition without a series, with two; another word
    ∷ first "release\n" is none
    ∷ first "release 1 1\n" is none
    ∷ first "release 65536\n" is none
    ∷ first "records 7 1 0 0\n" is none
    ∷ first "records \n" is none
    ∷ first "released 1\n" is none
    ∷ first "crew-current\n" is none
    ∷ first "crew-current 7 7\n" is none
    ∷ first "crew\n" is none
    ∷ [])
unfolding ascii words word_for shape_of command_by named at_most first_parts lines in_first_line parts in_first_part
    same_bytes
    numbers_up_to Option-elim is_decimal all_of is_digit append_digits
no_commands = refl

-- the parts of a list of n zeros
abbrev zeros : String → ℕ → List (List ℕ)
zeros word n = ascii word ∷ replicate n (ascii "0")

-- 1,539 numbers of a document, and 1,540; 100 of the other lists, and 101
pub longest_lists :
    AllRight
    (command_of (zeros "document" 1539) is some (command Document (replicate 1539 0))
    ∷ command_of (zeros "document" 1540) is none
    ∷ command_of (zeros "old" 100) is some (command Old (replicate 100 0))
    ∷ command_of (zeros "old" 101) is none
    ∷ command_of (zeros "new" 100) is some (command New (replicate 100 0))
    ∷ command_of (zeros "new" 101) is none
    ∷ command_of (zeros "replace" 100) is some (command Replace (replicate 100 0))
    ∷ command_of (zeros "replace" 101) is none
    ∷ [])
unfolding ascii words word_for shape_of command_by named at_most same_bytes numbers_up_to Option-elim is_decimal
    is_digit
    append_digits
longest_lists = refl
