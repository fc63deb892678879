-- Numbers of names by a list.
use Rattle.std.specs.Prelude.{refl, [], ◌∷◌}
use Rattle.common.specs.Lists.{all_of}
use Rattle.common.specs.values.Expected.{◌is◌, AllRight}
use Rattle.lines.specs.Ascii.{ascii}
use Rattle.lines.specs.Line.{lines, in_first_line, same_bytes}
use Rattle.selector_grammar.specs.Bytes.{is_word, is_start, is_name}
use Rattle.selector_grammar.specs.Words.{number_of, numbered, find, next, bytes_of}
use Rattle.xml_numbers.specs.declared.numbering.Lookup.TheVariants.{NoNamespace, LocalPart}
use Rattle.xml_numbers.specs.declared.numbering.Unlisted.TheVariants.{Refused, Spare}
use Rattle.xml_numbers.specs.Numbers.{listed, sought, spare, first_of}

pub names_numbered :
    AllRight
    -- the first line that it is
    (listed (ascii "log\nmark\nlog\n") (ascii "log") is 1
    ∷ listed (ascii "log\nmark\nlog\n") (ascii "mark") is 2
    ∷ listed (ascii "log\nmark\n") (ascii "run") is 0
    -- no name that a selector can have, though a line has it
    ∷ listed (ascii "log\na:b\n") (ascii "a:b") is 0
    ∷ listed (ascii "\nlog\n") (ascii "") is 0
    -- a name in namespace 3
    ∷ sought NoNamespace 2 0 is 2
    ∷ sought NoNamespace 2 3 is 0
    ∷ sought LocalPart 2 3 is 2
    -- the number after the last line
    ∷ spare Spare (ascii "log\nmark\n") is 3
    ∷ spare Spare (ascii "log\nmark") is 3
    ∷ spare Spare (ascii "") is 1
    ∷ spare Refused (ascii "log\nmark\n") is 0
    ∷ first_of 2 3 is 2
    ∷ first_of 0 3 is 3
    ∷ [])
unfolding ascii lines in_first_line same_bytes all_of is_word is_start is_name number_of numbered find next bytes_of
names_numbered = refl
