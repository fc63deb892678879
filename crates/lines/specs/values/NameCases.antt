-- Names of lists, by computation.
use Rattle.std.specs.Prelude.{refl, [], ◌∷◌}
use Rattle.common.specs.values.Expected.{◌is◌, AllRight}
use Rattle.lines.specs.Ascii.{ascii}
use Rattle.lines.specs.Line.{in_first_line, lines}
use Rattle.lines.specs.Names.{names_of}

names_read :
    AllRight
    -- no name; one, with and without its newline; two, the last one with and without
    (names_of (ascii "") is []
    ∷ names_of (ascii "a\n") is (ascii "a" ∷ [])
    ∷ names_of (ascii "a") is (ascii "a" ∷ [])
    ∷ names_of (ascii "a\nbc\n") is (ascii "a" ∷ ascii "bc" ∷ [])
    ∷ names_of (ascii "a\nbc") is (ascii "a" ∷ ascii "bc" ∷ [])
    -- an empty line is a name, also the first and the last; a name twice is two
    ∷ names_of (ascii "\n") is ([] ∷ [])
    ∷ names_of (ascii "a\n\nb\n\n") is (ascii "a" ∷ [] ∷ ascii "b" ∷ [] ∷ [])
    ∷ names_of (ascii "a\na\n") is (ascii "a" ∷ ascii "a" ∷ [])
    -- spaces and a carriage return belong to the name
    ∷ names_of (ascii " a b \r\nc") is (ascii " a b \r" ∷ ascii "c" ∷ [])
    ∷ [])
unfolding ascii lines in_first_line
names_read = refl
