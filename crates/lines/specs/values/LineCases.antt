-- Values of the definitions, by computation.
use Rattle.std.specs.Prelude.{ℕ, refl, true, false, List, [], ◌∷◌}
use Prim.Native.String.{String}
use Rattle.std.proofs.Math.Option.{Option, none, some, Option-elim}
use Rattle.common.specs.values.Expected.{◌is◌, AllRight}
use Rattle.common.specs.Lists.{all_of}
use Rattle.lines.specs.Ascii.{ascii}
use Rattle.lines.specs.Line.{Line, line, in_first_line, lines, in_first_part, parts, same_bytes, is_line, first_is}
use Rattle.lines.specs.Number.{max_number, is_digit, is_decimal, append_digits}
use Rattle.lines.specs.Number.{number_up_to, numbers_up_to, numbers_of}
use Rattle.lines.specs.private.NumbersRead.{cut, number_before, number_cut, starts_with}
use Rattle.lines.specs.Written.{digits_of, decimal, line_text}

abbrev lines_of : String → List Line
lines_of text = lines (ascii text)

abbrev parts_of : String → List (List ℕ)
parts_of text = parts (ascii text)

pub texts :
    AllRight
    -- no text, an empty line, two lines, a line without its newline
    (lines_of "" is []
    ∷ lines_of "\n" is (line [] true ∷ [])
    ∷ lines_of "7\n8\n" is (line (ascii "7") true ∷ line (ascii "8") true ∷ [])
    ∷ lines_of "7\n8" is (line (ascii "7") true ∷ line (ascii "8") false ∷ [])
    ∷ [])
unfolding ascii lines in_first_line
texts = refl

pub between_spaces :
    AllRight
    -- one part, two, an empty one between two spaces, one after the last space, one before the first
    (parts_of "7" is (ascii "7" ∷ [])
    ∷ parts_of "7 8" is (ascii "7" ∷ ascii "8" ∷ [])
    ∷ parts_of "7  8" is (ascii "7" ∷ [] ∷ ascii "8" ∷ [])
    ∷ parts_of "7 " is (ascii "7" ∷ [] ∷ [])
    ∷ parts_of " 7" is ([] ∷ ascii "7" ∷ [])
    ∷ parts_of "" is ([] ∷ [])
    ∷ [])
unfolding ascii parts in_first_part
between_spaces = refl

abbrev number : String → Option ℕ
number text = number_up_to max_number (ascii text)

pub numbers :
    AllRight
    (number "0" is some 0
    ∷ number "7" is some 7
    ∷ number "10" is some 10
    ∷ number "65535" is some 65535
    -- nothing, leading zeros, one too large, five digits too large, six
    ∷ number "" is none
    ∷ number "00" is none
    ∷ number "07" is none
    ∷ number "65536" is none
    ∷ number "99999" is none
    ∷ number "165535" is none
    -- a letter, a letter behind a digit, signs, a space, the bytes before 0 and after 9
    ∷ number "a" is none
    ∷ number "7a" is none
    ∷ number "+7" is none
    ∷ number "-7" is none
    ∷ number " 7" is none
    ∷ number "/" is none
    ∷ number ":" is none
    ∷ [])
unfolding ascii is_decimal all_of is_digit append_digits
numbers = refl

-- the largest of 32 bits and one more; 1024 and 1025; 7, where 6 is the bound
pub bounds :
    AllRight
    (number_up_to 4294967295 (ascii "4294967295") is some 4294967295
    ∷ number_up_to 4294967295 (ascii "4294967296") is none
    ∷ number_up_to 1024 (ascii "1024") is some 1024
    ∷ number_up_to 1024 (ascii "1025") is none
    ∷ number_up_to 6 (ascii "7") is none
    ∷ [])
unfolding ascii is_decimal all_of is_digit append_digits
bounds = refl

-- "12 34" before a space and before a newline, which isn't there; before the digit 2 and the digit 1
pub cuts :
    AllRight
    (number_cut 65535 32 (ascii "12 34") is some (number_before 12 (ascii "34"))
    ∷ number_cut 65535 10 (ascii "12 34") is none
    ∷ number_cut 65535 50 (ascii "12 34") is some (number_before 1 (ascii " 34"))
    ∷ number_cut 65535 49 (ascii "12 34") is none
    ∷ [])
unfolding ascii number_cut cut Option-elim is_decimal all_of is_digit append_digits
cuts = refl

-- a line with its newline
abbrev four : String → Option (List ℕ)
four text = numbers_of 4 (line (ascii text) true)

pub four_numbers :
    AllRight
    (four "2 1 0 2" is some (2 ∷ 1 ∷ 0 ∷ 2 ∷ [])
    ∷ four "0 0 0 65535" is some (0 ∷ 0 ∷ 0 ∷ 65535 ∷ [])
    ∷ four "65535 10 0 7" is some (65535 ∷ 10 ∷ 0 ∷ 7 ∷ [])
    ∷ numbers_of 5 (line (ascii "8 0 1 0 0") true) is some (8 ∷ 0 ∷ 1 ∷ 0 ∷ 0 ∷ [])
    ∷ numbers_of 1 (line (ascii "8") true) is some (8 ∷ [])
    -- a leading zero, 65536, two spaces, a space at the end or at the start
    ∷ four "2 1 0 02" is none
    ∷ four "2 1 0 65536" is none
    ∷ four "2 1  0 2" is none
    ∷ four "2 1 0 2 " is none
    ∷ four " 2 1 0 2" is none
    -- three numbers, five
    ∷ four "2 1 0" is none
    ∷ four "2 1 0 2 0" is none
    -- a carriage return, a letter, a tab, nothing, spaces
    ∷ four "2 1 0 2\r" is none
    ∷ four "2 1 x 2" is none
    ∷ four "2\t1 0 2" is none
    ∷ four "" is none
    ∷ four "   " is none
    -- a line without its newline; no line has no numbers
    ∷ numbers_of 4 (line (ascii "2 1 0 2") false) is none
    ∷ numbers_of 0 (line [] true) is none
    ∷ [])
unfolding ascii numbers_of numbers_up_to Option-elim parts in_first_part is_decimal all_of is_digit append_digits
four_numbers = refl

-- a text's first line is known: itself, longer, without its newline, another, none
pub known_lines :
    AllRight
    (first_is (ascii "ab") (lines_of "ab\nc") is true
    ∷ first_is (ascii "ab") (lines_of "abc\n") is false
    ∷ first_is (ascii "ab") (lines_of "ab") is false
    ∷ first_is (ascii "ab") (lines_of "Ab\n") is false
    ∷ first_is (ascii "ab") (lines_of "") is false
    ∷ starts_with (ascii "ab") (ascii "abc") is true
    ∷ starts_with (ascii "ab") (ascii "a") is false
    ∷ starts_with (ascii "ab") (ascii "bb") is false
    ∷ starts_with [] [] is true
    ∷ [])
unfolding ascii first_is is_line same_bytes starts_with lines in_first_line
known_lines = refl

pub decimals :
    AllRight
    (decimal 0 is ascii "0"
    ∷ decimal 7 is ascii "7"
    ∷ decimal 9 is ascii "9"
    ∷ decimal 10 is ascii "10"
    ∷ decimal 100 is ascii "100"
    ∷ decimal 65535 is ascii "65535"
    ∷ [])
unfolding ascii decimal digits_of
decimals = refl

pub written_lines :
    AllRight
    (line_text (8 ∷ 0 ∷ 1 ∷ 0 ∷ 10 ∷ []) is ascii "8 0 1 0 10\n"
    ∷ line_text (7 ∷ []) is ascii "7\n"
    ∷ line_text [] is ascii "\n"
    ∷ [])
unfolding ascii line_text decimal digits_of
written_lines = refl
