-- Bytes of a text: whitespace (XPath 1.0, clause 3.7, ExprWhitespace) and names (Specification, Selectors as text).
use Rattle.std.specs.Prelude.{ℕ, Bool, true, false, not, ◌&&◌, ◌||◌, List, [], ◌∷◌, eqb, leb}
use Rattle.common.specs.Lists.{all_of}
use Rattle.lines.specs.Ascii.{ascii}
use Rattle.lines.specs.Line.{newline, space}
use Rattle.lines.specs.Number.{digit0, digit9}

abbrev pub Bytes : Type 0
Bytes = List ℕ

-- the bytes of signs and letters; those of a newline, a space and the digits have their names in crate lines
abbrev pub tab_byte : ℕ
tab_byte = 9

abbrev pub return_byte : ℕ
return_byte = 13

abbrev pub double_quote_byte : ℕ
double_quote_byte = 34

abbrev pub quote_byte : ℕ
quote_byte = 39

abbrev pub open_byte : ℕ
open_byte = 40

abbrev pub close_byte : ℕ
close_byte = 41

abbrev pub star_byte : ℕ
star_byte = 42

abbrev pub hyphen_byte : ℕ
hyphen_byte = 45

abbrev pub dot_byte : ℕ
dot_byte = 46

abbrev pub slash_byte : ℕ
slash_byte = 47

abbrev pub colon_byte : ℕ
colon_byte = 58

abbrev pub at_byte : ℕ
at_byte = 64

abbrev pub open_bracket : ℕ
open_bracket = 91

abbrev pub close_bracket : ℕ
close_bracket = 93

abbrev pub underscore_byte : ℕ
underscore_byte = 95

abbrev pub bar_byte : ℕ
bar_byte = 124

abbrev pub capital_a : ℕ
capital_a = 65

abbrev pub capital_z : ℕ
capital_z = 90

abbrev pub letter_a : ℕ
letter_a = 97

abbrev pub letter_d : ℕ
letter_d = 100

abbrev pub letter_n : ℕ
letter_n = 110

abbrev pub letter_o : ℕ
letter_o = 111

abbrev pub letter_r : ℕ
letter_r = 114

abbrev pub letter_z : ℕ
letter_z = 122

unfoldable pub is_space : ℕ → Bool
is_space b = eqb b space || (eqb b tab_byte || (eqb b newline || eqb b return_byte))

unfoldable pub is_start : ℕ → Bool
is_start b =
    (leb letter_a b && leb b letter_z) || ((leb capital_a b && leb b capital_z) || eqb b underscore_byte)

-- a quote opens and closes a target
unfoldable pub is_quote : ℕ → Bool
is_quote b = eqb b quote_byte || eqb b double_quote_byte

-- a letter, a digit, `_`, `-` or `.`
unfoldable pub is_name : ℕ → Bool
is_name b = is_start b || ((leb digit0 b && leb b digit9) || (eqb b hyphen_byte || eqb b dot_byte))

unfoldable pub is_word : Bytes → Bool
is_word [] = false
is_word (b ∷ t) = is_start b && all_of is_name t

unfoldable pub nonempty : Bytes → Bool
nonempty [] = false
nonempty (b ∷ t) = true

-- the text does not begin with a byte of a name
unfoldable pub apart : Bytes → Bool
apart [] = false
apart (b ∷ t) = not (is_name b)

abbrev pub not_word : Bytes
not_word = ascii "not"

abbrev pub true_word : Bytes
true_word = ascii "true"

abbrev pub false_word : Bytes
false_word = ascii "false"
