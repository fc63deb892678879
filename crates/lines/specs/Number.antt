-- Numbers in base ten, and lines of them.
use Rattle.std.specs.Prelude.{ℕ, ◌+◌, ◌-◌, ◌*◌, Bool, false, cond, not, ◌&&◌, List, [], ◌∷◌, leb, eqb, replicate}
use Rattle.std.proofs.Math.Option.{Option, none, some, Option-elim}
pub use Rattle.common.specs.Limits.{max_number}
use Rattle.common.specs.Lists.{all_of}
use Rattle.lines.specs.Line.{Line, parts_read}

abbrev pub digit0 : ℕ
digit0 = 48

abbrev pub digit9 : ℕ
digit9 = 57

unfoldable pub is_digit : ℕ → Bool
is_digit x = leb digit0 x && leb x digit9

abbrev pub are_digits : List ℕ → Bool
are_digits xs = all_of is_digit xs

-- one digit, or several of which the first is not 0
unfoldable pub is_decimal : List ℕ → Bool
is_decimal [] = false
is_decimal (x ∷ []) = is_digit x
is_decimal (x ∷ y ∷ xs) = is_digit x && not (eqb x digit0) && are_digits (y ∷ xs)

-- the number n with one more digit behind it
abbrev pub append_digit : ℕ → ℕ → ℕ
append_digit n x = 10 * n + (x - digit0)

unfoldable pub append_digits : ℕ → List ℕ → ℕ
append_digits n [] = n
append_digits n (x ∷ xs) = append_digits (append_digit n x) xs

-- the number that the bytes write; none where they write no number, or one above `most`
abbrev pub number_up_to : (most : ℕ) → List ℕ → Option ℕ
number_up_to most xs = cond (is_decimal xs && leb (append_digits 0 xs) most) (some (append_digits 0 xs)) none

-- the numbers that the parts write, one for each bound and each at most its bound
unfoldable pub numbers_up_to : (bounds : List ℕ) → List (List ℕ) → Option (List ℕ)
numbers_up_to [] [] = some []
numbers_up_to [] (w ∷ ws) = none
numbers_up_to (b ∷ bs) [] = none
numbers_up_to (b ∷ bs) (w ∷ ws) =
    Option-elim (number_up_to b w) none (λ n. Option-elim (numbers_up_to bs ws) none (λ ns. some (n ∷ ns)))

-- the numbers that the parts write, `count` of them, each at most max_number
abbrev pub line_numbers : (count : ℕ) → List (List ℕ) → Option (List ℕ)
line_numbers count ws = numbers_up_to (replicate count max_number) ws

-- the numbers of a line that has `count` numbers, with one space between two, and its newline; none of any other line
unfoldable pub numbers_of : (count : ℕ) → Line → Option (List ℕ)
numbers_of count l = parts_read (line_numbers count) l
