-- The text of numbers.
use Rattle.std.specs.Prelude.{ℕ, zero, suc, ◌+◌, ◌/◌, ◌%◌, ◌≤◌, cond, List, [], ◌∷◌, ◌++◌, ltb}
use Rattle.lines.specs.Line.{newline, space}
use Rattle.lines.specs.Number.{digit0, max_number}

-- the digits of n in base ten, of a number that has at most `most` of them
unfoldable pub digits_of : (most : ℕ) → ℕ → List ℕ
digits_of zero n = []
digits_of (suc k) n = cond (ltb n 10) ((digit0 + n) ∷ []) (digits_of k (n / 10) ++ ((digit0 + n % 10) ∷ []))

-- n has at most n digits, or one
unfoldable pub decimal : ℕ → List ℕ
decimal n = digits_of (suc n) n

-- numbers that a line may have
abbrev pub AllFit : List ℕ → Type 0
AllFit [] = Unit {0}
AllFit (n ∷ ns) = (n ≤ max_number) × AllFit ns

-- the line of numbers
unfoldable pub line_text : List ℕ → List ℕ
line_text [] = newline ∷ []
line_text (n ∷ []) = decimal n ++ newline ∷ []
line_text (n ∷ m ∷ ns) = decimal n ++ space ∷ line_text (m ∷ ns)
