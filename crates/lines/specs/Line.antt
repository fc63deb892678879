-- The lines of a text, and the parts of a line between spaces.
use Rattle.std.specs.Prelude.{ℕ, Bool, true, false, cond, ◌&&◌, List, [], ◌∷◌, eqb}
use Rattle.std.proofs.Math.Option.{Option, none}

abbrev pub newline : ℕ
newline = 10

abbrev pub space : ℕ
space = 32

-- the bytes of a line, and whether its newline is there: the last line of a text may lack it
pub record Line : Type 0 where
  pub bytes : List ℕ
  pub ended : Bool

abbrev pub line : List ℕ → Bool → Line
line xs e = record { bytes = xs; ended = e }

-- one byte more at the start of the first line
unfoldable pub in_first_line : ℕ → List Line → List Line
in_first_line x [] = line (x ∷ []) false ∷ []
in_first_line x (l ∷ ls) = line (x ∷ l.bytes) l.ended ∷ ls

-- a text that ends with a newline has no further line
unfoldable pub lines : List ℕ → List Line
lines [] = []
lines (x ∷ xs) = cond (eqb x newline) (line [] true ∷ lines xs) (in_first_line x (lines xs))

-- one byte more at the start of the first part
unfoldable pub in_first_part : ℕ → List (List ℕ) → List (List ℕ)
in_first_part x [] = (x ∷ []) ∷ []
in_first_part x (w ∷ ws) = (x ∷ w) ∷ ws

-- the parts between spaces; a part may be empty
unfoldable pub parts : List ℕ → List (List ℕ)
parts [] = [] ∷ []
parts (x ∷ xs) = cond (eqb x space) ([] ∷ parts xs) (in_first_part x (parts xs))

-- what `read` makes of the parts of a line that has its newline
abbrev pub parts_read : {A : Type 0} → (read : List (List ℕ) → Option A) → Line → Option A
parts_read read l = cond l.ended (read (parts l.bytes)) none

unfoldable pub same_bytes : List ℕ → List ℕ → Bool
same_bytes [] [] = true
same_bytes [] (y ∷ ys) = false
same_bytes (x ∷ xs) [] = false
same_bytes (x ∷ xs) (y ∷ ys) = eqb x y && same_bytes xs ys

-- the line is the bytes ys and a newline
unfoldable pub is_line : List ℕ → Line → Bool
is_line ys l = l.ended && same_bytes l.bytes ys

-- the first line is
unfoldable pub first_is : List ℕ → List Line → Bool
first_is ys [] = false
first_is ys (l ∷ ls) = is_line ys l
