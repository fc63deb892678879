-- Rows `kind a b c`, and tables of them.
use Rattle.std.specs.Prelude.{ℕ, ◌+◌, ◌*◌, Bool, cond, ◌&&◌, List, [], ◌∷◌, ◌++◌, eqb, get_or, drop}
use Rattle.std.proofs.lemmas.List.Edits.{sets}
use Rattle.common.specs.Lists.{joined as numbers_of}
use Rattle.common.specs.RowKinds.{void_row}

pub record Row : Type 0 where
  pub kind : ℕ
  pub a : ℕ
  pub b : ℕ
  pub c : ℕ

abbrev pub row : ℕ → ℕ → ℕ → ℕ → Row
row k x y z = record { kind = k; a = x; b = y; c = z }

-- what stands past the end of a table
abbrev pub no_row : Row
no_row = row void_row 0 0 0

abbrev pub row_at : List Row → ℕ → Row
row_at rs i = get_or rs i no_row

-- how many numbers a row has, and its numbers, in order
abbrev pub row_width : ℕ
row_width = 4

abbrev pub row_numbers : Row → List ℕ
row_numbers r = r.kind ∷ r.a ∷ r.b ∷ r.c ∷ []

-- the row of four numbers
abbrev pub row_of_numbers : List ℕ → Row
row_of_numbers ns = row (get_or ns 0 0) (get_or ns 1 0) (get_or ns 2 0) (get_or ns 3 0)

-- the table of lent 16-bit numbers, four a row, without an incomplete last row
unfoldable pub table_of : List ℕ → List Row
table_of [] = []
table_of (k ∷ []) = []
table_of (k ∷ x ∷ []) = []
table_of (k ∷ x ∷ y ∷ []) = []
table_of (k ∷ x ∷ y ∷ z ∷ xs) = row k x y z ∷ table_of xs

-- the numbers of rows, in order
abbrev pub rows_numbers : List Row → List ℕ
rows_numbers rs = numbers_of row_numbers rs

-- the table xs, of which the first n rows are held, with those of the rows rs that come after them
unfoldable pub table_with : List ℕ → ℕ → List Row → List ℕ
table_with xs n rs = sets xs (row_width * n) (rows_numbers (drop n rs))

-- the most rows that calls put into a table
abbrev pub max_rows : ℕ
max_rows = 1024

-- a list made row by row, each entry from those before it and its row
unfoldable pub entries_from : {X : Type 0} → (List X → Row → X) → List X → List Row → List X
entries_from f t [] = t
entries_from f t (r ∷ rs) = entries_from f (t ++ (f t r ∷ [])) rs

unfoldable pub same_row : Row → Row → Bool
same_row r s = eqb r.kind s.kind && eqb r.a s.a && eqb r.b s.b && eqb r.c s.c

-- the number of the first row that is r; where there is none, how many rows there are
unfoldable pub find : List Row → Row → ℕ
find [] r = 0
find (s ∷ rs) r = cond (same_row s r) 0 (find rs r + 1)
