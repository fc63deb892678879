-- What the functions promise that write lent tables number by number.
use Rattle.std.specs.Prelude.{ℕ, zero, suc, ◌+◌, ◌-◌, ◌≡◌, cond, List, [], ◌∷◌, ◌++◌, leb, length}
use Rattle.std.proofs.lemmas.List.Edits.{sets}
use Rattle.lines.specs.Line.{newline, space}
use Rattle.lines.specs.Written.{decimal}
use Rattle.calls.specs.represent.Tables.{row_width, step_width, first_row_numbers, first_step_numbers}
use Rattle.bundles.specs.Bundle.{row_names, step_names}

-- what stands behind a number with `left` more in its line
unfoldable pub byte_after : (left : ℕ) → ℕ
byte_after zero = newline
byte_after (suc left) = space

-- how many are left behind the next number, where a line has `width` numbers
unfoldable pub left_next : (width left : ℕ) → ℕ
left_next width zero = width - 1
left_next width (suc left) = left

-- the numbers of a table from one on with `left` more in its line
unfoldable pub numbers_text : (width left : ℕ) → List ℕ → List ℕ
numbers_text width left [] = []
numbers_text width left (n ∷ ns) = decimal n ++ byte_after left ∷ numbers_text width (left_next width left) ns

-- the lines of a table
abbrev pub lines_text : (width : ℕ) → List ℕ → List ℕ
lines_text width ns = numbers_text width (width - 1) ns

-- their length, whatever the width
unfoldable pub numbers_length : List ℕ → ℕ
numbers_length [] = 0
numbers_length (n ∷ ns) = length (decimal n) + 1 + numbers_length ns

-- the bundle of the numbers of rows and of steps
unfoldable pub tables_text : (xs ys : List ℕ) → List ℕ
tables_text xs ys = row_names ++ newline ∷
    (lines_text row_width xs ++ (step_names ++ newline ∷ lines_text step_width ys))

-- that of the first n rows and the first m steps of two tables
abbrev pub first_tables_text : (n : ℕ) → List ℕ → (m : ℕ) → List ℕ → List ℕ
first_tables_text n xs m ys = tables_text (first_row_numbers n xs) (first_step_numbers m ys)

-- where there is room for all of it, the text is put at `at` into the bytes `buffer`, which become `left`; else they
-- stay; `size` is the length of the text
pub record TextWritten (buffer : List ℕ) (at : ℕ) (text : List ℕ) (size : ℕ) (left : List ℕ) : Type 0 where
  pub length_told : size ≡ length text
  pub bytes : left ≡ cond (leb (at + length text) (length buffer)) (sets buffer at text) buffer
