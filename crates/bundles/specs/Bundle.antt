-- The text of a bundle: its names lines, its term lines and its step lines.
use Rattle.std.specs.Prelude.{ℕ, List, [], ◌∷◌, ◌++◌}
use Rattle.std.proofs.Math.Option.{Option, map}
use Rattle.terms.specs.Row.{Row, row_numbers, row_of_numbers}
use Rattle.lines.specs.Ascii.{ascii}
use Rattle.lines.specs.Line.{newline, Line}
use Rattle.lines.specs.Number.{numbers_of}
use Rattle.lines.specs.Written.{line_text}
use Rattle.calls.specs.Book.{Step, step_numbers, step_of_numbers}
use Rattle.calls.specs.represent.Tables.{row_width, step_width}

-- the names lines: the first stands before the term lines, the second before the step lines
unfoldable pub row_names : List ℕ
row_names = ascii "kind a b c"

unfoldable pub step_names : List ℕ
step_names = ascii "rule left right first second"

-- the row of a term line, and the step of a step line; none where the line is of another form
unfoldable pub row_of_line : Line → Option Row
row_of_line l = map row_of_numbers (numbers_of row_width l)

unfoldable pub step_of_line : Line → Option Step
step_of_line l = map step_of_numbers (numbers_of step_width l)

-- the line of a row, and of a step
abbrev pub row_text : Row → List ℕ
row_text r = line_text (row_numbers r)

abbrev pub step_text : Step → List ℕ
step_text p = line_text (step_numbers p)

unfoldable pub rows_text : List Row → List ℕ
rows_text [] = []
rows_text (r ∷ rs) = row_text r ++ rows_text rs

unfoldable pub steps_text : List Step → List ℕ
steps_text [] = []
steps_text (p ∷ ps) = step_text p ++ steps_text ps

-- the bundle of rows and steps
unfoldable pub bundle_text : List Row → List Step → List ℕ
bundle_text rs ps = row_names ++ newline ∷ (rows_text rs ++ (step_names ++ newline ∷ steps_text ps))
