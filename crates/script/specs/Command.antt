-- The command that a line of a script is: a word, and numbers.
use Rattle.std.specs.Prelude.{ℕ, cond, List, [], ◌∷◌, leb, length}
use Rattle.std.proofs.Math.Option.{Option, none, some, Option-elim}
use Rattle.common.specs.Limits.{max_bytes}
use Rattle.lines.specs.Line.{same_bytes}
use Rattle.lines.specs.Number.{max_number, numbers_up_to, line_numbers}
use Rattle.script.specs.Words.{words, shape_of}
use Rattle.script.specs.declared.words.Word.{Word}
use Rattle.script.specs.Words.{Shape}
use Rattle.script.specs.Words.{Counted, Listed, Selection, Room, Rest}

pub record Command : Type 0 where
  pub word : Word
  pub numbers : List ℕ

abbrev pub command : Word → List ℕ → Command
command w ns = record { word = w; numbers = ns }

-- the largest limit of visits, and the longest marks buffer
abbrev pub max_limit : ℕ
max_limit = 4294967295

abbrev pub max_marks : ℕ
max_marks = 1024

-- the longest buffer of a write
abbrev pub max_room : ℕ
max_room = max_bytes

-- as many numbers as there are parts
abbrev pub all_numbers : List (List ℕ) → Option (List ℕ)
all_numbers ws = line_numbers (length ws) ws

-- the numbers, where there are not more than `most`
unfoldable pub at_most : (most : ℕ) → Option (List ℕ) → Option (List ℕ)
at_most most o = Option-elim o none (λ ns. cond (leb (length ns) most) (some ns) none)

-- row, context, limit, marks
abbrev pub select_bounds : List ℕ
select_bounds = max_number ∷ max_number ∷ max_limit ∷ max_marks ∷ []

-- the numbers that the parts after a word write; bytes of any form are no numbers
abbrev pub numbers_in : Shape → List (List ℕ) → Option (List ℕ)
numbers_in (Counted n) ws = line_numbers n ws
numbers_in (Listed most) ws = at_most most (all_numbers ws)
numbers_in Selection ws = numbers_up_to select_bounds ws
numbers_in Room ws = numbers_up_to (max_room ∷ []) ws
numbers_in Rest ws = some []

unfoldable pub named : Word → Option (List ℕ) → Option Command
named w o = Option-elim o none (λ ns. some (command w ns))

abbrev pub word_command : Word → List (List ℕ) → Option Command
word_command word ws = named word (numbers_in (shape_of word) ws)

-- the first word of a table that has these bytes
unfoldable pub word_for : List (List ℕ × Word) → List ℕ → Option Word
word_for [] xs = none
word_for (e ∷ es) xs = cond (same_bytes xs e.0) (some e.1) (word_for es xs)

-- the command of a line's parts, by a table: the first part is its word, the others are its numbers
unfoldable pub command_by : List (List ℕ × Word) → List (List ℕ) → Option Command
command_by es [] = none
command_by es (w ∷ ws) = Option-elim (word_for es w) none (λ word. word_command word ws)

abbrev pub command_of : List (List ℕ) → Option Command
command_of ws = command_by words ws
