-- The line that ends the run of a script.
use Rattle.std.specs.Prelude.{ℕ, ◌+◌, Bool, true, false, cond, List, [], ◌∷◌}
use Rattle.std.proofs.Math.Option.{Option, none, some}
use Rattle.lines.specs.Line.{Line, parts_read}
use Rattle.script.specs.declared.words.Word.{Word}
use Rattle.script.specs.declared.words.Word.TheVariants.{Term, Step, Select, Document, Fresh, Old, New, Replace, Write}
use Rattle.script.specs.declared.words.Word.TheVariants.{Point, Return, Other, Order, BundleOrder, Names, Text}
use Rattle.script.specs.declared.words.Word.TheVariants.{Record, Current, Release, Records, Released, CrewCurrent}
use Rattle.script.specs.declared.words.Word.TheVariants.{WayBack}
use Rattle.script.specs.Command.{Command, command_of}
use Rattle.script_replay.specs.declared.Style.{Style}
use Rattle.script_replay.specs.declared.Style.TheVariants.{Answers, Nodes}

-- where answers are printed, a script has a register and another one; where nodes are, no bundle,
-- no order and no listing is printed
abbrev pub prints_answers : Style → Bool
prints_answers Answers = true
prints_answers Nodes = false

abbrev pub prints_nodes : Style → Bool
prints_nodes Answers = false
prints_nodes Nodes = true

abbrev pub word_taken : Style → Word → Bool
word_taken s Term = true
word_taken s Step = true
word_taken s Select = true
word_taken s Document = true
word_taken s Old = true
word_taken s New = true
word_taken s Replace = true
word_taken s Point = true
word_taken s Return = true
word_taken s Fresh = prints_nodes s
word_taken s Write = prints_answers s
word_taken s Other = prints_answers s
word_taken s Order = prints_answers s
word_taken s BundleOrder = prints_answers s
word_taken s Names = true
word_taken s Text = true
word_taken s Record = true
word_taken s Current = true
word_taken s Release = true
word_taken s Records = prints_answers s
word_taken s Released = prints_answers s
word_taken s CrewCurrent = true
word_taken s WayBack = true

-- a line that is no command is never taken
abbrev pub is_taken : Style → Option Command → Bool
is_taken s none = false
is_taken s (some c) = word_taken s c.word

-- the number of the first line that is not taken, where the lines count from n; 0 if there is none
unfoldable pub ending_line : Style → (n : ℕ) → List Line → ℕ
ending_line s n [] = 0
ending_line s n (l ∷ ls) = cond (is_taken s (parts_read command_of l)) (ending_line s (n + 1) ls) n
