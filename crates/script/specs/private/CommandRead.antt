-- What the functions that read a line promise.
use Rattle.std.specs.Prelude.{ℕ, ◌≤◌, ◌<◌, ◌≡◌, List, [], ◌∷◌, length, take, drop}
use Rattle.std.specs.Prelude.{Option as Optional, Some, None}
use Rattle.std.proofs.Math.Option.{Option, none, some}
use Rattle.terms.specs.Row.{row_numbers}
use Rattle.terms.specs.represent.RowTypes.{row_of}
use Rattle.calls.specs.Book.{step_numbers}
use Rattle.calls.specs.represent.Answers.{step_of}
use Rattle.lines.specs.Line.{lines}
use Rattle.lines.specs.private.NumbersRead.{first_parts}
use Rattle.script.specs.declared.words.Word.{Word}
use Rattle.script.specs.declared.words.Word.TheVariants.{Term, Step, Select, Document, Fresh, Old, New, Replace}
use Rattle.script.specs.declared.words.Word.TheVariants.{Write, Point, Return, Other, Order, BundleOrder, Names, Text}
use Rattle.script.specs.declared.words.Word.TheVariants.{Record, Current, Release, Records, Released, CrewCurrent}
use Rattle.script.specs.declared.words.Word.TheVariants.{WayBack}
use Rattle.script.specs.Words.{Counted, Listed, Rest}
use Rattle.script.specs.Words.{shape_of}
use Rattle.script.specs.declared.Command.{Command as Given}
use Rattle.script.specs.declared.Command.TheVariants as given
use Rattle.script.specs.declared.CallLine.{CallLine}
use Rattle.script.specs.declared.list.NumberList.{NumberList}
use Rattle.script.specs.Command.{Command, command, word_command}

-- the numbers of a list
abbrev pub items : NumberList → List ℕ
items ns = take ns.count ns.numbers

-- the command that the code gives
abbrev pub written_command : Given → Command
written_command (given.Term r) = command Term (row_numbers (row_of r))
written_command (given.Step p) = command Step (step_numbers (step_of p))
written_command (given.Select r x l m) = command Select (r ∷ x ∷ l ∷ m ∷ [])
written_command (given.Document ns) = command Document (items ns)
written_command given.Fresh = command Fresh []
written_command (given.Old ns) = command Old (items ns)
written_command (given.New ns) = command New (items ns)
written_command (given.Replace ns) = command Replace (items ns)
written_command (given.Write n) = command Write (n ∷ [])
written_command (given.Point n) = command Point (n ∷ [])
written_command (given.Return n) = command Return (n ∷ [])
written_command given.Other = command Other []
written_command (given.Order r s) = command Order (r ∷ s ∷ [])
written_command given.BundleOrder = command BundleOrder []
written_command given.Names = command Names []
written_command given.Text = command Text []
written_command (given.Record r) = command Record (r.series ∷ r.edition ∷ r.row ∷ r.step ∷ [])
written_command (given.Current s) = command Current (s ∷ [])
written_command (given.Release p) = command Release (p ∷ [])
written_command given.Records = command Records []
written_command given.Released = command Released []
written_command (given.CrewCurrent s) = command CrewCurrent (s ∷ [])
written_command (given.WayBack r) = command WayBack (r ∷ [])

-- the line that starts at `at` of the text xs, read by its parts, is this call, and where the next line starts
pub record CallMet (read : List (List ℕ) → Option Command) (xs : List ℕ) (at : ℕ) (r : CallLine) : Type 0 where
  pub line : some (written_command r.command) ≡ first_parts read (lines (drop at xs))
  pub rest : lines (drop r.next xs) ≡ drop 1 (lines (drop at xs))
  pub further : at < r.next
  pub inside : r.next ≤ length xs

-- the call of the line that starts at `at`; none where it is no call
abbrev pub CallRead : (read : List (List ℕ) → Option Command) (xs : List ℕ) (at : ℕ) → Optional CallLine → Type 0
CallRead read xs at None = none ≡ first_parts read (lines (drop at xs))
CallRead read xs at (Some r) = CallMet read xs at r

-- what is made of the numbers at `at`, for each word that has numbers of this shape and of which it makes the command
abbrev pub CountedRead : (count : ℕ) (makes : (a b c d e : ℕ) → Given → Type 0) (xs : List ℕ) (at : ℕ)
    → Optional CallLine → Type 0
CountedRead count makes xs at r =
    (word : Word) → shape_of word ≡ Counted count
    → ((a b c d e : ℕ) (k : Given) → makes a b c d e k
    → written_command k ≡ command word (take count (a ∷ b ∷ c ∷ d ∷ e ∷ [])))
    → CallRead (word_command word) xs at r

abbrev pub ListRead : (most : ℕ) (makes : NumberList → Given → Type 0) (xs : List ℕ) (at : ℕ) → Optional CallLine
    → Type 0
ListRead most makes xs at r =
    (word : Word) → shape_of word ≡ Listed most
    → ((ns : NumberList) (k : Given) → makes ns k → written_command k ≡ command word (items ns))
    → CallRead (word_command word) xs at r

-- any bytes are the rest of this command
abbrev pub RestRead : Given → (xs : List ℕ) (at : ℕ) → Optional CallLine → Type 0
RestRead k xs at r =
    (word : Word) → shape_of word ≡ Rest → written_command k ≡ command word [] → CallRead (word_command word) xs at r

-- the command of a word without numbers
abbrev pub AloneRead : Word → Optional Given → Type 0
AloneRead word None = word_command word [] ≡ none
AloneRead word (Some k) = word_command word [] ≡ some (written_command k)
