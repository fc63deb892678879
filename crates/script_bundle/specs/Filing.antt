-- A script's lines, filed: their calls made in order from a fresh session, and the bundle of what these leave.
use Rattle.std.specs.Prelude.{ℕ, ◌+◌, ◌≡◌, cond, List, [], ◌∷◌, ◌++◌, eqb, leb, length, get_or}
use Rattle.std.proofs.Math.Option.{Option, none, some, Option-elim}
use Rattle.common.specs.Limits.{max_bytes}
use Rattle.terms.specs.Row.{row_of_numbers}
use Rattle.lines.specs.Line.{Line, lines, parts_read}
use Rattle.selector_grammar.specs.Bytes.{Bytes}
use Rattle.calls.specs.Book.{Answer, answer, accepted, step_of_numbers}
use Rattle.common.specs.Refusals.{wrong_form}
use Rattle.calls.specs.Runs.{next}
use Rattle.calls.specs.Calls.{Call, term, step, text, point, return}
use Rattle.session.specs.declared.session.Session.{Session}
use Rattle.session.specs.View.{fresh_session}
use Rattle.session.specs.Promises.{session_answer, session}
use Rattle.session.specs.Reading.{Reading, refused_at}
use Rattle.session.specs.WriteCall.{session_text, write_answer, write_buffer}
use Rattle.script.specs.declared.words.Word.{Word}
use Rattle.script.specs.declared.words.Word.TheVariants.{Term, Step, Select, Document, Fresh, Old, New, Replace}
use Rattle.script.specs.declared.words.Word.TheVariants.{Write, Point, Return, Other, Order, BundleOrder, Names, Text}
use Rattle.script.specs.declared.words.Word.TheVariants.{Record, Current, Release, Records, Released, CrewCurrent}
use Rattle.script.specs.declared.words.Word.TheVariants.{WayBack}
use Rattle.script.specs.Command.{command_of}
use Rattle.script.specs.Rest.{rest_of, names_of}

-- what a line that is taken does: it lends a list of names to the texts after it, or makes a call
pub data Action : Type 0 where
  lends : (names : Bytes) → Action
  makes : Call → Action

-- a list is lent where it has no more bytes than a program takes
unfoldable pub lending : Bytes → Option Action
lending names = cond (leb (length names) max_bytes) (some (lends names)) none

-- what a word, its numbers and the rest of its line do, with the names lent before it; nothing with the other words
abbrev pub action_of : Word → (numbers : List ℕ) (names rest : Bytes) → Option Action
action_of Term ns names rest = some (makes (term (row_of_numbers ns)))
action_of Step ns names rest = some (makes (step (step_of_numbers ns)))
action_of Select ns names rest = none
action_of Document ns names rest = none
action_of Fresh ns names rest = none
action_of Old ns names rest = none
action_of New ns names rest = none
action_of Replace ns names rest = none
action_of Write ns names rest = none
action_of Point ns names rest = some (makes (point (get_or ns 0 0)))
action_of Return ns names rest = some (makes (return (get_or ns 0 0)))
action_of Other ns names rest = none
action_of Order ns names rest = none
action_of BundleOrder ns names rest = none
action_of Names ns names rest = lending (names_of rest)
action_of Text ns names rest = some (makes (text names rest))
action_of Record ns names rest = none
action_of Current ns names rest = none
action_of Release ns names rest = none
action_of Records ns names rest = none
action_of Released ns names rest = none
action_of CrewCurrent ns names rest = none
action_of WayBack ns names rest = none

-- what a line does
unfoldable pub line_action : (names : Bytes) → Line → Option Action
line_action names l =
    Option-elim (parts_read command_of l) none (λ c. action_of c.word c.numbers names (rest_of l.bytes))

-- the number that it is answered on the session s: its call's, 0 for names, 10 where it is not taken
abbrev pub line_number : Session → Option Action → ℕ
line_number s none = wrong_form
line_number s (some (lends names)) = 0
line_number s (some (makes c)) = (session_answer s c).number

-- the session that it leaves
abbrev pub line_session : Session → Option Action → Session
line_session s none = s
line_session s (some (lends names)) = s
line_session s (some (makes c)) = next session s c

-- the names lent after it
abbrev pub line_names : (names : Bytes) → Option Action → Bytes
line_names names none = names
line_names names (some (lends list)) = list
line_names names (some (makes c)) = names

-- the lines from line n on: 0 with the session that they leave, or the number of the first that is refused, with its
-- line
unfoldable pub lines_filed : Session → (names : Bytes) (n : ℕ) → List Line → Reading
lines_filed s names n [] = record { answer = answer 0 0; session = s }
lines_filed s names n (l ∷ ls) =
    let o = line_action names l in
    cond (eqb (line_number s o) 0) (lines_filed (line_session s o) (line_names names o) (n + 1) ls)
    (refused_at (line_number s o) n)

-- no names are lent before the first line
unfoldable pub filed : (script : Bytes) → Reading
filed script = lines_filed fresh_session [] 1 (lines script)

-- the refusal of a line; else what write answers of the session left, with a buffer of `room` bytes
unfoldable pub file_answer : (script : Bytes) (room : ℕ) → Answer
file_answer script room =
    let r = filed script in cond (accepted r.answer) (write_answer (session_text r.session) room) r.answer

-- what write leaves in the buffer; where a line is refused, the buffer
unfoldable pub file_buffer : (script buffer : Bytes) → Bytes
file_buffer script buffer =
    let r = filed script in cond (accepted r.answer) (write_buffer (session_text r.session) buffer) buffer

-- what filing the script with a buffer promises
pub record FileMet (script buffer : Bytes) (a : Answer) (left : Bytes) : Type 0 where
  pub answer : a ≡ file_answer script (length buffer)
  pub bytes : left ≡ file_buffer script buffer

-- the calls that the lines make, if all are taken
abbrev pub action_calls : Option Action → List Call
action_calls none = []
action_calls (some (lends names)) = []
action_calls (some (makes c)) = c ∷ []

unfoldable pub calls_from : (names : Bytes) → List Line → List Call
calls_from names [] = []
calls_from names (l ∷ ls) = let o = line_action names l in action_calls o ++ calls_from (line_names names o) ls

abbrev pub calls_in : (script : Bytes) → List Call
calls_in script = calls_from [] (lines script)
