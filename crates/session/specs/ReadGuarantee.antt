-- What is guaranteed of the calls read and write; the calls that read makes follow the book.
use Rattle.calls.specs.represent.Answers.{NumberOrRefusal, answer_of}
use Rattle.std.specs.Prelude.{ℕ, ◌≤◌, ◌≡◌, true, List, ◌∷◌, ◌++◌, map, length, take}
use Rattle.std.proofs.Math.Option.{some}
use Rattle.terms.specs.Row.{Row}
use Rattle.common.specs.Limits.{max_bytes}
use Rattle.common.specs.Lists.{Every}
use Rattle.lines.specs.Line.{Line, line, lines}
use Rattle.lines.specs.Written.{AllFit}
use Rattle.session.specs.declared.session.Session.{Session}
use Rattle.session.specs.represent.Results.{ReadResult}
use Rattle.calls.specs.Book.{Step, answer, IsAccepted}
use Rattle.calls.specs.Calls.{Call, term, step, text, point, return, CallSeen, AllAccepted}
use Rattle.calls.specs.Runs.{Run}
use Rattle.session.specs.View.{view, fresh_session}
use Rattle.terms.specs.Row.{row_numbers}
use Rattle.calls.specs.Book.{step_numbers}
use Rattle.session.specs.Promises.{CallRelation, SelectRelation}
use Rattle.bundles.specs.Bundle.{row_names, step_names, row_of_line, step_of_line, bundle_text}
use Rattle.session.specs.ReadCall.{read_answer_of}
use Rattle.session.specs.WriteCall.{WriteRelation}
use Rattle.session.specs.FollowsBook.{FollowsBook}
use Rattle.session.specs.SessionLaws.{without_points}

-- a term call for each row, and then a step call for each step
abbrev pub calls_of : List Row → List Step → List Call
calls_of rs ps = map term rs ++ map step ps

-- the lines are the first names line, a term line for each row, the second names line, and a step line for each step
pub record IsBundle (ls : List Line) (rs : List Row) (ps : List Step) : Type 0 where
  pub row_lines : List Line
  pub step_lines : List Line
  pub text : ls ≡ line row_names true ∷ (row_lines ++ line step_names true ∷ step_lines)
  pub are_rows : map row_of_line row_lines ≡ map some rs
  pub are_steps : map step_of_line step_lines ≡ map some ps

-- rows and steps whose numbers have 16 bits
abbrev pub RowFits : Row → Type 0
RowFits r = AllFit (row_numbers r)

abbrev pub StepFits : Step → Type 0
StepFits p = AllFit (step_numbers p)

-- a call whose row or step has such numbers; those of a text's rows have them
abbrev pub CallFits : Call → Type 0
CallFits (term r) = RowFits r
CallFits (step p) = StepFits p
CallFits (text names t) = Unit {0}
CallFits (point n) = Unit {0}
CallFits (return n) = Unit {0}

-- `Selected` and `Called` as in FollowsBook
module _ (Selected : SelectRelation) (Called : CallRelation) where
  -- an accepted reading of the bytes with the result t: the calls of the lines were made from a fresh session, all were
  -- accepted, they left the session of the result, the value is the number of steps, and the calls follow the book
  pub record ReadAccepted (bytes : List ℕ) (t : ReadResult) : Type 0 where
    pub rows : List Row
    pub steps : List Step
    pub bundle : IsBundle (lines bytes) rows steps
    pub seen : List CallSeen
    pub made : Run view Called fresh_session (calls_of rows steps) seen t.session
    pub all_accepted : AllAccepted seen
    pub count : read_answer_of t.answer ≡ answer 0 (length steps)
    pub follows : FollowsBook Selected (calls_of rows steps) seen t.session

  -- `Read bytes t`: `Session::read` on the bytes has the result t; `Write s buffer w left`: `Session::write` on the
  -- session s answers w and leaves the bytes `left` of the buffer
  pub record ReadGuarantee (Read : List ℕ → ReadResult → Type 0) (Write : WriteRelation) : Type 0 where
    -- read accepts only bundles, makes their calls, and they follow the book
    pub accepted : (bytes : List ℕ) (t : ReadResult) → Read bytes t
        → IsAccepted (read_answer_of t.answer) → ReadAccepted bytes t
    -- a refused reading leaves a fresh session
    pub refused : (bytes : List ℕ) (t : ReadResult) → Read bytes t
        → ¬ IsAccepted (read_answer_of t.answer) → t.session ≡ fresh_session
    -- reading the text of calls that are all accepted is making them: 0 with the number of steps, and the session that
    -- they leave
    pub reads_back : (rs : List Row) (ps : List Step) (os : List CallSeen) (s : Session)
        → Every RowFits rs → Every StepFits ps
        → Run view Called fresh_session (calls_of rs ps) os s → AllAccepted os
        → (t : ReadResult) → Read (bundle_text rs ps) t
        → (read_answer_of t.answer ≡ answer 0 (length ps)) × (t.session ≡ s)
    -- reading what was written of a session that calls lead to, returns among them, gives 0, the number of steps, and
    -- that very session but for its points
    pub written_reads_back : (cs : List Call) (os : List CallSeen) (s : Session)
        → Run view Called fresh_session cs os s → Every CallFits cs
        → (buffer left : List ℕ) (w : NumberOrRefusal) → Write s buffer w left → IsAccepted (answer_of w)
        → (t : ReadResult) → Read (take (answer_of w).value left) t
        → (read_answer_of t.answer ≡ answer 0 (length (view s).steps)) × (t.session ≡ without_points s)
    -- what read accepted and is written again is the same bytes
    pub same_bytes : (bytes : List ℕ) (t : ReadResult) → Read bytes t → IsAccepted (read_answer_of t.answer)
        → (buffer left : List ℕ) (w : NumberOrRefusal) → Write t.session buffer w left → IsAccepted (answer_of w)
        → take (answer_of w).value left ≡ bytes
    -- a buffer as long as the longest text that audit takes has room for every session that calls lead to
    pub always_room : (cs : List Call) (os : List CallSeen) (s : Session)
        → Run view Called fresh_session cs os s → Every CallFits cs
        → (buffer left : List ℕ) (w : NumberOrRefusal) → Write s buffer w left → max_bytes ≤ length buffer
        → IsAccepted (answer_of w)
