-- The list of file names that a tally is made of, and its refusal.
use Rattle.std.specs.Prelude.{ℕ, suc, Bool, false, not, ◌||◌, List, leb, length, get_or}
use Rattle.std.proofs.Math.Option.{Option-elim}
use Rattle.common.specs.Bounded.{first_below}
use Rattle.lines.specs.Line.{lines}
use Rattle.calls.specs.Book.{Answer, answer}
use Rattle.common.specs.Refusals.{bad_name}

-- up to 64 names
abbrev pub max_files : ℕ
max_files = 64

-- the line at place k, from 0, is a 65th name or a later one, or its file can't be opened; `opened` says of each place
-- whether its file was
unfoldable pub is_bad_name : (opened : List Bool) → (k : ℕ) → Bool
is_bad_name opened k = leb max_files k || not (get_or opened k false)

-- the first such line, counted from 1
unfoldable pub list_answer : (list : List ℕ) (opened : List Bool) → Answer
list_answer list opened =
    Option-elim (first_below (length (lines list)) (is_bad_name opened)) (answer 0 0) (λ k. answer bad_name (suc k))
