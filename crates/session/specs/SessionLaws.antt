-- The session that a book determines, and what a return restores.
use Rattle.std.specs.Prelude.{ℕ, ◌-◌, ◌*◌, ◌≡◌, List, [], ◌∷◌, ◌++◌, length, replicate}
use Rattle.common.specs.Lists.{Every, joined}
use Rattle.terms.specs.Row.{max_rows}
use Rattle.session.specs.declared.session.Session.{Session}
use Rattle.calls.specs.Book.{max_steps, Point, max_points, Book, Answer, answer, IsAccepted}
use Rattle.calls.specs.PointCall.{point_names}
use Rattle.calls.specs.Runs.{Run}
use Rattle.calls.specs.Calls.{Call, term, step, text, point, return, CallSeen, book_after}
use Rattle.calls.specs.PointLaws.{KeepsPoints}
use Rattle.calls.specs.represent.Tables.{row_width, step_width}
use Rattle.calls.specs.represent.Points.{point_width}
use Rattle.session.specs.View.{view, no_points}
use Rattle.terms.specs.Row.{row_numbers}
use Rattle.calls.specs.Book.{step_numbers}
use Rattle.session.specs.Promises.{CallRelation}

-- a table of that size with these numbers: zeros after them
abbrev pub filled : (size : ℕ) → List ℕ → List ℕ
filled size xs = xs ++ replicate (size - length xs) 0

-- the numbers of a point: its name, and how many rows and steps were held
abbrev pub point_numbers : Point → List ℕ
point_numbers p = p.name ∷ length p.rows ∷ length p.steps ∷ []

-- the session that holds what the book does, and has zeros everywhere else
unfoldable pub session_of : Book → Session
session_of b =
    record {
      rows = filled (row_width * max_rows) (joined row_numbers b.rows);
      row_count = length b.rows;
      steps = filled (step_width * max_steps) (joined step_numbers b.steps);
      step_count = length b.steps;
      points = filled (point_width * max_points) (joined point_numbers b.points);
      point_count = length b.points;
    }

-- the session but for its points
abbrev pub without_points : Session → Session
without_points s =
    record {
      rows = s.rows;
      row_count = s.row_count;
      steps = s.steps;
      step_count = s.step_count;
      points = no_points;
      point_count = 0;
    }

-- the call sets no point
abbrev pub SetsNoPoint : Call → Type 0
SetsNoPoint (term r) = Unit {0}
SetsNoPoint (step p) = Unit {0}
SetsNoPoint (text names t) = Unit {0}
SetsNoPoint (point n) = ⊥
SetsNoPoint (return n) = Unit {0}

-- `New` and `Called` as in FollowsBook
module _ (New : Session → Type 0) (Called : CallRelation) where
  -- every list of calls from a fresh session leaves, as a whole value, the session that the book after them determines
  abbrev pub WholeSession : Type 0
  WholeSession = (s₀ s : Session) (cs : List Call) (os : List CallSeen)
      → New s₀ → Run view Called s₀ cs os s → s ≡ session_of (book_after cs)

  -- calls that set no point leave a session without points
  abbrev pub NoPointLeft : Type 0
  NoPointLeft = (s₀ s : Session) (cs : List Call) (os : List CallSeen)
      → New s₀ → Run view Called s₀ cs os s → Every SetsNoPoint cs → without_points s ≡ s

  -- on a session s that calls lead to a point is set, calls are made of which none returns to an earlier point, and
  -- then one returns to it: it is accepted, and leaves the whole session as it was when the point was set, which is s
  -- but for the points
  abbrev pub SessionRestored : Type 0
  SessionRestored = (s₀ s t u v : Session) (cs ds : List Call) (os ps : List CallSeen) (n : ℕ) (a b : Answer)
      → New s₀ → Run view Called s₀ cs os s
      → Called s (point n) a t → IsAccepted a
      → Run view Called t ds ps u → Every (KeepsPoints (point_names (view s).points)) ds
      → Called u (return n) b v
      → (b ≡ answer 0 0) × (v ≡ t) × (without_points v ≡ without_points s)
