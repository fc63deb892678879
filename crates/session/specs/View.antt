-- A session as a book.
use Rattle.std.specs.Prelude.{ℕ, ◌+◌, ◌*◌, List, map, length, replicate}
use Rattle.std.proofs.lemmas.List.Edits.{sets}
use Rattle.terms.specs.Row.{Row, max_rows, row_numbers, table_with}
use Rattle.session.specs.declared.session.Session.{Session}
use Rattle.calls.specs.declared.points.PointCounts.{PointCounts}
use Rattle.calls.specs.Book.{Step, max_steps, step_numbers, Point, point, max_points, Book, pointed_book}
use Rattle.calls.specs.PointCall.{place_of}
use Rattle.calls.specs.represent.Tables.{row_width, step_width, rows_counted, steps_counted, first_rows, first_steps}
use Rattle.calls.specs.represent.Points.{point_width, counts, points_counted, counts_names, counts_numbers, point_named}
use Rattle.calls.specs.represent.Points.{first_points, cleared}

-- how many rows, steps and points are held
abbrev pub rows_held : Session → ℕ
rows_held s = rows_counted s.row_count

abbrev pub steps_held : Session → ℕ
steps_held s = steps_counted s.step_count

abbrev pub points_held : Session → ℕ
points_held s = points_counted s.point_count

-- the points held, as counts
abbrev pub points_in : Session → List PointCounts
points_in s = first_points s.point_count s.points

-- a point as the book has it, where its counts are of rows with the numbers xs and steps with the numbers ys
abbrev pub point_of : (xs ys : List ℕ) → PointCounts → Point
point_of xs ys c = point c.name (first_rows c.rows xs) (first_steps c.steps ys)

unfoldable pub view : Session → Book
view s =
    pointed_book (first_rows s.row_count s.rows) (first_steps s.step_count s.steps)
    (map (point_of s.rows s.steps) (points_in s))

-- the numbers of a table without points
abbrev pub no_points : List ℕ
no_points = replicate (point_width * max_points) 0

-- the fresh session: no row, no step and no point
unfoldable pub fresh_session : Session
fresh_session =
    record {
      rows = replicate (row_width * max_rows) 0;
      row_count = 0;
      steps = replicate (step_width * max_steps) 0;
      step_count = 0;
      points = no_points;
      point_count = 0;
    }

-- the session with a row, or a step, after those held
unfoldable pub with_row : Session → Row → Session
with_row s r =
    record {
      rows = sets s.rows (row_width * rows_held s) (row_numbers r);
      row_count = rows_held s + 1;
      steps = s.steps;
      step_count = s.step_count;
      points = s.points;
      point_count = s.point_count;
    }

-- the session with the rows rs, which are those held and new ones after them
unfoldable pub with_rows : Session → List Row → Session
with_rows s rs =
    record {
      rows = table_with s.rows (rows_held s) rs;
      row_count = length rs;
      steps = s.steps;
      step_count = s.step_count;
      points = s.points;
      point_count = s.point_count;
    }

unfoldable pub with_step : Session → Step → Session
with_step s p =
    record {
      rows = s.rows;
      row_count = s.row_count;
      steps = sets s.steps (step_width * steps_held s) (step_numbers p);
      step_count = steps_held s + 1;
      points = s.points;
      point_count = s.point_count;
    }

-- the session with a point after those held: its name, and how many rows and steps are held
unfoldable pub with_point : Session → (name : ℕ) → Session
with_point s n =
    record {
      rows = s.rows;
      row_count = s.row_count;
      steps = s.steps;
      step_count = s.step_count;
      points = sets s.points (point_width * points_held s) (counts_numbers (counts n (rows_held s) (steps_held s)));
      point_count = points_held s + 1;
    }

-- the session at the point of that name: the rows and steps that it counts, and the points up to it; zeros after them
unfoldable pub at_point : Session → (name : ℕ) → Session
at_point s n =
    let place = place_of (counts_names (points_in s)) n in
    let held = point_named (points_in s) n in
    record {
      rows = cleared (row_width * held.rows) s.rows;
      row_count = held.rows;
      steps = cleared (step_width * held.steps) s.steps;
      step_count = held.steps;
      points = cleared (point_width * (place + 1)) s.points;
      point_count = place + 1;
    }
