-- What a session shows of its steps and of its points' names.
use Prim.Native.Nat.{ℕ, ◌*◌}
use mathlib.Core.Path.{◌≡◌, refl, ap}
use mathlib.Core.List.{List, [], ◌∷◌, map}
use native.Mathlib.Omega.{arith}
use lib.ListN.{length}
use Rattle.terms.specs.Row.{table_of}
use Rattle.session.specs.declared.session.Session.{Session}
use Rattle.calls.specs.declared.points.PointCounts.{PointCounts}
use Rattle.calls.specs.Book.{max_steps, empty_book}
use Rattle.calls.specs.PointCall.{point_names}
use Rattle.calls.specs.represent.Tables.{step_width, steps_of}
use Rattle.calls.specs.represent.Points.{counts_of, counts_names}
use Rattle.session.specs.View.{steps_held, points_in, point_of, view, fresh_session}
use Rattle.calls.proofs.Tables.{steps_held_lem}

pub steps_viewed : (s : Session) → length s.steps ≡ step_width * max_steps → length (view s).steps ≡ steps_held s
unfolding view
steps_viewed s size = steps_held_lem s.steps (steps_held s) (omega arith) size

names_of : (xs ys : List ℕ) (cs : List PointCounts) → point_names (map (point_of xs ys) cs) ≡ counts_names cs
names_of xs ys [] = refl
names_of xs ys (c ∷ cs) = ap (λ ns. c.name ∷ ns) (names_of xs ys cs)

pub names_viewed : (s : Session) → point_names (view s).points ≡ counts_names (points_in s)
unfolding view
names_viewed s = names_of s.rows s.steps (points_in s)

-- a fresh session holds nothing
pub fresh_view : view fresh_session ≡ empty_book
unfolding view fresh_session table_of steps_of counts_of
fresh_view = refl
