-- How many rows and steps a session's point holds.
use Prim.Native.Nat.{ℕ}
use mathlib.Core.Path.{◌≡◌, refl, sym, ap, ◌∙◌}
use mathlib.Core.List.{map}
use lib.ListN.{length, get_or, get_or-map}
use Rattle.terms.specs.Row.{table_of}
use Rattle.session.specs.declared.session.Session.{Session}
use Rattle.calls.specs.declared.points.PointCounts.{PointCounts}
use Rattle.calls.specs.Book.{Point, no_point}
use Rattle.calls.specs.PointCall.{point_names, place_of}
use Rattle.calls.specs.represent.Tables.{steps_of, first_rows, first_steps}
use Rattle.calls.specs.represent.Points.{no_counts, counts_names, point_named}
use Rattle.session.specs.View.{points_in, point_of, view}
use Rattle.session.proofs.Views.{names_viewed}

module _ (s : Session) (name : ℕ) where
  abbrev there : Point
  there = get_or (view s).points (place_of (point_names (view s).points) name) no_point

  no_point_lem : point_of s.rows s.steps no_counts ≡ no_point
  unfolding table_of steps_of
  no_point_lem = refl

  point_viewed : there ≡ point_of s.rows s.steps (point_named (points_in s) name)
  unfolding view
  point_viewed =
      let f = point_of s.rows s.steps in
      ap (λ ns. get_or (map f (points_in s)) (place_of ns name) no_point) (names_viewed s)
      ∙ ap (get_or (map f (points_in s)) (place_of (counts_names (points_in s)) name)) (sym no_point_lem)
      ∙ get_or-map f (points_in s) (place_of (counts_names (points_in s)) name) no_counts

  module _ (c : PointCounts) (is_c : c ≡ point_named (points_in s) name) where
    pub rows_there : length (first_rows c.rows s.rows) ≡ length there.rows
    rows_there = sym (ap (λ p. length p.rows) (point_viewed ∙ ap (point_of s.rows s.steps) (sym is_c)))

    pub steps_there : length (first_steps c.steps s.steps) ≡ length there.steps
    steps_there = sym (ap (λ p. length p.steps) (point_viewed ∙ ap (point_of s.rows s.steps) (sym is_c)))
