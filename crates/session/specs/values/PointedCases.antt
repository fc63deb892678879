-- Points of sessions that no calls lead to, and the calls that set none, by computation.
use Rattle.std.specs.Prelude.{ℕ, refl, List, [], ◌∷◌, take, replicate}
use Rattle.common.specs.Lists.{Every}
use Rattle.common.specs.values.Expected.{◌is◌, AllRight}
use Rattle.terms.specs.Row.{row, table_of}
use Rattle.calls.specs.Book as books
use Rattle.calls.specs.PointCall.{place_of, point_names}
use Rattle.calls.specs.Calls.{term, step, return}
use Rattle.calls.specs.represent.Tables.{steps_of}
use Rattle.calls.specs.represent.Points.{counts_of}
use Rattle.session.specs.declared.session.Session.{Session}
use Rattle.session.specs.View.{view, with_point, at_point}
use Rattle.session.specs.SessionLaws.{SetsNoPoint}

-- a session of zeros whose rows and steps are counted above their limits
abbrev over_counted : (points : List ℕ) (count : ℕ) → Session
over_counted ps k =
    record {
      rows = replicate 4096 0;
      row_count = 65536;
      steps = replicate 10240 0;
      step_count = 2049;
      points = ps;
      point_count = k;
    }

-- a point counts no more rows and steps than a session has room for; a count of points above 8 is read as 8
points_counted_lem :
    AllRight
    (take 4 (with_point (over_counted (replicate 24 0) 0) 5).points is (5 ∷ 1024 ∷ 2048 ∷ 0 ∷ [])
    ∷ ((with_point (over_counted (replicate 24 0) 0) 5).point_count ∷ []) is (1 ∷ [])
    ∷ point_names (view (over_counted
    (1 ∷ 0 ∷ 0 ∷ 2 ∷ 0 ∷ 0 ∷ 3 ∷ 0 ∷ 0 ∷ 4 ∷ 0 ∷ 0 ∷ 5 ∷ 0 ∷ 0 ∷ 6 ∷ 0 ∷ 0 ∷ 7 ∷ 0 ∷ 0 ∷ 8 ∷ 0 ∷ 0 ∷ 9 ∷ 0 ∷ 0 ∷ []) 9)
    ).points is (1 ∷ 2 ∷ 3 ∷ 4 ∷ 5 ∷ 6 ∷ 7 ∷ 8 ∷ [])
    ∷ [])
unfolding view with_point table_of steps_of counts_of
points_counted_lem = refl

-- a return to a point whose counts are above the limits takes them as they are
returns_counted :
    AllRight
    (((at_point (over_counted (7 ∷ 2000 ∷ 3000 ∷ []) 1) 7).row_count ∷ []) is (2000 ∷ [])
    ∷ ((at_point (over_counted (7 ∷ 2000 ∷ 3000 ∷ []) 1) 7).step_count ∷ []) is (3000 ∷ [])
    ∷ (at_point (over_counted (7 ∷ 1 ∷ 1 ∷ 8 ∷ 2 ∷ 2 ∷ []) 2) 7).points is (7 ∷ 1 ∷ 1 ∷ 0 ∷ 0 ∷ 0 ∷ [])
    ∷ [])
unfolding at_point counts_of place_of
returns_counted = refl

-- term and step calls, and returns, set no point
none_set : Every SetsNoPoint (term (row 2 1 0 2) ∷ step (books.step 2 0 0 0 0) ∷ return 65535 ∷ [])
none_set = (tt, (tt, (tt, tt)))
