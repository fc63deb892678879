-- What the answers of point and return tell.
use Prim.Native.Nat.{ℕ, ◌≤◌, ◌<◌}
use mathlib.Core.Path.{◌≡◌}
use mathlib.Core.Bool.{◌||◌}
use mathlib.Core.List.{List}
use native.Mathlib.Omega.{arith}
use lib.Dec.{leb, ltb, eqb}
use lib.ListN.{length}
use borrow.Author.Tests.{lt-leb, leb-false, ltb-false}
use Rattle.std.proofs.lemmas.Bool.{or_parts}
use Rattle.calls.specs.Book.{max_points, answer}
use Rattle.common.specs.Refusals as refusals
use Rattle.calls.specs.PointCall.{place_of, point_answer, return_answer}
use Rattle.calls.proofs.Accepted.{test_failed}

-- a name that some point has can be returned to
pub returns_there : (names : List ℕ) (name : ℕ) → place_of names name < length names
    → answer 0 0 ≡ return_answer names name
unfolding return_answer
returns_there names name h = rw (lt-leb (length names) (place_of names name) h)

-- what accepted calls tell
pub record PointAccepted (names : List ℕ) (n : ℕ) : Type 0 where
  pub new : length names ≤ place_of names n
  pub room : length names < max_points

pub point_accepted : (names : List ℕ) (n : ℕ) → (point_answer names n).number ≡ 0 → PointAccepted names n
unfolding point_answer
point_accepted names n e =
    let bad = eqb n 0 || ltb (place_of names n) (length names) in
    let t = test_failed bad (answer refusals.bad_point n) _ (omega arith) e in
    let u = test_failed (leb max_points (length names)) (answer refusals.points_full 0) (answer 0 0) (omega arith)
    t.1 in
    record {
      new = ltb-false _ _ (or_parts (eqb n 0) (ltb (place_of names n) (length names)) t.0).1;
      room = leb-false _ _ u.0;
    }

pub return_accepted : (names : List ℕ) (n : ℕ) → (return_answer names n).number ≡ 0 → place_of names n < length names
unfolding return_answer
return_accepted names n e =
    let none = leb (length names) (place_of names n) in
    leb-false (length names) (place_of names n) (test_failed none (answer refusals.bad_point n) (answer 0 0)
    (omega arith) e).0
