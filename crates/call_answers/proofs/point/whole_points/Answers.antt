-- `whole_points` meets its contract.
use Prim.Native.Nat.{◌/◌}
use mathlib.Core.Path.{refl}
use lib.ListN.{length}
use Rattle.calls.proofs.PointTables.{points_by_three}
use Rattle.call_answers.proofs.point.whole_points.Goals as goal

pub returns : goal.returns
returns c =
    let xs = c.args.points.now in
    rw c.as_chunks.ensures.front (points_by_three (length xs / 3) xs refl)
