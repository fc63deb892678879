-- Past the last axis.
use Prim.Native.Nat.{ℕ, ◌≤◌}
use mathlib.Core.Path.{◌≡◌}
use mathlib.Core.Bool.{false}
use lib.ListN.{get_or-eq_default}
use Rattle.xpath.specs.Document.{Document}
use Rattle.xpath.specs.Axis.{on_axis}

pub past_last_axis : (a : ℕ) (d : Document) (x y : ℕ) → 12 ≤ a → false ≡ on_axis a d x y
unfolding on_axis
past_last_axis a d x y h = rw (get_or-eq_default)
