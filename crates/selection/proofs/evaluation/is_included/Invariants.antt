-- `selection::is_included` meets its contract.
use Prim.Native.Nat.{ℕ}
use mathlib.Core.Path.{◌≡◌}
use mathlib.Core.Bool.{Bool, not, ◌||◌}
use mathlib.Core.List.{List}
use lib.ListN.{length}
use Rattle.common.specs.Bounded.{all_below}
use Rattle.marking.specs.private.Added.{marked}
use Rattle.selection.proofs.evaluation.is_included.Given as goal

abbrev pub test : List ℕ → List ℕ → ℕ → Bool
test a b y = not (marked a y) || marked b y

abbrev pub invariant-loop-left : goal.invariant-loop-left
invariant-loop-left l = l.included ≡ all_below (length l.yielded) (test l.a l.b)
