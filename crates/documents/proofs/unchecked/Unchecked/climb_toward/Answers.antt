-- `climb_toward` meets its contract: what is left of the climb has the rest of its parents to take.
use Prim.Native.Nat.{ℕ, ◌+◌}
use mathlib.Core.Path.{◌≡◌, refl}
use mathlib.Core.Bool.{Bool}
use mathlib.Core.List.{List}
use mathlib.Core.Logic.{inl}
use native.Mathlib.Omega.{arith}
use borrow.Author.Tests.{lt-ltb, le-ltb}
use Rattle.xpath.specs.Document.{Document}
use Rattle.xpath.specs.Climb.{parents_taken}
use Rattle.xpath.specs.represent.Check.{ClimbMade}
use Rattle.xpath.proofs.Climbing.{way_starts, way_on, way_over, way_stuck}
use Rattle.documents.proofs.unchecked.Unchecked.climb_toward.Goals as goal

-- the number of parents, which the code does not count
counted : {d : Document} {x y e : ℕ} {es : List ℕ} {r : Bool} {k : ℕ} {left : List ℕ} → ClimbMade d x y e es r k left →
    ClimbMade d x y e es r (parents_taken d x y) left
counted m = record { met = m.met; parents = refl; ends = m.ends }

pub loop-at-init : goal.loop-at-init
loop-at-init c = (0, way_starts _ _ _ _ _)

pub returns-then-at-parent : goal.returns-then-at-parent
returns-then-at-parent c =
    let u = c.parent_at-parent.ensures in
    counted (way_stuck _ _ _ _ _ _ _ _ c.loop-at.invariant.1 c.loop-at-test.true (omega arith))

pub loop-at-preserved : goal.loop-at-preserved
loop-at-preserved c = (
  c.loop-at.invariant.0 + 1,
  way_on _ _ _ _ _ _ _ _ c.loop-at.invariant.1 _ _ c.parent_at-parent.ensures refl c.loop-at-test.true
      c.if-at-parent.false,
)

pub returns-then-x-y : goal.returns-then-x-y
returns-then-x-y c =
    counted
    (way_over _ _ _ _ _ _ _ _ c.loop-at.invariant.1 _ (inl c.loop-at-test.false) (rw (lt-ltb _ _ c.if-x-y.true)))

pub returns-else-x-y : goal.returns-else-x-y
returns-else-x-y c =
    counted
    (way_over _ _ _ _ _ _ _ _ c.loop-at.invariant.1 _ (inl c.loop-at-test.false) (rw (le-ltb _ _ c.if-x-y.false)))
