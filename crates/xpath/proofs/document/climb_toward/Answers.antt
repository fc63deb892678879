-- `climb_toward` meets its contract: what is left of the climb has the rest of its parents to take.
use mathlib.Core.Path.{refl}
use mathlib.Core.Logic.{inl}
use native.Mathlib.Omega.{arith}
use borrow.Author.Tests.{lt-ltb, le-ltb}
use Rattle.xpath.proofs.Climbing.{way_starts, way_on, way_over, way_stuck}
use Rattle.xpath.proofs.document.climb_toward.Goals as goal

pub loop-at-init : goal.loop-at-init
loop-at-init c = way_starts _ _ _ _ _

pub returns-then-at-parent : goal.returns-then-at-parent
returns-then-at-parent c =
    let u = c.parent_of-parent.ensures in
    way_stuck _ _ _ _ _ _ _ _ c.loop-at.invariant c.loop-at-test.true (omega arith)

pub loop-at-preserved : goal.loop-at-preserved
loop-at-preserved c =
    way_on _ _ _ _ _ _ _ _ c.loop-at.invariant _ _ c.parent_of-parent.ensures refl
    c.loop-at-test.true c.if-at-parent.false

pub returns-then-x-y : goal.returns-then-x-y
returns-then-x-y c =
    way_over _ _ _ _ _ _ _ _ c.loop-at.invariant _ (inl c.loop-at-test.false) (rw (lt-ltb _ _ c.if-x-y.true))

pub returns-else-x-y : goal.returns-else-x-y
returns-else-x-y c =
    way_over _ _ _ _ _ _ _ _ c.loop-at.invariant _ (inl c.loop-at-test.false) (rw (le-ltb _ _ c.if-x-y.false))
