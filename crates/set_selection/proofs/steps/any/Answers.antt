-- `any` meets its contract.
use Rattle.std.proofs.Common.{◌≡◌, ◌||◌, ◌+◌, ℕ, Bool, suc, refl, sym, ap, ◌∙◌, arith, length}
use Rattle.common.specs.Bounded.{any_below}
use Rattle.set_selection.specs.Sets.{marked}
use Rattle.set_selection.proofs.Kept.{suc_is}
use Rattle.set_selection.proofs.steps.any.Goals as goal

pub loop-mark-init : goal.loop-mark-init
unfolding any_below
loop-mark-init c = refl

pub loop-mark-preserved : goal.loop-mark-preserved
unfolding any_below
loop-mark-preserved c =
    let l = c.loop-mark in
    ap (λ (b : Bool). b || marked c.args.marks.now l.mark-index) l.invariant
    ∙ ap (λ (n : ℕ). any_below n (marked c.args.marks.now)) (suc_is l.mark-index)

pub returns : goal.returns
returns c =
    let l = c.loop-mark in
    let e : l.mark-index ≡ length c.args.marks.now = omega arith in
    l.invariant ∙ ap (λ (n : ℕ). any_below n (marked c.args.marks.now)) e
