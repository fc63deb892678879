-- `is_included` meets its contract.
use Rattle.std.proofs.Common.{◌≡◌, ◌||◌, ◌&&◌, ◌+◌, ℕ, Bool, not, suc, refl, sym, ap, ◌∙◌, arith, length}
use Rattle.common.specs.Bounded.{all_below}
use Rattle.set_selection.specs.Sets.{marked}
use Rattle.set_selection.proofs.Kept.{suc_is}
use Rattle.set_selection.proofs.evaluation.is_included.Goals as goal

pub loop-y-init : goal.loop-y-init
unfolding all_below
loop-y-init c = refl

pub loop-y-preserved : goal.loop-y-preserved
unfolding all_below
loop-y-preserved c =
    let l = c.loop-y in
    ap (λ (b : Bool). b && (not (marked c.args.a.now l.y) || marked c.args.b.now l.y)) l.invariant
    ∙ ap (λ (n : ℕ). all_below n (λ y. not (marked c.args.a.now y) || marked c.args.b.now y)) (suc_is l.y)

pub returns : goal.returns
returns c =
    let l = c.loop-y in
    let e : l.y ≡ length c.args.a.now = omega arith in
    l.invariant ∙ ap (λ (n : ℕ). all_below n (λ y. not (marked c.args.a.now y) || marked c.args.b.now y)) e
