-- `step_length` meets its contract.
use mathlib.Core.List.{[], ◌∷◌}
use native.Mathlib.Omega.{arith}
use Rattle.bundles.specs.private.TablesPut.{numbers_length}
use Rattle.bundles.proofs.Lengths.{line_length}
use Rattle.bundles.proofs.step_length.Goals as goal

pub returns : goal.returns
unfolding numbers_length
returns c =
    let p = c.args.step in
    let line = line_length p.rule (p.left ∷ p.right ∷ p.first ∷ p.second ∷ []) in
    let n = c.digits.ensures in
    let l = c.digits-2.ensures in
    let r = c.digits-3.ensures in
    let i = c.digits-4.ensures in
    let j = c.digits-5.ensures in
    (omega (arith, line, n.0, l.0, r.0, i.0, j.0), omega (arith, n.1, l.1, r.1, i.1, j.1))
