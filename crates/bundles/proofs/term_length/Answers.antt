-- `term_length` meets its contract.
use mathlib.Core.List.{[], ◌∷◌}
use native.Mathlib.Omega.{arith}
use Rattle.bundles.specs.private.TablesPut.{numbers_length}
use Rattle.bundles.proofs.Lengths.{line_length}
use Rattle.bundles.proofs.term_length.Goals as goal

pub returns : goal.returns
unfolding numbers_length
returns c =
    let r = c.args.row in
    let line = line_length r.kind (r.a ∷ r.b ∷ r.c ∷ []) in
    let k = c.digits.ensures in
    let x = c.digits-2.ensures in
    let y = c.digits-3.ensures in
    let z = c.digits-4.ensures in
    (omega (arith, line, k.0, x.0, y.0, z.0), omega (arith, k.1, x.1, y.1, z.1))
