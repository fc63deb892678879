-- `digits` meets its contract.
use mathlib.Core.Path.{refl, sym}
use native.Mathlib.Omega.{arith}
use Rattle.lines.specs.Written.{digits_of, decimal}
use Rattle.bundles.proofs.Decimals.{digits_by_power}
use Rattle.bundles.proofs.digits.Goals as goal

pub returns-in-Some : goal.returns-in-Some
returns-in-Some c =
    let log = c.in-Some.ensures in
    let told = digits_by_power c.in-Some.power c.args.n log.power_le log.next_power_gt (omega (arith, c.ranges.n)) in
    (sym told, omega (arith, log.bound))

pub returns-in-None : goal.returns-in-None
unfolding decimal digits_of
returns-in-None c = rw c.in-None.ensures.none (refl, omega arith)
