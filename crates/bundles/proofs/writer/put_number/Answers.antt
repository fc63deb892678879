-- `put_number` meets its contract: the library's text of a number is the definition's.
use mathlib.Core.Path.{sym, ap, ◌∙◌}
use native.Mathlib.Omega.{arith}
use lib.ListN.{length}
use Rattle.std.specs.Fmt.{decimal}
use Rattle.bundles.proofs.Decimals.{decimal_written}
use Rattle.bundles.proofs.Putting.{put_before}
use Rattle.bundles.proofs.writer.put_number.Goals as goal

pub write_digits-requires : goal.write_digits-requires
write_digits-requires c =
    let text = ap length (decimal_written c.args.n (omega (arith, c.ranges.n))) in
    rw c.from.ensures
    (omega (arith, c.digits.ensures.0, text), omega (arith, c.requires, c.digits.ensures.0))

pub returns : goal.returns
returns c =
    let a = c.args in
    let text = decimal_written a.n (omega (arith, c.ranges.n)) in
    let w = c.write_digits.ensures in
    put_before a.out.now _ a.at _ _ _ (ap decimal c.from.ensures ∙ sym text) (omega (arith, c.digits.ensures.0))
    c.requires w.start w.before w.written
