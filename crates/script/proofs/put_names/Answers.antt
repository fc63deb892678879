-- `put_names` meets its contract: the first i bytes are written.
use native.Mathlib.Omega.{arith}
use lib.ListN.{length-set}
use mathlib.Core.Path.{◌∙◌}
use Rattle.script.proofs.NamesPut.{name_put}
use Rattle.script.proofs.put_names.Goals as goal

pub loop-i-preserved : goal.loop-i-preserved
loop-i-preserved c =
    let size = c.min-size.ensures in
    let l = c.loop-i in (
      name_put c.args.bytes.now l.out l.i _ (omega (arith, size, c.loop-i-test.true))
          (omega (arith, size, l.invariant.1, c.loop-i-test.true)) c.newline_for_space.ensures l.invariant.0,
      length-set l.out l.i _ ∙ l.invariant.1,
    )
