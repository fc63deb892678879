-- `whole_steps` meets its contract.
use Prim.Native.Nat.{◌/◌}
use mathlib.Core.Path.{refl}
use lib.ListN.{length}
use Rattle.calls.proofs.Tables.{steps_by_five}
use Rattle.calls.proofs.step.whole_steps.Goals as goal

pub returns : goal.returns
returns c =
    let xs = c.args.steps.now in
    rw c.as_chunks.ensures.front (steps_by_five (length xs / 5) xs refl)
