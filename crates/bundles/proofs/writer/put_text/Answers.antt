-- `put_text` meets its contract.
use mathlib.Core.Path.{◌≡◌}
use Prim.Native.Nat.{◌+◌, ◌-◌}
use native.Mathlib.Omega.{arith}
use lib.ListN.{length}
use Rattle.bundles.proofs.Putting.{put_part}
use Rattle.bundles.proofs.writer.put_text.Goals as goal

pub returns : goal.returns
returns c =
    let a = c.args in
    let k = a.at + length a.text.now - a.at in
    let size : length a.text.now ≡ k = omega arith in
    rw c.copy_from_slice.ensures.after (put_part a.out.now a.text.now a.at k (omega arith) size)
