-- `Filed::text` meets its contract.
use mathlib.Core.Path.{sym}
use Prim.Native.Nat.{ℕ}
use native.Mathlib.Omega.{arith}
use lib.ListN.{replicate, length-replicate}
use Rattle.common.specs.Limits.{max_bytes}
use lib.Seq.{length-take-le}
use Rattle.script_bundle.proofs.CallLaws.{text_done}
use Rattle.script_bundle.proofs.Filed.text.Goals as goal

pub slice_bounds-list-end : goal.slice_bounds-list-end
slice_bounds-list-end c = let put = c.put_names-size.ensures in omega (arith, put.0, put.2)

pub slice_bounds-text-end : goal.slice_bounds-text-end
slice_bounds-text-end c =
    let put = c.put_names-size.ensures in
    sym (length-take-le c.put_names-size.result _ (omega (arith, put.0, put.2)))

pub returns : goal.returns
returns c =
    rw c.without_value.ensures
    (text_done c.args.self.now _ (replicate max_bytes 0) _ (length-replicate {A = ℕ} max_bytes 0)
    c.put_names-size.ensures _ _ _ c.text.ensures.met)
