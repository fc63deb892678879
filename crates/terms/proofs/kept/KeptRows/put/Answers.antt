-- `KeptRows::put` meets its contract: one more row, nesting and slot.
use Prim.Native.Nat.{◌*◌}
use mathlib.Core.Path.{◌≡◌}
use native.Mathlib.Omega.{arith}
use lib.ListN.{length}
use borrow.Author.Rules.{rules}
use Rattle.terms.specs.Row.{row_width, max_rows}
use Rattle.terms.specs.represent.RowTypes.{row_of}
use Rattle.terms.proofs.RowsKept.{put_kept}
use Rattle.terms.proofs.kept.KeptRows.put.Goals as goal

pub invariant_of-self : goal.invariant_of-self
invariant_of-self c =
    let s = c.args.self.now in
    let size : length s.numbers ≡ row_width * max_rows = search rules in
    let put = rw c.into.ensures at c.put_record.ensures in
    record {
      few = omega arith;
      kept = rw c.slot_of.ensures.0
          (put_kept s.numbers _ s.count (row_of c.args.row) s.nestings s.filter _ c.requires size put
          c.nesting_of-nesting.ensures s.kept);
    }
