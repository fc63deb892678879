-- `first_bad_row` meets its contract: no row before is bad.
use Rattle.std.proofs.Common.{◌≡◌, length}
use Rattle.xpath.proofs.Rows.{PassedBy}
use Rattle.documents.specs.Checks.{listed}
use Rattle.documents.proofs.Passing.{bad}
use Rattle.documents.proofs.unchecked.Unchecked.first_bad_row.Given as goal

abbrev pub invariant-loop-i : goal.invariant-loop-i
invariant-loop-i l =
    record {
      size : length l.ends ≡ length l.self.kinds.now;
      passed : PassedBy (bad (listed l.self)) (listed l.self) l.initial.ends l.i l.ends;
    }
