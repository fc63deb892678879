-- What falls from call to call of the functions that evaluate a row.
use Prim.Native.Nat.{◌+◌, ◌*◌}
use lib.ListN.{length}
use mathlib.Core.Path.{◌≡◌}
use Rattle.xpath.specs.Meaning.{holds}
use Rattle.xpath.specs.Term.{In}
use Rattle.terms.specs.Terms.{path_in}
use Rattle.set_selection.specs.Evaluations.{document_in, rows_in, terms_before}
use Rattle.set_selection.specs.Memories.{Remembered}
use Rattle.set_selection.proofs.Written.{DoneBelow}
use Rattle.set_selection.proofs.evaluation.Evaluation.+evaluation.Given as goal

abbrev pub decreases-select : goal.decreases-select
decreases-select l = 3 * l.top

abbrev pub decreases-select_row : goal.decreases-select_row
decreases-select_row l = 3 * l.top + 2

abbrev pub decreases-select_back : goal.decreases-select_back
decreases-select_back l = 3 * l.top

abbrev pub decreases-select_row_back : goal.decreases-select_row_back
decreases-select_row_back l = 3 * l.top + 2

abbrev pub decreases-hold : goal.decreases-hold
decreases-hold l = 3 * l.top

abbrev pub decreases-hold_row : goal.decreases-hold_row
decreases-hold_row l = 3 * l.top + 2

abbrev pub decreases-include : goal.decreases-include
decreases-include l = 3 * l.top + 1

abbrev pub invariant-include-loop-x : goal.invariant-include-loop-x
invariant-include-loop-x l =
    record {
      size : length l.out.items ≡ length l.self.columns.now.kinds.now;
      done : DoneBelow
          (holds (document_in l.self) (In (path_in (terms_before l.self l.top) l.a)
          (path_in (terms_before l.self l.top) l.b)))
          l.x l.out.items;
      remembered : Remembered (rows_in l.self) (document_in l.self) l.memories;
    }
