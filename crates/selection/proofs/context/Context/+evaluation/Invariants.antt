-- What falls from call to call of the functions that evaluate a row, and what their loops keep.
use Prim.Native.Nat.{◌+◌, ◌*◌}
use mathlib.Core.Bool.{◌&&◌}
use lib.ListN.{length}
use Rattle.xpath.specs.Meaning.{selects, holds}
use Rattle.xpath.specs.Visits.{visits, qualifier_visits}
use Rattle.terms.specs.Terms.{path_in, qualifier_in}
use Rattle.marking.specs.private.Added.{marked, Added}
use Rattle.marking.proofs.Added.{between}
use Rattle.selection.specs.private.Parts.{document_in, terms_in}
use Rattle.selection.proofs.Marks.{joined_below}
use Rattle.selection.proofs.Limits.{Visited}
use Rattle.selection.proofs.context.Context.+evaluation.Given as goal

-- operands are among fewer rows; among the functions on the same rows, the added number falls
abbrev pub decreases-eval_path : goal.decreases-eval_path
decreases-eval_path l = 3 * l.self.now.top

abbrev pub decreases-eval_path_row : goal.decreases-eval_path_row
decreases-eval_path_row l = 3 * l.self.now.top + 2

abbrev pub decreases-eval_union : goal.decreases-eval_union
decreases-eval_union l = 3 * l.self.now.top + 1

abbrev pub decreases-eval_composition : goal.decreases-eval_composition
decreases-eval_composition l = 3 * l.self.now.top + 1

abbrev pub decreases-eval_filter : goal.decreases-eval_filter
decreases-eval_filter l = 3 * l.self.now.top + 1

abbrev pub decreases-eval_qualifier : goal.decreases-eval_qualifier
decreases-eval_qualifier l = 3 * l.self.now.top

abbrev pub decreases-eval_qualifier_row : goal.decreases-eval_qualifier_row
decreases-eval_qualifier_row l = 3 * l.self.now.top + 2

abbrev pub decreases-eval_inclusion : goal.decreases-eval_inclusion
decreases-eval_inclusion l = 3 * l.self.now.top + 1

-- the nodes of the first operand below z were visited, and what is selected from them is marked
abbrev pub invariant-eval_composition-loop-z : goal.invariant-eval_composition-loop-z
invariant-eval_composition-loop-z l =
    let d = document_in l.self in
    let q = path_in (terms_in l.self) l.b in
    Visited (marked l.first) (visits d q) l.initial.visits l.limit l.z l.visits
    × Added (length d) l.initial.out l.out (joined_below (marked l.first) (selects d q) l.z)

abbrev pub invariant-eval_filter-loop-z : goal.invariant-eval_filter-loop-z
invariant-eval_filter-loop-z l =
    let d = document_in l.self in
    let f = qualifier_in (terms_in l.self) l.b in
    Visited (marked l.first) (qualifier_visits d f) l.initial.visits l.limit l.z l.visits
    × Added (length d) l.initial.out l.out (between 0 l.z (λ y. marked l.first y && holds d f y))
