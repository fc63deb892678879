-- What falls from call to call of the functions that read an expression, and what their loops keep.
use mathlib.Core.Bool.{true}
use Prim.Native.Nat.{◌+◌, ◌-◌, ◌*◌}
use lib.ListN.{length}
use Rattle.selector_readings.specs.private.Build.{stands}
use Rattle.selector_reader.proofs.StepLaws.{StepGot}
use Rattle.selector_reader.proofs.PathLaws.{PathGot, UnionGot}
use Rattle.selector_reader.proofs.ExpressionLaws.{AndGot, OrGot}
use Rattle.selector_reader.proofs.+expression.Given as goal

abbrev pub decreases-read_and : goal.decreases-read_and
decreases-read_and l = 8 * l.left + 5

abbrev pub decreases-read_operand : goal.decreases-read_operand
decreases-read_operand l = 8 * l.left + 4

abbrev pub decreases-read_or : goal.decreases-read_or
decreases-read_or l = 8 * l.left + 6

abbrev pub decreases-read_path : goal.decreases-read_path
decreases-read_path l = 8 * l.left + 2

abbrev pub decreases-read_predicate : goal.decreases-read_predicate
decreases-read_predicate l = 8 * l.left

abbrev pub decreases-read_step : goal.decreases-read_step
decreases-read_step l = 8 * l.left + 1

abbrev pub decreases-read_union : goal.decreases-read_union
decreases-read_union l = 8 * l.left + 3

abbrev pub invariant-read_and-loop-got : goal.invariant-read_and-loop-got
invariant-read_and-loop-got l =
    AndGot l.selector.s.now l.selector.names.list.now l.left l.fn.rows (stands l.fn.from) l.rows (stands l.got)

abbrev pub decreases-read_and-loop-got : goal.decreases-read_and-loop-got
decreases-read_and-loop-got l = length l.selector.s.now - l.got.at

abbrev pub invariant-read_or-loop-got : goal.invariant-read_or-loop-got
invariant-read_or-loop-got l =
    OrGot l.selector.s.now l.selector.names.list.now l.left l.fn.rows (stands l.fn.from) l.rows (stands l.got)

abbrev pub decreases-read_or-loop-got : goal.decreases-read_or-loop-got
decreases-read_or-loop-got l = length l.selector.s.now - l.got.at

abbrev pub invariant-read_path-loop-rows : goal.invariant-read_path-loop-rows
invariant-read_path-loop-rows l =
    PathGot l.selector.s.now l.selector.names.list.now l.left l.fn.rows (stands l.fn.from) l.rows (stands l.got)

abbrev pub decreases-read_path-loop-rows : goal.decreases-read_path-loop-rows
decreases-read_path-loop-rows l = length l.selector.s.now - l.got.at

abbrev pub invariant-read_step-loop-selector : goal.invariant-read_step-loop-selector
invariant-read_step-loop-selector l =
    StepGot l.selector.s.now l.selector.names.list.now l.left true l.fn.rows (stands l.fn.from) l.rows (stands l.got)

abbrev pub decreases-read_step-loop-selector : goal.decreases-read_step-loop-selector
decreases-read_step-loop-selector l = length l.selector.s.now - l.got.at

abbrev pub invariant-read_union-loop-at : goal.invariant-read_union-loop-at
invariant-read_union-loop-at l =
    UnionGot l.selector.s.now l.selector.names.list.now l.left l.fn.rows (stands l.fn.from) l.rows (stands l.got)

abbrev pub decreases-read_union-loop-at : goal.decreases-read_union-loop-at
decreases-read_union-loop-at l = length l.selector.s.now - l.got.at
