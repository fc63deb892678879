-- `keep_kind` meets its contract.
use Rattle.std.proofs.Common.{ℕ, Bool, ◌≡◌, ◌&&◌, ◌||◌, not, eqb, get_or}
use Rattle.common.specs.represent.Numbers.{kind_number}
use Rattle.set_selection.specs.Sets.{marked}
use Rattle.set_selection.proofs.Written.{PointTo}
use Rattle.set_selection.proofs.filters.keep_kind.Given as goal

abbrev pub invariant-loop-y : goal.invariant-loop-y
invariant-loop-y l = PointTo l.fn.out (λ y m. m && eqb (get_or l.kinds y 0) l.number) l.y l.out
