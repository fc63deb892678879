-- `keep_first` meets its contract: the table stays, and no more rows are kept than asked.
use Prim.Native.Nat.{◌-◌, ◌≤◌}
use mathlib.Core.Path.{◌≡◌}
use Rattle.call_answers.proofs.term.keep_first.Given as goal

abbrev pub invariant-loop-held : goal.invariant-loop-held
invariant-loop-held l = (l.held.numbers ≡ l.initial.held.numbers) × (l.held.count ≤ l.n)

abbrev pub decreases-loop-held : goal.decreases-loop-held
decreases-loop-held l = l.n - l.held.count
