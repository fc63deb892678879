-- `numbers_line` meets its contract. The loop's invariant: the line starts with the numbers so far and goes on at
-- `from`.
use Prim.Native.Nat.{ℕ, ◌+◌, ◌-◌}
use mathlib.Core.Path.{◌≡◌, refl, sym, ap, ◌∙◌}
use mathlib.Core.List.{[], ◌∷◌}
use native.Mathlib.Omega.{arith}
use Rattle.std.proofs.lemmas.List.{take_all, take_more_set}
use lib.ListN.{length, drop, length-set, length-replicate, length-append}
use Rattle.lines.specs.Line.{lines}
use Rattle.lines.proofs.LineRead.{starts_counted, counted_more, counted_last, none_more, none_last}
use Rattle.lines.proofs.LineRead.{no_numbers_met}
use Rattle.lines.proofs.numbers_line.Goals as goal

pub returns-in_err-numbers : goal.returns-in_err-numbers
returns-in_err-numbers g c =
    let none_there : g.row.N ≡ 0 = sym (length-replicate {A = ℕ} g.row.N 0) ∙ c.in_err-numbers.ensures.cases in
    rw (c.from_residual.ensures, none_there) (no_numbers_met (lines (drop c.args.at c.args.bytes.now)))

pub loop-n-init : goal.loop-n-init
loop-n-init g c =
    let others = c.in_ok-numbers.others.now in
    let all = ap length c.in_ok-numbers.ensures.cases.0 in (
      omega (arith, all, length-replicate {A = ℕ} g.row.N 0, length-append others (c.in_ok-numbers.last.now ∷ [])),
      starts_counted g.row.N _ _ (g.row.N - 0) (omega arith),
    )

pub returns-in_err-number : goal.returns-in_err-number
returns-in_err-number g c =
    let a = c.args in
    let l = c.loop-n in
    let left = g.row.N - (l.n-index + 1) in
    rw c.from_residual-in_err-number.ensures
    (none_more g.row.N a.bytes.now a.at l.from (g.row.N - l.n-index) _ l.invariant.1 left (omega arith) (omega arith)
    c.in_err-number.ensures)

pub loop-n-preserved : goal.loop-n-preserved
loop-n-preserved g c =
    let a = c.args in
    let l = c.loop-n in
    let left = g.row.N - (l.n-index + 1) in
    let v = c.in_ok-number.number.value in (
      omega (arith, length-set l.n-items l.n-index v, l.invariant.0),
      rw (take_more_set l.n-items l.n-index v (omega arith))
          (counted_more g.row.N a.bytes.now a.at l.from (g.row.N - l.n-index) _ l.invariant.1 left (omega arith) v _
          c.in_ok-number.ensures),
    )

pub returns-in_err-number-2 : goal.returns-in_err-number-2
returns-in_err-number-2 g c =
    let a = c.args in
    let l = c.loop-n in
    rw c.from_residual-in_err-number-2.ensures
    (none_last g.row.N a.bytes.now a.at l.from (g.row.N - l.n-index) _ l.invariant.1 0 (omega arith) refl
    c.in_err-number-2.ensures)

pub returns : goal.returns
returns g c =
    let a = c.args in
    let l = c.loop-n in
    rw (← take_all l.n-index l.n-items (omega arith))
    (counted_last g.row.N a.bytes.now a.at l.from (g.row.N - l.n-index) _ l.invariant.1 0 (omega arith) refl _ _
    c.in_ok-number-2.ensures)
