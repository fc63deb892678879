-- `rest_at` meets its contract.
use Prim.Native.Nat.{◌+◌}
use mathlib.Core.Path.{sym, subst, ◌∙◌}
use native.Mathlib.Omega.{arith}
use lib.ListN.{take, drop, length-drop}
use lib.Seq.{length-take-le}
use Rattle.std.proofs.lemmas.List.{take_all}
use Rattle.lines.specs.Line.{space}
use Rattle.lines.proofs.First.{First, first}
use Rattle.script.proofs.Rests.{line_taken, line_inside, rest_dropped, no_rest}
use Rattle.script.proofs.rest_at.Goals as goal

pub slice_bounds-line-end : goal.slice_bounds-line-end
slice_bounds-line-end c = sym (length-take-le _ _ (line_inside _ _ c.line_end.ensures))

pub returns-in-Some : goal.returns-in-Some
returns-in-Some c =
    let line = take c.line_end.result c.rest-rest.result.now in
    let i = c.in-Some.length in
    let there = subst (First space line) (sym c.in-Some.ensures) (first space line) in
    rw (← c.rest-rest.ensures, ← line_taken _ _ c.line_end.ensures)
    (take_all _ (drop (i + 1) line) (omega (arith, length-drop (i + 1) line)) ∙ rest_dropped line i there)

pub returns-in-None : goal.returns-in-None
returns-in-None c =
    let line = take c.line_end.result c.rest-rest.result.now in
    let none = subst (First space line) (sym c.in-None.ensures) (first space line) in
    rw (← c.rest-rest.ensures, ← line_taken _ _ c.line_end.ensures) (no_rest line none)
