-- `counted` meets its contract.
use mathlib.Core.Path.{◌≡◌, refl, ap, ◌∙◌}
use lib.ListN.{length}
use Rattle.std.proofs.Common.{rules}
use Rattle.script.specs.Words.{Counted}
use Rattle.script.specs.Command.{command}
use Rattle.script.proofs.Calls.{no_numbers_call, numbers_call, put_first}
use Rattle.script.proofs.counted.Goals as goal

pub returns-in_err-line : goal.returns-in_err-line
returns-in_err-line g c =
    let a = c.args in
    rw c.from_residual.ensures
    (λ word s made. no_numbers_call word (Counted g.row.N) s a.bytes.now a.at c.in_err-line.ensures)

pub returns : goal.returns
returns g c =
    let a = c.args in
    let line = c.in_ok-line.line in
    let size : length line.numbers ≡ g.row.N = search rules in
    let first = put_first g.row.N line.numbers _ _ size c.requires.0 refl c.put_record.ensures in
    λ word s made. numbers_call word (Counted g.row.N) s a.bytes.now a.at line.numbers line.next c.in_ok-line.ensures _
    (made _ _ _ _ _ _ c.make.ensures ∙ ap (command word) first)
