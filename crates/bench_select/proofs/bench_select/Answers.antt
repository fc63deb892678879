-- `bench_select` meets its contract.
use mathlib.Core.Path.{ap, ◌∙◌}
use Rattle.bench_select.proofs.bench_select.Goals as goal

pub returns : goal.returns
returns c =
    let made = c.select_on-answer.ensures in
    record { value = c.number.ensures ∙ ap (λ a. a.number) made.answer; marks_after = made.bytes }
