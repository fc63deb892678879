-- `steps_length` meets its contract: the length of the lines that are left makes the whole with what is counted.
use mathlib.Core.Path.{refl, ap}
use mathlib.Core.List.{[]}
use native.Mathlib.Omega.{arith}
use lib.ListN.{length}
use Rattle.calls.specs.Book.{step_of_numbers}
use Rattle.calls.specs.represent.Tables.{steps_of}
use Rattle.calls.proofs.Tables.{steps_lent}
use Rattle.bundles.specs.Bundle.{step_text, steps_text}
use Rattle.bundles.proofs.Tables.{there, all_there, length_left, nothing_left}
use Rattle.bundles.proofs.steps_length.Goals as goal

pub loop-numbers-init : goal.loop-numbers-init
loop-numbers-init c = (omega arith, omega arith)

pub overflow_add-size : goal.overflow_add-size
overflow_add-size c =
    let xs = c.args.steps.now in
    let many = all_there step_of_numbers c.whole_steps-numbers-items.result.now _ c.whole_steps-numbers-items.ensures in
    omega (arith, c.loop-numbers.invariant.1, many, steps_lent xs, c.step_length-size.ensures.1)

pub loop-numbers-preserved : goal.loop-numbers-preserved
unfolding steps_text
loop-numbers-preserved c =
    let l = c.loop-numbers in
    let lent = c.whole_steps-numbers-items.result.now in
    let xs = steps_of c.args.steps.now in
    let many = all_there step_of_numbers lent xs c.whole_steps-numbers-items.ensures in
    let item = there step_of_numbers lent xs l.numbers-index c.from.ensures refl c.whole_steps-numbers-items.ensures in
    let left = length_left step_text steps_text (λ x xs. refl) xs l.numbers-index (step_of_numbers []) (omega arith) in
    let same = ap (λ x. length (step_text x)) item in (
      omega (arith, l.invariant.0, left, same, c.step_length-size.ensures.0),
      omega (arith, l.invariant.1, c.step_length-size.ensures.1),
    )

pub returns : goal.returns
unfolding steps_text
returns c =
    let l = c.loop-numbers in
    let xs = steps_of c.args.steps.now in
    let many = all_there step_of_numbers c.whole_steps-numbers-items.result.now xs c.whole_steps-numbers-items.ensures in
    let none = nothing_left steps_text refl xs l.numbers-index (omega arith) in
    (omega (arith, l.invariant.0, none), omega (arith, l.invariant.1, many, steps_lent c.args.steps.now))
