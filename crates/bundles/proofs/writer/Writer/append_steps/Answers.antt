-- `Writer::append_steps` meets its contract: the lines left make all of them with those that are put.
use mathlib.Core.Path.{refl, ap, ◌∙◌}
use mathlib.Core.List.{[]}
use native.Mathlib.Omega.{arith}
use lib.ListN.{length}
use Rattle.calls.specs.Book.{step_of_numbers}
use Rattle.calls.specs.represent.Tables.{steps_of}
use Rattle.bundles.specs.Bundle.{step_text, steps_text}
use Rattle.bundles.specs.private.TextPut.{text_of_line}
use Rattle.bundles.proofs.Putting.{all_rest, text_room, text_put, texts_done, put_as}
use Rattle.bundles.proofs.Tables.{there, all_there}
use Rattle.bundles.proofs.writer.Writer.append_steps.Goals as goal

pub loop-numbers-init : goal.loop-numbers-init
loop-numbers-init c = (refl, all_rest c.requires)

pub append-requires : goal.append-requires
unfolding text_of_line steps_text
append-requires c =
    let l = c.loop-numbers in
    let lent = c.whole_steps-numbers-items.result.now in
    let xs = steps_of c.args.steps.now in
    let many = all_there step_of_numbers lent xs c.whole_steps-numbers-items.ensures in
    let item = there step_of_numbers lent xs l.numbers-index c.from.ensures refl c.whole_steps-numbers-items.ensures in
    let room = text_room step_text steps_text refl (λ x xs. refl) xs l.numbers-index l.invariant.1 (step_of_numbers []) (omega arith) in
    omega (arith, room, ap (λ x. length (step_text x)) item)

pub loop-numbers-preserved : goal.loop-numbers-preserved
unfolding text_of_line steps_text
loop-numbers-preserved c =
    let l = c.loop-numbers in
    let lent = c.whole_steps-numbers-items.result.now in
    let xs = steps_of c.args.steps.now in
    let many = all_there step_of_numbers lent xs c.whole_steps-numbers-items.ensures in
    let item = there step_of_numbers lent xs l.numbers-index c.from.ensures refl c.whole_steps-numbers-items.ensures in
    let put = put_as (ap step_text item) c.append.ensures.put in (
      c.append.ensures.same_buffer ∙ l.invariant.0,
      text_put step_text steps_text refl (λ x xs. refl) xs l.numbers-index l.invariant.1 (step_of_numbers []) (omega arith) put,
    )

pub returns : goal.returns
unfolding steps_text
returns c =
    let l = c.loop-numbers in
    let lent = c.whole_steps-numbers-items.result.now in
    let xs = steps_of c.args.steps.now in
    let many = all_there step_of_numbers lent xs c.whole_steps-numbers-items.ensures in
    record {
      same_buffer = l.invariant.0;
      put = texts_done step_text steps_text refl (λ x xs. refl) xs l.numbers-index l.invariant.1 (omega arith);
    }
