-- `put_line` meets its contract: the line of a term or a step is that of its numbers.
use mathlib.Core.List.{[], ◌∷◌}
use native.Mathlib.Omega.{arith}
use lib.ListN.{length-append}
use Rattle.lines.specs.Line.{newline}
use Rattle.bundles.specs.private.TextPut.{text_of_line}
use Rattle.bundles.proofs.writer.put_line.Goals as goal

pub put_names-requires : goal.put_names-requires
unfolding text_of_line
put_names-requires c =
    let room = rw c.in-Names.is at c.requires in
    omega (arith, room, length-append c.in-Names.names.now (newline ∷ []))

pub put_numbers-requires : goal.put_numbers-requires
unfolding text_of_line
put_numbers-requires c = rw c.from.ensures (omega arith, rw c.in-Term.is at c.requires)

pub put_numbers-requires-in-Step : goal.put_numbers-requires-in-Step
unfolding text_of_line
put_numbers-requires-in-Step c = rw c.from-in-Step.ensures (omega arith, rw c.in-Step.is at c.requires)

pub returns-in-Names : goal.returns-in-Names
unfolding text_of_line
returns-in-Names c = rw c.in-Names.is c.put_names.ensures

pub returns-in-Term : goal.returns-in-Term
unfolding text_of_line
returns-in-Term c = rw c.in-Term.is (rw c.from.ensures at c.put_numbers.ensures)

pub returns-in-Step : goal.returns-in-Step
unfolding text_of_line
returns-in-Step c = rw c.in-Step.is (rw c.from-in-Step.ensures at c.put_numbers-in-Step.ensures)
