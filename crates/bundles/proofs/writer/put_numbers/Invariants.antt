-- `put_numbers` meets its contract: what is left of the line makes the whole with what is put.
use lib.ListN.{drop}
use Rattle.lines.specs.Written.{line_text}
use Rattle.bundles.proofs.Putting.{Rest, rest_of_line}
use Rattle.bundles.proofs.writer.put_numbers.Given as goal

abbrev pub invariant-loop-i : goal.invariant-loop-i
invariant-loop-i l = Rest l.initial.out l.at (line_text l.numbers) l.out l.end (rest_of_line (drop l.i l.numbers))
