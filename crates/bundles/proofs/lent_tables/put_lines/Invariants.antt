-- `put_lines` meets its contract: what is left of the lines makes the whole with what is put.
use lib.ListN.{drop}
use Rattle.bundles.specs.private.TablesPut.{numbers_text, lines_text}
use Rattle.bundles.proofs.Putting.{Rest}
use Rattle.bundles.proofs.lent_tables.put_lines.Given as goal

abbrev pub invariant-loop-n : goal.invariant-loop-n
invariant-loop-n l =
    Rest l.initial.out l.at (lines_text l.width l.numbers) l.out l.end
    (numbers_text l.width l.left (drop l.n-index l.numbers))
