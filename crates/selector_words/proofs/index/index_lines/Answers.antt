-- `index_lines` meets its contract.
use mathlib.Core.Path.{◌∙◌}
use native.Mathlib.Omega.{arith}
use lib.ListN.{length-set}
use Rattle.selector_words.proofs.Indexed.{line_next, entries_more}
use Rattle.selector_words.proofs.index.index_lines.Goals as goal

pub loop-count-preserved : goal.loop-count-preserved
loop-count-preserved c =
    let so_far = c.loop-count.invariant in
    let met = c.pass_line-next.ensures in (
      entries_more _ _ _ _ _ so_far.1 met _ so_far.0 (omega (arith, c.loop-count-test.true)),
      line_next _ _ _ _ _ so_far.1 met,
      rw length-set (omega (arith, c.loop-count-test.true)),
      length-set _ _ _ ∙ so_far.3,
    )
