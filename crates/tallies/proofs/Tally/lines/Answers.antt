-- `Tally::lines` meets its contract.
use mathlib.Core.Path.{◌≡◌}
use lib.ListN.{length}
use borrow.Author.Rules.{rules}
use Rattle.rules.specs.Yields.{max_rule}
use Rattle.tallies.specs.represent.Tally.{entries_of, LineIs}
use Rattle.tallies.specs.declared.TallyLine.TheVariants.{Total}
use Rattle.tallies.proofs.Lined.{all_made, all_lines}
use Rattle.tallies.proofs.Tally.lines.Goals as goal

pub returns : goal.returns
returns c =
    let t = c.args.self in
    let size : length t.uses ≡ max_rule = search rules in
    let made = c.from_fn.ensures.items in
    all_lines t.uses t.total size c.from_fn.result made.long
    (λ k h. all_made _ (LineIs (entries_of t)) _ (λ i y q call. search rules) _ _ made k (Total 0) h)
