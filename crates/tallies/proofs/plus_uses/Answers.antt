-- `plus_uses` meets its contract. The loop's invariant: the uses of the first i rules are added.
use mathlib.Core.Path.{◌≡◌, ap, ◌∙◌}
use lib.ListN.{length, get_or}
use Rattle.rules.specs.Yields.{max_rule}
use Rattle.session.specs.View.{view}
use Rattle.tallies.specs.represent.Tally.{plus}
use Rattle.tallies.proofs.Lined.{none_added, one_added, all_added}
use borrow.Author.Rules.{rules}
use Rattle.tallies.proofs.plus_uses.Goals as goal

pub loop-i-init : goal.loop-i-init
loop-i-init c =
    let size : length c.args.uses ≡ max_rule = search rules in
    none_added c.args.uses (view c.args.session.now).steps size

pub loop-i-preserved : goal.loop-i-preserved
unfolding plus
loop-i-preserved c =
    let l = c.loop-i in
    let a = c.args in
    let sum = c.saturating_add.ensures ∙ ap (plus (get_or l.count-items l.i 0)) c.rule_uses-more.ensures in
    one_added a.uses (view a.session.now).steps l.i l.count-items _ l.invariant c.loop-i-test.true sum

pub returns : goal.returns
returns c =
    let l = c.loop-i in
    let a = c.args in
    all_added a.uses (view a.session.now).steps l.i l.count-items l.invariant c.loop-i-test.false
