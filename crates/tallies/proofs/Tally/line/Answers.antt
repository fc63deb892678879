-- `Tally::line` meets its contract.
use Prim.Native.Nat.{◌+◌, ◌≤◌, ◌<◌}
use mathlib.Core.Path.{◌≡◌, ap, ◌∙◌}
use native.Mathlib.Omega.{arith}
use lib.ListN.{length, get_or}
use borrow.Author.Rules.{rules}
use Rattle.rules.specs.Yields.{max_rule}
use Rattle.tallies.specs.Count.{entry}
use Rattle.tallies.proofs.Lined.{rule_line, total_line}
use Rattle.tallies.proofs.Tally.line.Goals as goal

pub returns-in-Some : goal.returns-in-Some
returns-in-Some c =
    let t = c.args.self in
    let k = c.args.k in
    let size : length t.uses ≡ max_rule = search rules in
    let there : k < length t.uses = search rules in
    let its : c.in-Some.field-0.now ≡ get_or t.uses k 0 = search rules in
    λ within. ap (entry (k + 1)) its ∙ rule_line t.uses t.total k size (omega arith) within

pub returns-in-None : goal.returns-in-None
returns-in-None c =
    let t = c.args.self in
    let k = c.args.k in
    let size : length t.uses ≡ max_rule = search rules in
    let past : length t.uses ≤ k = search rules in
    total_line t.uses t.total k size (omega arith)
