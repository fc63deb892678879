-- `pass_line` meets its contract.
use mathlib.Core.Bool.{true}
use native.Mathlib.Omega.{arith}
use Rattle.std.proofs.Common.{◌≡◌, rules, tests, drop}
use Rattle.selector_words.specs.private.Index.{ended}
use Rattle.selector_words.proofs.Indexed.{left_more, line_left, goes_on}
use Rattle.selector_words.proofs.index.pass_line.Goals as goal

pub bounds-list-i : goal.bounds-list-i
bounds-list-i c = omega (arith, (goes_on c.args.list.now c.loop-signed.i (search (rules, tests))).0)

pub loop-signed-preserved : goal.loop-signed-preserved
loop-signed-preserved c =
    let more = goes_on c.args.list.now c.loop-signed.i (search (rules, tests)) in (
      rw c.signed_by-signed.ensures (left_more _ _ _ _ c.loop-signed.invariant.0 more.0 more.1),
      omega arith,
      omega (arith, more.0),
    )

pub returns : goal.returns
returns c =
    let e : ended (drop c.loop-signed.i c.args.list.now) ≡ true = search (rules, tests) in
    rw c.min.ensures (line_left _ _ _ _ c.loop-signed.invariant.0 e c.loop-signed.invariant.1 c.requires)
