-- `search_from` meets its contract.
use mathlib.Core.Path.{◌≡◌, refl, ap}
use native.Mathlib.Omega.{arith}
use Rattle.std.specs.Prelude.{None}
use Rattle.std.specs.Result.{result_ok}
use Rattle.std.proofs.Common.{rules}
use Rattle.selector_words.specs.private.Names.{given}
use Rattle.selector_words.proofs.Listed.{sought_all, missed}
use Rattle.selector_words.proofs.list.Search.search_from.Goals as goal

pub returns-in_err-ends : goal.returns-in_err-ends
returns-in_err-ends c =
    let e : result_ok c.walk.result ≡ None = search rules in
    let m = missed _ _ c.walk.result c.walk.ensures e in
    rw c.from_residual.ensures
    (ap given (sought_all c.args.self.names.now c.args.self.word.bytes.now _ _
    (m.1.on refl _ c.loop-self.invariant.0) (omega arith)))
