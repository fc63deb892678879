-- `look` meets its contract.
use mathlib.Core.Path.{refl}
use native.Mathlib.Omega.{arith}
use Rattle.std.proofs.Common.{rules}
use Rattle.selector_words.proofs.Listed.{look_byte}
use Rattle.selector_words.proofs.list.Search.look.Goals as goal

pub loop-k-preserved : goal.loop-k-preserved
loop-k-preserved c =
    look_byte c.args.self.names.now c.args.self.word.bytes.now c.args.at c.loop-k.k _ c.loop-k.ends _ c.loop-k.may _ _
    c.loop-k.invariant (omega arith) (search rules) c.may_follow-may.ensures refl refl
