-- `signature` meets its contract.
use mathlib.Core.Path.{◌≡◌, ◌∙◌}
use Prim.Native.Nat.{ℕ}
use Rattle.std.proofs.Common.{rules}
use Rattle.std.specs.List.{fold}
use Rattle.selector_words.specs.private.Index.{signed_by}
use Rattle.selector_words.proofs.Indexed.{signed_all}
use Rattle.selector_words.proofs.index.signature.Goals as goal

pub returns : goal.returns
returns c =
    let e : c.fold.result ≡ fold (λ (x b : ℕ). signed_by x b) 0 c.args.word.now = search rules in
    e ∙ signed_all c.args.word.now 0
