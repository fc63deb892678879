-- `name_end` meets its contract.
use mathlib.Core.Path.{refl}
use Rattle.std.proofs.Common.{rules}
use Rattle.selector_grammar.specs.Bytes.{is_name, is_start}
use Rattle.selector_words.proofs.Scanned.{passed}
use Rattle.selector_words.proofs.bytes.name_end.Goals as goal

pub returns : goal.returns
unfolding is_name is_start
returns c = passed is_name c.args.s.now c.args.at c.pass.result refl (c.pass.ensures is_name (λ b r e. search rules))
