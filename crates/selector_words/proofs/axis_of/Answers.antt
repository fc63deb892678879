-- `axis_of` meets its contract.
use mathlib.Core.Path.{refl, ap, ◌∙◌}
use Rattle.std.specs.Prelude.{option_map}
use Rattle.common.specs.represent.Numbers.{axis_number}
use Rattle.selector_grammar.specs.Words.{axes}
use Rattle.selector_words.proofs.Named.{picked_by}
use Rattle.selector_words.proofs.axis_of.Goals as goal

pub returns : goal.returns
unfolding axes
returns c = ap (option_map axis_number) c.find.ensures ∙ picked_by axis_number c.args.word.now _ 0 refl
