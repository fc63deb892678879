-- `type_of` meets its contract.
use mathlib.Core.Path.{refl, ap, ◌∙◌}
use Rattle.std.specs.Prelude.{option_map}
use Rattle.common.specs.represent.Numbers.{test_number}
use Rattle.selector_grammar.specs.Words.{types}
use Rattle.selector_words.proofs.Named.{picked_by}
use Rattle.selector_words.proofs.type_of.Goals as goal

pub returns : goal.returns
unfolding types
returns c = ap (option_map test_number) c.find.ensures ∙ picked_by test_number c.args.word.now _ 2 refl
