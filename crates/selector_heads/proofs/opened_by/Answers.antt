-- `opened_by` meets its contract.
use mathlib.Core.Path.{ap, ◌∙◌}
use Rattle.std.specs.Prelude.{unwrap_or}
use Rattle.lines.specs.Ascii.{ascii}
use Rattle.selector_words.specs.private.Names.{found}
use Rattle.selector_heads.specs.declared.Opens.TheVariants as Opening
use Rattle.selector_heads.proofs.Headed.{opened}
use Rattle.selector_heads.proofs.opened_by.Goals as goal

pub returns : goal.returns
unfolding found ascii
returns c = c.unwrap_or.ensures ∙ ap (λ x. unwrap_or x Opening.Paths) c.find.ensures ∙ opened _ _ _
