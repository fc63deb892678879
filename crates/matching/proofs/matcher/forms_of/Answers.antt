-- The rule's place in its part of the table.
use Prim.Native.Nat.{◌-◌}
use mathlib.Core.Path.{◌∙◌, ap}
use mathlib.Core.List.{[]}
use native.Mathlib.Omega.{arith}
use lib.ListN.{get_or}
use Rattle.matching.proofs.Forms.{first_part, second_part, third_part}
use Rattle.matching.proofs.matcher.forms_of.Goals as goal

pub returns-then-i-le24 : goal.returns-then-i-le24
returns-then-i-le24 c =
    let i = c.from-i.ensures in
    c.entry_at.ensures ∙ ap (λ t. get_or t c.from-i.result []) c.rules_to_24.ensures
    ∙ rw i (first_part c.args.rule (omega arith))

pub returns-then-i-le41 : goal.returns-then-i-le41
returns-then-i-le41 c =
    let i = c.from-i.ensures in
    c.entry_at-then-i-le41.ensures ∙ ap (λ t. get_or t (c.from-i.result - 25) []) c.rules_to_41.ensures
    ∙ rw i (second_part c.args.rule (omega arith) (omega arith))

pub returns-else-i-le41 : goal.returns-else-i-le41
returns-else-i-le41 c =
    let i = c.from-i.ensures in
    c.entry_at-else-i-le41.ensures ∙ ap (λ t. get_or t (c.from-i.result - 42) []) c.rules_to_58.ensures
    ∙ rw i (third_part c.args.rule (omega arith))
