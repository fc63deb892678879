-- `number_by` meets its contract.
use Rattle.std.proofs.Common.{◌-◌, ap, ◌∙◌}
use Rattle.xml_numbers.specs.Numbers.{sought}
use Rattle.xml_numbers.proofs.Laws.{number_none, number_spare, number_listed}
use Rattle.xml_numbers.proofs.rows.number_by.Goals as goal

pub returns-then-name-eq0 : goal.returns-then-name-eq0
returns-then-name-eq0 c =
    number_none c.args.numbering.list.now c.args.numbering.lookup c.args.numbering.unlisted c.args.table.now
    c.args.name c.args.namespace c.if-name-eq0.true

pub returns-then-number-eq0 : goal.returns-then-number-eq0
returns-then-number-eq0 c =
    number_spare c.args.numbering.list.now c.args.numbering.lookup c.args.numbering.unlisted c.args.table.now
    c.args.name c.args.namespace c.if-name-eq0.false _ _
    (c.sought-number.ensures
    ∙ ap (λ k. sought c.args.numbering.lookup k c.args.namespace)
    (c.number_in-listed.ensures ∙ c.requires.numbers_value.each (c.args.name - 1)))
    c.if-number-eq0.true c.requires.spare_value

pub returns-else-number-eq0 : goal.returns-else-number-eq0
returns-else-number-eq0 c =
    number_listed c.args.numbering.list.now c.args.numbering.lookup c.args.numbering.unlisted c.args.table.now
    c.args.name c.args.namespace c.if-name-eq0.false _
    (c.sought-number.ensures
    ∙ ap (λ k. sought c.args.numbering.lookup k c.args.namespace)
    (c.number_in-listed.ensures ∙ c.requires.numbers_value.each (c.args.name - 1)))
    c.if-number-eq0.false
