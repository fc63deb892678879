-- `term_kind` meets its contract.
use mathlib.Core.Path.{ap, ◌∙◌}
use Rattle.common.specs.represent.Numbers.{row_number}
use Rattle.term_order.proofs.Rows.{kind_read}
use Rattle.term_order.proofs.term_kind.Goals as goal

pub returns : goal.returns
returns c =
    c.into.ensures ∙ ap row_number c.unwrap_or.ensures
    ∙ kind_read c.read_kind.result c.args.row.kind c.read_kind.ensures
