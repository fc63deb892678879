-- `write_tables` meets its contract.
use mathlib.Core.Path.{ap₂}
use native.Mathlib.Omega.{arith}
use Rattle.terms.specs.Row.{max_rows}
use Rattle.calls.specs.Book.{max_steps}
use Rattle.bundles.specs.private.TablesPut.{tables_text}
use Rattle.bundles.proofs.LentTables.{written_not, written_all}
use Rattle.bundles.proofs.Tables.{few_row_numbers, few_step_numbers}
use Rattle.bundles.proofs.lent_tables.write_tables.Goals as goal
use Rattle.bundles.proofs.lent_tables.write_tables.Goals.{else-at-out-via-then-at-out+else-size-out}
use Rattle.bundles.proofs.lent_tables.write_tables.Goals.{else-at-out-via-else-at-out}

pub tables_length-size-requires : goal.tables_length-size-requires
tables_length-size-requires c =
    (few_row_numbers max_rows _ c.first-few.ensures.0, few_step_numbers max_steps _ c.first-few.ensures.1)

pub returns-else-at-out : goal.returns-else-at-out
returns-else-at-out c =
    let text = ap₂ tables_text c.first-few.ensures.0 c.first-few.ensures.1 in
    let size = c.tables_length-size.ensures in
    elim c.else-at-out.branch [
      | else-at-out-via-then-at-out+else-size-out w ↦
          written_not text size (omega (arith, w.if-at-out.true, w.if-size-out.false, size))
      | else-at-out-via-else-at-out w ↦ written_not text size (omega (arith, w.if-at-out.false))
    ]

pub put_tables-requires : goal.put_tables-requires
put_tables-requires c = omega (arith, c.if-size-out.true, c.if-at-out.true, c.tables_length-size.ensures)

pub returns-then-size-out : goal.returns-then-size-out
returns-then-size-out c =
    let text = ap₂ tables_text c.first-few.ensures.0 c.first-few.ensures.1 in
    written_all text c.tables_length-size.ensures
    (omega (arith, c.if-size-out.true, c.if-at-out.true, c.tables_length-size.ensures))
    c.put_tables.ensures
