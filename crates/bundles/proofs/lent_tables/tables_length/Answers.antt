-- `tables_length` meets its contract.
use native.Mathlib.Omega.{arith}
use Rattle.bundles.proofs.LentTables.{numbers_length_lem, tables_length_lem}
use Rattle.bundles.proofs.lent_tables.tables_length.Goals as goal

pub returns : goal.returns
returns c =
    let a = c.args in
    omega (
      arith,
      c.lines_length.ensures.0,
      c.lines_length-2.ensures.0,
      numbers_length_lem 4 3 a.held.rows.now,
      numbers_length_lem 5 4 a.held.steps.now,
      tables_length_lem a.held.rows.now a.held.steps.now,
    )
