-- `put_tables` meets its contract: four texts, one behind the other.
use mathlib.Core.Path.{◌∙◌}
use native.Mathlib.Omega.{arith}
use Rattle.lines.specs.Ascii.{ascii}
use Rattle.bundles.specs.Bundle.{row_names, step_names}
use Rattle.bundles.specs.private.TablesPut.{tables_text}
use Rattle.bundles.proofs.Putting.{put_both, put_keeps}
use Rattle.bundles.proofs.LentTables.{tables_length_lem}
use Rattle.bundles.proofs.lent_tables.put_tables.Goals as goal

pub put_names-names-requires : goal.put_names-names-requires
put_names-names-requires c =
    let a = c.args in
    omega (arith, c.requires, tables_length_lem a.held.rows.now a.held.steps.now)

pub put_lines-rows_end-requires : goal.put_lines-rows_end-requires
put_lines-rows_end-requires c =
    let a = c.args in
    let names = c.put_names-names.ensures in (
      omega arith,
      omega (
        arith,
        c.requires,
        tables_length_lem a.held.rows.now a.held.steps.now,
        names.position,
        put_keeps names,
      ),
    )

pub put_names-more_names-requires : goal.put_names-more_names-requires
put_names-more_names-requires c =
    let a = c.args in
    let names = c.put_names-names.ensures in
    let rows = c.put_lines-rows_end.ensures in
    omega (
      arith,
      c.requires,
      tables_length_lem a.held.rows.now a.held.steps.now,
      names.position,
      put_keeps names,
      rows.position,
      put_keeps rows,
    )

pub put_lines-requires : goal.put_lines-requires
put_lines-requires c =
    let a = c.args in
    let names = c.put_names-names.ensures in
    let rows = c.put_lines-rows_end.ensures in
    let more = c.put_names-more_names.ensures in (
      omega arith,
      omega (
        arith,
        c.requires,
        tables_length_lem a.held.rows.now a.held.steps.now,
        names.position,
        put_keeps names,
        rows.position,
        put_keeps rows,
        more.position,
        put_keeps more,
      ),
    )

pub shape_of-out : goal.shape_of-out
shape_of-out c =
    put_keeps c.put_lines.ensures ∙ put_keeps c.put_names-more_names.ensures
    ∙ put_keeps c.put_lines-rows_end.ensures ∙ put_keeps c.put_names-names.ensures

pub returns : goal.returns
unfolding tables_text row_names step_names ascii
returns c =
    put_both c.put_names-names.ensures
    (put_both c.put_lines-rows_end.ensures
    (put_both c.put_names-more_names.ensures c.put_lines.ensures))
