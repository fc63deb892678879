-- `bundle_length` meets its contract.
use native.Mathlib.Omega.{arith}
use Rattle.terms.specs.Row.{table_of}
use Rattle.calls.specs.represent.Tables.{steps_of}
use Rattle.bundles.proofs.Tables.{bundle_length_lem}
use Rattle.bundles.proofs.bundle_length.Goals as goal

pub returns : goal.returns
returns c =
    let a = c.args in
    omega (
      arith,
      c.terms_length.ensures.0,
      c.steps_length.ensures.0,
      bundle_length_lem (table_of a.held.rows.now) (steps_of a.held.steps.now),
    )
