-- `Session::write` meets its contract: the length told is held against the buffer's.
use native.Mathlib.Omega.{arith}
use Rattle.bundles.proofs.Tables.{few_row_numbers, few_step_numbers}
use Rattle.session.proofs.Written.{session_tables, write_refused, write_held}
use Rattle.session.proofs.session.Session.write.Goals as goal

pub bundle_length-size-requires : goal.bundle_length-size-requires
bundle_length-size-requires c =
    (few_row_numbers _ _ c.held-held.ensures.0, few_step_numbers _ _ c.held-held.ensures.1)

pub returns-then-out-size : goal.returns-then-out-size
returns-then-out-size c =
    let a = c.args in
    write_refused a.self.now a.out.now _ _ c.bundle_length-size.ensures
    (session_tables a.self.now c.held-held.result c.held-held.ensures.0 c.held-held.ensures.1) c.if-out-size.true

pub write_bundle-requires : goal.write_bundle-requires
write_bundle-requires c = omega (arith, c.bundle_length-size.ensures, c.if-out-size.false)

pub returns : goal.returns
returns c =
    let a = c.args in
    write_held a.self.now a.out.now _ _ c.bundle_length-size.ensures
    (session_tables a.self.now c.held-held.result c.held-held.ensures.0 c.held-held.ensures.1) (omega arith) _
    c.write_bundle.ensures
