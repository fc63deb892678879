-- `put` meets its contract.
use mathlib.Core.Path.{refl, sym}
use native.Mathlib.Omega.{arith}
use borrow.Author.Tests.{not-true, not-false}
use Rattle.selector_readings.proofs.Built.{put_none, put_found, put_full, put_added}
use Rattle.terms.specs.represent.RowTypes.{row_of}
use Rattle.selector_readings.specs.private.Build.{stands}
use Rattle.selector_readings.proofs.put.Goals as goal

pub returns-then-not-r : goal.returns-then-not-r
returns-then-not-r c =
    rw c.no_row.ensures
    (put_none (row_of c.args.row) c.args.nesting c.args.rows.now (stands c.args.r) c.requires
    (not-true _ c.if-not-r.true))

pub returns-in-Some : goal.returns-in-Some
returns-in-Some c =
    rw c.at_row.ensures
    (put_found (row_of c.args.row) c.args.nesting c.args.rows.now (stands c.args.r) c.requires
    (not-false _ c.if-not-r.false) _ (sym c.in-Some.ensures.0) c.in-Some.ensures.1)

pub returns-then-count-ge-MAX_ROWS : goal.returns-then-count-ge-MAX_ROWS
returns-then-count-ge-MAX_ROWS c =
    rw c.no_row-then-count-ge-MAX_ROWS.ensures
    (put_full (row_of c.args.row) c.args.nesting c.args.rows.now (stands c.args.r) c.requires
    (not-false _ c.if-not-r.false) _ refl c.in_default.ensures c.if-count-ge-MAX_ROWS.true)

pub returns : goal.returns
returns c =
    let put = rw c.into.ensures at c.put_record.ensures in
    rw c.at_row-2.ensures
    (put_added (row_of c.args.row) c.args.nesting c.args.rows.now (stands c.args.r) c.requires
    (not-false _ c.if-not-r.false) _ refl c.in_default.ensures _ (omega arith) put)
