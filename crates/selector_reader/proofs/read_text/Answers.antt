-- `read_text` meets its contract: a refused text leaves the table that was given.
use native.Mathlib.Omega.{arith}
use borrow.Author.Rules.{rules}
use Rattle.terms.specs.Row.{table_of}
use Rattle.terms.proofs.RowsKept.{none_kept}
use Rattle.selector_reader.proofs.TextLaws.{read_refused, read_accepted}
use Rattle.selector_reader.proofs.read_text.Goals as goal

pub invariant_of-table : goal.invariant_of-table
unfolding table_of
invariant_of-table c =
    let k = c.args.table.now.kept in
    record { few = omega arith; kept = none_kept _ _ k.nested.size k.filtered.size }

pub invariant_of-table-in-Err : goal.invariant_of-table-in-Err
unfolding table_of
invariant_of-table-in-Err c =
    let k = c.args.table.now.kept in
    record { few = omega arith; kept = none_kept _ _ k.nested.size k.filtered.size }

pub returns-in-Err-clause-read : goal.returns-in-Err-clause-read
returns-in-Err-clause-read c =
    let a = c.args in
    read_refused a.s.now a.names.now a.table.now.numbers a.count c.min-held.result (omega (arith, c.min-held.ensures))
    (record { size = search rules; bound = omega (arith, c.min-held.ensures) })
    _ c.read_listed.result c.read_listed.ensures _ c.in-Err.is

pub returns-in-Ok-clause-read : goal.returns-in-Ok-clause-read
returns-in-Ok-clause-read c =
    let a = c.args in
    read_accepted a.s.now a.names.now a.table.now.numbers a.count c.min-held.result (omega (arith, c.min-held.ensures))
    (record { size = search rules; bound = omega (arith, c.min-held.ensures) })
    _ c.read_listed.result c.read_listed.ensures _ c.in-Ok.is
