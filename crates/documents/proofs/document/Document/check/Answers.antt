-- `check` meets its contract, in the order of the definition.
use Rattle.std.proofs.Common.{◌≡◌, ◌≤◌, ◌<◌, length, refl, arith}
use mathlib.Core.Option.{none, some}
use Rattle.documents.specs.Documents.{rows_in, most_rows}
use Rattle.documents.proofs.Fields.{rows_length}
use Rattle.documents.proofs.Passing.{refused_none, refused_many, refused_first, first_below_length}
use Rattle.documents.proofs.document.Document.check.Goals as goal

pub returns-then-n-eq0 : goal.returns-then-n-eq0
returns-then-n-eq0 c =
    let e = c.args.rows.even in
    let l = rows_length _ _ _ e.parents_size e.names_size in
    refused_none (rows_in c.args.rows) (omega (arith, l))

pub returns-then-n : goal.returns-then-n
returns-then-n c =
    let e = c.args.rows.even in
    let l = rows_length _ _ _ e.parents_size e.names_size in
    refused_many (rows_in c.args.rows) (λ z. c.if-n-eq0.false (omega (arith, l, z))) (omega (arith, l))

pub overflow_cast-result : goal.overflow_cast-result
overflow_cast-result c =
    let e = c.args.rows.even in
    let l = rows_length _ _ _ e.parents_size e.names_size in
    let u = c.unchecked.ensures in
    let f = rw (u.kinds, u.parents, u.names) at c.in-Some.ensures.first in
    let h = first_below_length (rows_in c.args.rows) c.in-Some.bad f in
    omega (arith, l, h)

pub returns-in-Some : goal.returns-in-Some
returns-in-Some c =
    let e = c.args.rows.even in
    let l = rows_length _ _ _ e.parents_size e.names_size in
    let u = c.unchecked.ensures in
    refused_first (rows_in c.args.rows) (λ z. c.if-n-eq0.false (omega (arith, l, z))) (omega (arith, l)) _
    (rw (u.kinds, u.parents, u.names) at c.in-Some.ensures.first)

pub returns-in-None : goal.returns-in-None
returns-in-None c =
    let e = c.args.rows.even in
    let l = rows_length _ _ _ e.parents_size e.names_size in
    let u = c.unchecked.ensures in (
      refused_first (rows_in c.args.rows) (λ z. c.if-n-eq0.false (omega (arith, l, z))) (omega (arith, l)) _
          (rw (u.kinds, u.parents, u.names) at c.in-None.ensures.first),
      refl,
    )
