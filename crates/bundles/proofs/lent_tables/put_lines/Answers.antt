-- `put_lines` meets its contract: what is left of the lines makes the whole with what is put.
use native.Mathlib.Omega.{arith}
use Rattle.bundles.proofs.Putting.{all_rest, put_keeps}
use Rattle.bundles.proofs.LentTables.{lent_room, lent_put, lent_done}
use Rattle.bundles.proofs.lent_tables.put_lines.Goals as goal

pub loop-n-init : goal.loop-n-init
loop-n-init c = all_rest c.requires.1

pub put_number-after-requires : goal.put_number-after-requires
put_number-after-requires c =
    let l = c.loop-n in
    let a = c.args in
    let room = lent_room a.width l.left a.numbers.now l.n-index (omega arith) l.invariant in
    omega arith

pub put_byte-end-requires : goal.put_byte-end-requires
put_byte-end-requires c =
    let l = c.loop-n in
    let a = c.args in
    let room = lent_room a.width l.left a.numbers.now l.n-index (omega arith) l.invariant in
    let put = c.put_number-after.ensures in
    omega (arith, put.position, put_keeps put)

pub loop-n-preserved : goal.loop-n-preserved
loop-n-preserved c =
    let l = c.loop-n in
    let a = c.args in
    rw c.left_next-left.ensures
    (lent_put a.width l.left a.numbers.now l.n-index (omega arith) l.invariant c.put_number-after.ensures
    c.byte_after.ensures c.put_byte-end.ensures)

pub returns : goal.returns
returns c =
    let l = c.loop-n in
    let a = c.args in
    lent_done a.width l.left a.numbers.now l.n-index (omega arith) l.invariant
