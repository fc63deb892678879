-- `put_numbers` meets its contract: what is left of the line makes the whole with what is put.
use native.Mathlib.Omega.{arith}
use Rattle.bundles.proofs.Putting.{whole_line, all_rest, number_room, number_put, numbers_done, put_keeps}
use Rattle.bundles.proofs.writer.put_numbers.Goals as goal

pub loop-i-init : goal.loop-i-init
loop-i-init c = rw (whole_line c.args.numbers.now c.requires.0) (all_rest c.requires.1)

pub put_number-after-requires : goal.put_number-after-requires
put_number-after-requires c =
    let l = c.loop-i in
    let room = number_room c.args.numbers.now l.i c.loop-i-test.true l.invariant in
    omega arith

pub put_byte-end-requires : goal.put_byte-end-requires
put_byte-end-requires c =
    let l = c.loop-i in
    let room = number_room c.args.numbers.now l.i c.loop-i-test.true l.invariant in
    let put = c.put_number-after.ensures in
    omega (arith, put.position, put_keeps put)

pub loop-i-preserved : goal.loop-i-preserved
loop-i-preserved c =
    let l = c.loop-i in
    number_put c.args.numbers.now l.i c.loop-i-test.true l.invariant c.put_number-after.ensures c.byte_behind.ensures
    c.put_byte-end.ensures

pub returns : goal.returns
returns c =
    let l = c.loop-i in
    numbers_done c.args.numbers.now l.i c.loop-i-test.false l.invariant
