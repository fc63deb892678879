-- `listed` meets its contract. The loop's invariant: the line has the numbers so far and goes on at `from`.
use mathlib.Core.Path.{refl, sym, ap, subst, ◌∙◌}
use native.Mathlib.Omega.{arith}
use lib.ListN.{length, length-append}
use Rattle.lines.proofs.Parts.{PartsMet}
use Rattle.script.specs.Command.{all_numbers}
use Rattle.script.specs.private.CommandRead.{items}
use Rattle.script.proofs.Numbers.{SoFar, no_number_yet, one_more_number, last_of_all}
use Rattle.script.proofs.Calls.{list_call}
use Rattle.script.proofs.Lists.{no_number_there, no_room}
use Rattle.script.proofs.listed.Goals as goal

pub loop-init : goal.loop-init
loop-init g c =
    let a = c.args in
    rw c.new-numbers.ensures (refl, no_number_yet a.bytes.now a.at)

pub returns-in_err-last : goal.returns-in_err-last
returns-in_err-last g c =
    let a = c.args in
    let l = c.loop in
    rw c.from_residual.ensures
    (λ word s made. no_number_there word a.most s a.bytes.now a.at l.from (items l.numbers) l.invariant.1
    c.in_default.ensures c.in_err-last.ensures)

pub returns-in_default : goal.returns-in_default
returns-in_default g c =
    let a = c.args in
    let l = c.loop in
    λ word s made. list_call word a.most s a.bytes.now a.at _ _
    (subst (λ ns. PartsMet all_numbers a.bytes.now a.at ns c.in_ok-last.last.next) (sym c.push.ensures)
    (last_of_all a.bytes.now a.at l.from (items l.numbers) l.invariant.1 _ _ c.in_ok-last.ensures))
    (omega (arith, ap length c.push.ensures ∙ length-append (items l.numbers) _, l.invariant.0, c.loop-test.true))
    _ (made _ _ c.make.ensures)

pub loop-preserved : goal.loop-preserved
loop-preserved g c =
    let a = c.args in
    let l = c.loop in (
      omega (arith, ap length c.push-in-loop.ensures ∙ length-append (items l.numbers) _, l.invariant.0),
      subst (SoFar a.bytes.now a.at c.in-Some.more.next) (sym c.push-in-loop.ensures)
          (one_more_number a.bytes.now a.at l.from (items l.numbers) l.invariant.1 _ _ c.in-Some.ensures),
    )

pub returns : goal.returns
returns g c =
    let a = c.args in
    let l = c.loop in
    λ word s made. no_room word a.most s a.bytes.now a.at l.from (items l.numbers) l.invariant.1
    (omega (arith, l.invariant.0, c.loop-test.false, l.auto.counter-end))
