-- `number_at` meets its contract. The loop's invariant: the number at `at` is the value so far with the digits from i
-- on, counted behind the first.
use mathlib.Core.Path.{sym, ap, ◌∙◌}
use native.Mathlib.Omega.{arith}
use lib.ListN.{length, get_or}
use mathlib.Core.Option.{some}
use Rattle.lines.specs.private.NumbersRead.{number_before}
use Rattle.lines.proofs.Scan.{nothing_there, no_digit_there, digit_there, length_there, rest_there}
use Rattle.lines.proofs.Scan.{end_there, stops_there, goes_on_there, first_digit_fits, one_more_fits, scan_past}
use Rattle.lines.proofs.number_at.Goals as goal

pub returns-in_err-first : goal.returns-in_err-first
returns-in_err-first c =
    rw c.from_residual.ensures
    (nothing_there _ _ _ (sym (ap length c.rest.ensures) ∙ c.in_err-first.ensures.cases))

pub returns-in_err-value : goal.returns-in_err-value
returns-in_err-value c =
    rw c.from_residual-in_err-value.ensures
    (no_digit_there _ _ _ _ _ (sym c.rest.ensures ∙ c.in_ok-first.ensures.cases.0) c.in_err-value.ensures)

pub loop-i-init : goal.loop-i-init
loop-i-init c =
    let a = c.args in (
      first_digit_fits a.most a.end c.in_ok-first.first.now _ c.in_ok-value.ensures,
      digit_there _ _ _ _ _ (sym c.rest.ensures ∙ c.in_ok-first.ensures.cases.0) _ c.in_ok-value.ensures,
    )

pub returns-then-b-end : goal.returns-then-b-end
returns-then-b-end c =
    let a = c.args in
    let l = c.loop-i in
    let others = c.in_ok-first.others.now in
    let is = sym c.rest.ensures ∙ c.in_ok-first.ensures.cases.0 in
    let here = end_there a.most a.end _ others l.i l.value c.loop-i-test.true l.invariant.1 c.if-b-end.true in
    record {
      number = sym (here ∙ ap (λ r. some (number_before l.value r)) (rest_there a.bytes.now others a.at _ is l.i));
      fits = l.invariant.0;
      right = (omega arith, omega (arith, length_there a.bytes.now others a.at _ is));
    }

pub returns-in_err-value-2 : goal.returns-in_err-value-2
returns-in_err-value-2 c =
    let a = c.args in
    let l = c.loop-i in
    rw c.from_residual-in_err-value-2.ensures
    (sym (stops_there a.most a.end _ c.in_ok-first.others.now l.i l.value c.loop-i-test.true l.invariant.1
    c.if-b-end.false c.in_err-value-2.ensures))

pub loop-i-preserved : goal.loop-i-preserved
loop-i-preserved c =
    let a = c.args in
    let l = c.loop-i in
    let others = c.in_ok-first.others.now in (
      one_more_fits a.most l.value (get_or others l.i 0) _ c.in_ok-value-2.ensures,
      goes_on_there a.most a.end _ others l.i l.value c.loop-i-test.true l.invariant.1 c.if-b-end.false _
          c.in_ok-value-2.ensures,
    )

pub returns : goal.returns
returns c =
    let l = c.loop-i in
    sym (l.invariant.1 ∙ scan_past _ _ c.in_ok-first.others.now l.i l.value (omega (arith, l.auto.i-end)))
