-- `axis_head` meets its contract.
use mathlib.Core.Path.{sym, ◌∙◌}
use Rattle.common.proofs.Errors.{err_is}
use Rattle.common.proofs.Results.{none_by_ok_or, some_by_ok_or}
use Rattle.selector_heads.proofs.Headed.{axis_no, axis_one, axis_two, axis_none, axis_some}
use Rattle.selector_heads.proofs.Selector.axis_head.Goals as goal

pub returns-in_err-axis : goal.returns-in_err-axis
returns-in_err-axis c =
    let n = c.args.name in
    let (missing, place) = none_by_ok_or _ _ _ c.in_err-axis.ensures.value in
    rw (err_is c.from_residual.result c.from_residual.ensures.1, place)
    (axis_no c.args.self.s.now c.args.self.names.list.now n.start n.end n.after c.requires.name_at
    c.requires.colon_value (axis_none _ (rw missing at c.axis_of.ensures)))

pub returns-then-byte_at-ne58 : goal.returns-then-byte_at-ne58
returns-then-byte_at-ne58 c =
    let n = c.args.name in
    let there = some_by_ok_or _ _ _ c.in_ok-axis.ensures.value in
    axis_one c.args.self.s.now c.args.self.names.list.now n.start n.end n.after c.requires.name_at
    c.requires.colon_value (axis_some _ _ (rw there at c.axis_of.ensures)).0
    (λ e. c.if-byte_at-ne58.true (c.byte_at.ensures ∙ e))

pub returns : goal.returns
returns c =
    let n = c.args.name in
    let there = some_by_ok_or _ _ _ c.in_ok-axis.ensures.value in
    let z = axis_some _ _ (rw there at c.axis_of.ensures) in
    axis_two c.args.self.s.now c.args.self.names.list.now n.start n.end n.after c.requires.name_at
    c.requires.colon_value z.0 _ _ _ _ z.1 (sym c.byte_at.ensures ∙ c.if-byte_at-ne58.false)
    c.skip.ensures c.test_head.ensures
