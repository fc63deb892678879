-- `run` meets its contract: the line that ends it is the first not taken of those that are left.
use Prim.Native.Nat.{◌+◌}
use mathlib.Core.Path.{◌∙◌}
use native.Mathlib.Omega.{arith}
use borrow.Author.Tests.{tests}
use lib.ListN.{length}
use Rattle.std.proofs.Common.{rules}
use Rattle.std.specs.Slice.Iter.{split_inclusive_rest, split_inclusive_callee}
use Rattle.std.proofs.lemmas.List.{length_push}
use Rattle.std.proofs.lemmas.List.Sorted.{answers_always}
use Rattle.common.proofs.Errors.{err_is}
use Rattle.common.proofs.Results.{none_by_ok_or}
use Rattle.script.proofs.EachLine.{turn, no_turn}
use Rattle.script_replay.proofs.Ending.{no_line_left, line_ends, line_passed}
use Rattle.script_replay.proofs.run.Goals as goal

pub returns-in_err-read : goal.returns-in_err-read
returns-in_err-read c =
    let l = c.loop-i in
    let t = turn _ split_inclusive_rest split_inclusive_callee c.args.input.now _ (cc) (cc)
    (answers_always _ _ _ (λ f a r q k. search (rules, tests))) l.yielded _ l.yielded_by _ _ _ c.in-Some.is
    c.next.ensures.steps in
    let no = none_by_ok_or c.filter.result (c.in-Some.i + 1) _ c.in_err-read.ensures.value in
    let ends = line_ends c.args.style (length l.yielded + 1) _ _ c.in-Some.line.now _ t.line.alone t.line.there
    c.call_at.result c.filter.result c.call_at.ensures _ c.filter.ensures (λ r b w. search rules) no.0 in
    rw (err_is c.from_residual.result c.from_residual.ensures.1, no.1, t.place) (l.invariant ∙ ends, omega arith)

pub loop-i-preserved : goal.loop-i-preserved
loop-i-preserved c =
    let l = c.loop-i in
    let t = turn _ split_inclusive_rest split_inclusive_callee c.args.input.now _ (cc) (cc)
    (answers_always _ _ _ (λ f a r q k. search (rules, tests))) l.yielded _ l.yielded_by _ _ _ c.in-Some.is
    c.next.ensures.steps in
    let passed = line_passed c.args.style (length l.yielded + 1) _ _ c.in-Some.line.now _ t.line.alone t.line.there
    c.call_at.result c.filter.result c.call_at.ensures _ c.filter.ensures (λ r b w. search rules) _
    c.in_ok-read.ensures.ok_part in
    rw (length_push l.yielded (c.in-Some.i, c.in-Some.line)) (l.invariant ∙ passed)

pub returns : goal.returns
returns c =
    let l = c.loop-i in
    let e = no_turn _ split_inclusive_rest split_inclusive_callee c.args.input.now _ (cc) (cc)
    (answers_always _ _ _ (λ f a r q k. search (rules, tests))) l.yielded _ l.yielded_by _ _ c.in-None.is
    c.next.ensures.steps in
    l.invariant ∙ no_line_left _ _ _ e
