-- `make_lines` meets its contract: what is filed is what the lines that are left file.
use Prim.Native.Nat.{◌+◌}
use mathlib.Core.Path.{sym, ◌∙◌}
use borrow.Author.Tests.{tests}
use lib.ListN.{length}
use Rattle.std.proofs.Common.{rules}
use Rattle.std.specs.Slice.Iter.{split_inclusive_rest, split_inclusive_callee}
use Rattle.std.proofs.lemmas.List.{length_push}
use Rattle.std.proofs.lemmas.List.Sorted.{answers_always}
use Rattle.common.proofs.Errors.{err_is}
use Rattle.script.proofs.EachLine.{turn, no_turn}
use Rattle.script_bundle.proofs.LinesLaws.{no_line_left, line_refused_by, line_taken_by}
use Rattle.script_bundle.proofs.CallLaws.{filed_from_start}
use Rattle.script_bundle.proofs.make_lines.Goals as goal

pub loop-i-init : goal.loop-i-init
loop-i-init c = filed_from_start c.args.script.now c.args.filed.now c.requires

pub returns-in_err-map_err : goal.returns-in_err-map_err
returns-in_err-map_err c =
    let l = c.loop-i in
    let t = turn _ split_inclusive_rest split_inclusive_callee c.args.script.now _ (cc) (cc)
    (answers_always _ _ _ (λ f a r q k. search (rules, tests))) l.yielded _ l.yielded_by _ _ _ c.in-Some.is
    c.next.ensures.steps in
    let refused = c.in_err-map_err.ensures in
    let told = line_refused_by l.filed (c.in-Some.i + 1) _ _ c.in-Some.line.now _ t.line.alone t.line.there
    c.line.result _ c.line.ensures c.in_err-map_err.field-0.0 _ _ refused.cases (sym refused.variant)
    (λ k h. search rules) in
    rw (err_is c.from_residual.result c.from_residual.ensures.1) ((rw t.place at told) ∙ sym l.invariant)

pub loop-i-preserved : goal.loop-i-preserved
loop-i-preserved c =
    let l = c.loop-i in
    let t = turn _ split_inclusive_rest split_inclusive_callee c.args.script.now _ (cc) (cc)
    (answers_always _ _ _ (λ f a r q k. search (rules, tests))) l.yielded _ l.yielded_by _ _ _ c.in-Some.is
    c.next.ensures.steps in
    let passed = line_taken_by l.filed (length l.yielded + 1) _ _ c.in-Some.line.now _ t.line.alone t.line.there
    c.line.result _ c.line.ensures (sym c.in_ok-map_err.ensures.variant) in
    rw (length_push l.yielded (c.in-Some.i, c.in-Some.line)) (l.invariant ∙ passed)

pub returns : goal.returns
returns c =
    let l = c.loop-i in
    let e = no_turn _ split_inclusive_rest split_inclusive_callee c.args.script.now _ (cc) (cc)
    (answers_always _ _ _ (λ f a r q k. search (rules, tests))) l.yielded _ l.yielded_by _ _ c.in-None.is
    c.next.ensures.steps in
    no_line_left _ _ _ _ e ∙ sym l.invariant
