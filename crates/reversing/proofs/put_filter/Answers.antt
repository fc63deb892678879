-- `put_filter` meets its contract: `.`, and the filter over it.
use mathlib.Core.Path.{subst}
use Rattle.std.proofs.Common.{Some, None}
use Rattle.terms.specs.Row.{Row}
use Rattle.selector_grammar.specs.Denotes.{put}
use Rattle.reversing.specs.private.RowsPut.{PutMet}
use Rattle.reversing.proofs.RowsPut.{dot_full, filter_met}
use Rattle.reversing.proofs.put_filter.Goals as goal

pub returns-in_err-dot : goal.returns-in_err-dot
returns-in_err-dot c =
    let s = c.args.held.now in
    let u = c.put.new.held in
    rw c.from_residual.ensures
    (dot_full c.args.f (s.numbers, s.count) (u.numbers, u.count)
    (subst (λ (r : Row). PutMet (λ rs. put rs r) (s.numbers, s.count) (u.numbers, u.count) None) c.step_row.ensures
    c.in_err-dot.ensures))

pub returns : goal.returns
returns c =
    let s = c.args.held.now in
    let u = c.put.new.held in
    let w = c.put-2.new.held in
    filter_met c.args.f (s.numbers, s.count) (u.numbers, u.count) c.in_ok-dot.dot
    (subst (λ (r : Row). PutMet (λ rs. put rs r) (s.numbers, s.count) (u.numbers, u.count) (Some c.in_ok-dot.dot))
    c.step_row.ensures c.in_ok-dot.ensures)
    (w.numbers, w.count) c.put-2.result c.put-2.ensures
