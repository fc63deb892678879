-- `selection::is_included` meets its contract: the pair of a turn is that of the next node.
use Prim.Native.Nat.{◌<◌}
use mathlib.Core.Path.{◌≡◌, refl, sym, ◌∙◌}
use native.Mathlib.Omega.{arith}
use lib.ListN.{length, get_or, take, length-take}
use Rattle.std.proofs.lemmas.List.{length_push, get_or-take}
use Rattle.std.proofs.lemmas.Slice.Zip.{zip_turn, zip_end}
use Rattle.common.specs.Bounded.{all_below}
use Rattle.selection.proofs.Folds.{all_more}
use Rattle.selection.proofs.Marks.{mark_included}
use Rattle.selection.proofs.evaluation.is_included.Invariants.{test}
use Rattle.selection.proofs.evaluation.is_included.Goals as goal

pub loop-left-init : goal.loop-left-init
unfolding all_below
loop-left-init c = refl

pub loop-left-preserved : goal.loop-left-preserved
loop-left-preserved c =
    let a = c.args in
    let l = c.loop-left in
    let k = length l.yielded in
    let ks = take a.n a.a.now in
    let vs = take a.n a.b.now in
    let t =
    zip_turn ks vs l.yielded c.into_iter-left-iterator.result l.left-iterator c.next.new.self c.next.result (cc) (cc)
    l.yielded_by
    (c.in-Some.left, c.in-Some.right) c.in-Some.is c.next.ensures.steps in
    let inside : k < a.n = omega (arith, t.0, length-take a.n a.a.now) in
    let p : c.in-Some.left.now ≡ get_or a.a.now k 0 = t.2 0 ∙ get_or-take a.n a.a.now k 0 inside in
    let q : c.in-Some.right.now ≡ get_or a.b.now k 0 = t.3 0 ∙ get_or-take a.n a.b.now k 0 inside in
    let both = mark_included _ _ (c.requires.marks.0 k inside) (c.requires.marks.1 k inside) in
    rw (length_push l.yielded (c.in-Some.left, c.in-Some.right), l.invariant, p, q, both)
    (sym (all_more (test a.a.now a.b.now) k))

pub returns : goal.returns
returns c =
    let a = c.args in
    let l = c.loop-left in
    let ks = take a.n a.a.now in
    let vs = take a.n a.b.now in
    let left : length ks ≡ a.n = rw length-take (omega arith) in
    let right : length vs ≡ a.n = rw length-take (omega arith) in
    let t =
    zip_end ks vs l.yielded c.into_iter-left-iterator.result l.left-iterator c.next.new.self c.next.result (cc) (cc)
    l.yielded_by c.in-None.is c.next.ensures.steps in
    let e : a.n ≡ length l.yielded = omega (arith, t, left, right) in
    rw e l.invariant
