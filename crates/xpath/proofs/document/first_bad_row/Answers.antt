-- `first_bad_row` meets its contract: the rows passed are as they must be.
use Rattle.std.proofs.Common.{◌≡◌, ◌∙◌, ℕ, suc, ◌-◌, ◌+◌, ◌<◌, min, List, length, sym, subst, arith}
use Rattle.xpath.specs.Document.{document_of, row_ok_by}
use Rattle.xpath.specs.Climb.{climb_met}
use Rattle.xpath.specs.represent.Check.{closed_before}
use Rattle.xpath.proofs.Rows.{Passed, none_passed, passed_on, root_passed, some_row, bad_found, all_passed}
use Rattle.xpath.proofs.Rows.{incomplete_found}
use Rattle.xpath.proofs.document.first_bad_row.Goals as goal

pub returns-then-not-root_ok : goal.returns-then-not-root_ok
returns-then-not-root_ok c =
    let fails = sym c.root_ok.ensures ∙ c.if-not-root_ok.true in
    bad_found _ _ 0 _ (none_passed _ _) (some_row _ fails) _ fails

pub loop-i-init : goal.loop-i-init
loop-i-init c = root_passed _ _ (sym c.root_ok.ensures ∙ c.if-not-root_ok.false)

-- at row i the first i are passed
passed_at : (xs es left : List ℕ) (i : ℕ) → i < length (document_of xs) →
    Passed xs es (min i (length (document_of xs))) left → Passed xs es i left
passed_at xs es left i l p =
    let e : min i (length (document_of xs)) ≡ i = omega arith in subst (λ (k : ℕ). Passed xs es k left) e p

pub returns-then-not-later_row_ok : goal.returns-then-not-later_row_ok
returns-then-not-later_row_ok c =
    let e = c.node_count-n.ensures in
    let l : c.loop-i.i < length (document_of c.args.d.now) = omega arith in
    let q : suc (c.loop-i.i - 1) ≡ c.loop-i.i = omega arith in
    let fails = sym c.later_row_ok.ensures.value ∙ c.if-not-later_row_ok.true in
    bad_found _ _ _ _ (passed_at _ _ _ _ l c.loop-i.invariant) l _
    (subst (λ (i : ℕ). row_ok_by climb_met (document_of c.args.d.now) i ≡ _) q fails)

pub loop-i-preserved : goal.loop-i-preserved
loop-i-preserved c =
    let e = c.node_count-n.ensures in
    let l : c.loop-i.i < length (document_of c.args.d.now) = omega arith in
    let q : suc (c.loop-i.i - 1) ≡ c.loop-i.i = omega arith in
    let ok = sym c.later_row_ok.ensures.value ∙ c.if-not-later_row_ok.false in
    let next : min (c.loop-i.i + 1) (length (document_of c.args.d.now)) ≡ suc c.loop-i.i = omega arith in
    rw next
    (passed_on _ _ _ _ (passed_at _ _ _ _ l c.loop-i.invariant) l _
    (subst (λ (i : ℕ). row_ok_by climb_met (document_of c.args.d.now) i ≡ _) q ok)
    (subst (λ (i : ℕ). c.later_row_ok.new.ends ≡ closed_before (document_of c.args.d.now) i c.loop-i.ends) q
    c.later_row_ok.ensures.ends_after))

pub returns-then-d-eq0 : goal.returns-then-d-eq0
returns-then-d-eq0 c =
    let e = c.node_count-n.ensures in
    all_passed _ _ _ _ c.loop-i.invariant (omega arith) c.if-d-eq0.true

pub returns-else-d-eq0 : goal.returns-else-d-eq0
returns-else-d-eq0 c =
    let e = c.node_count-n.ensures in
    let n : min c.loop-i.i (length (document_of c.args.d.now)) ≡ c.node_count-n.result = omega arith in
    rw n at (incomplete_found _ _ _ _ c.loop-i.invariant (omega arith) c.if-d-eq0.false)
