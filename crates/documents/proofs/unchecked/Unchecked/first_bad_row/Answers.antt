-- `first_bad_row` meets its contract: no row before is bad.
use Rattle.std.proofs.Common.{ℕ, ◌≡◌, ◌+◌, ◌-◌, Bool, true, false, suc, length, refl, sym, ap, subst}
use Rattle.std.proofs.Common.{◌∙◌, arith}
use Rattle.std.proofs.lemmas.List.{length-replicate}
use Rattle.xpath.specs.Document.{row_ok_by}
use Rattle.xpath.specs.Climb.{climb_met}
use Rattle.xpath.specs.represent.Check.{closed_before}
use Rattle.xpath.proofs.Ends.{filled_with}
use Rattle.documents.specs.Checks.{listed}
use Rattle.documents.proofs.Passing.{root_passed, row_passed, root_found, row_found, none_found}
use Rattle.documents.proofs.unchecked.Unchecked.first_bad_row.Goals as goal

pub returns-then-not-root_ok : goal.returns-then-not-root_ok
returns-then-not-root_ok c =
    let s = c.args.self.now in
    root_found _ _ _ s.even _ c.requires.some (sym c.root_ok.ensures ∙ c.if-not-root_ok.true)

pub loop-i-init : goal.loop-i-init
loop-i-init c =
    let s = c.args.self.now in
    record {
      size = ap length c.requires.open ∙ length-replicate {A = ℕ} _ _;
      passed = root_passed _ _ _ s.even _ (sym c.root_ok.ensures ∙ c.if-not-root_ok.false);
    }

pub returns-then-not-later_row_ok : goal.returns-then-not-later_row_ok
returns-then-not-later_row_ok c =
    let l = c.loop-i in
    let s = c.args.self.now in
    let q : suc (l.i - 1) ≡ l.i = omega arith in
    let fails = sym c.later_row_ok.ensures.value ∙ c.if-not-later_row_ok.true in
    row_found _ _ _ s.even _ _ _ _ l.invariant.passed (omega arith)
    (subst (λ (i : ℕ). row_ok_by climb_met (listed s) i ≡ false) q fails)

pub loop-i-preserved : goal.loop-i-preserved
loop-i-preserved c =
    let l = c.loop-i in
    let s = c.args.self.now in
    let q : suc (l.i - 1) ≡ l.i = omega arith in
    let ok = sym c.later_row_ok.ensures.value ∙ c.if-not-later_row_ok.false in
    record {
      size = c.later_row_ok.auto.ends ∙ l.invariant.size;
      passed = row_passed _ _ _ s.even _ _ _ _ l.invariant.passed
          (subst (λ (i : ℕ). row_ok_by climb_met (listed s) i ≡ true) q ok)
          (subst (λ (i : ℕ). c.later_row_ok.new.ends ≡ closed_before (listed s) i l.ends) q
          c.later_row_ok.ensures.ends_after);
    }

pub returns : goal.returns
returns c =
    let l = c.loop-i in
    let s = c.args.self.now in
    none_found _ _ _ s.even _ _ _ l.invariant.passed c.requires.some (omega arith)
    (rw c.requires.open (filled_with _ _ (omega arith))) l.invariant.size
