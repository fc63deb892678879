-- What holds of a step that a step call takes.
use Prim.Native.Nat.{◌≤◌, ◌<◌}
use mathlib.Core.Path.{◌≡◌}
use mathlib.Core.Bool.{Bool, true, not, ◌||◌}
use native.Mathlib.Omega.{arith}
use lib.Dec.{leb, ltb, eqb}
use lib.ListN.{length}
use borrow.Author.Tests.{ltb-false, leb-false, eqb-false, not-false}
use Rattle.std.proofs.lemmas.Bool.{or_parts}
use Rattle.rules.specs.Yields.{max_rule}
use Rattle.calls.specs.Book.{Step, max_steps, Book}
use Rattle.calls.specs.StepCall.{bad_side_of, bad_premise_of, step_answer_by}
use Rattle.calls.proofs.Accepted.{test_failed}

-- where the answer is 0, no refusal applies
pub record StepAccepted (y : Bool) (b : Book) (p : Step) : Type 0 where
  pub rule : (1 ≤ p.rule) × (p.rule ≤ max_rule)
  pub sides : bad_side_of b.rows p ≤ 0
  pub premises : bad_premise_of (length b.steps) p ≤ 0
  pub yielded : y ≡ true
  pub room : length b.steps < max_steps

pub step_accepted : (y : Bool) (b : Book) (p : Step) → (step_answer_by y b p).number ≡ 0 → StepAccepted y b p
unfolding step_answer_by
step_accepted y b p e =
    let t₁ = test_failed (eqb p.rule 0 || ltb max_rule p.rule) _ _ (omega arith) e in
    let t₂ = test_failed (ltb 0 (bad_side_of b.rows p)) _ _ (omega arith) t₁.1 in
    let t₃ = test_failed (ltb 0 (bad_premise_of (length b.steps) p)) _ _ (omega arith) t₂.1 in
    let t₄ = test_failed (not y) _ _ (omega arith) t₃.1 in
    let t₅ = test_failed (leb max_steps (length b.steps)) _ _ (omega arith) t₄.1 in
    let (not_zero, not-above) = or_parts (eqb p.rule 0) (ltb max_rule p.rule) t₁.0 in
    let some_rule : ¬ (p.rule ≡ 0) = eqb-false p.rule 0 not_zero in
    record {
      rule = (omega (arith, some_rule), ltb-false max_rule p.rule not-above);
      sides = ltb-false _ _ t₂.0;
      premises = ltb-false _ _ t₃.0;
      yielded = not-false y t₄.0;
      room = leb-false _ _ t₅.0;
    }
