-- The column adds up to the total.
use Prim.Native.Nat.{ℕ, zero, suc, ◌+◌, ◌*◌, ◌≤◌, ◌<◌}
use mathlib.Core.Path.{◌≡◌, refl, ap, ◌∙◌}
use mathlib.Core.Bool.{Bool, cond}
use mathlib.Core.List.{List, [], ◌∷◌}
use mathlib.Core.Logic.{⊎_elim}
use native.Mathlib.Omega.{arith}
use lib.Dec.{eqb}
use lib.ListN.{length}
use borrow.Author.Tests.{eq-eqb, ne_eqb}
use Rattle.common.specs.Lists.{Every}
use Rattle.common.proofs.Reflect.{eq_or_ne}
use Rattle.common.proofs.Tests.{at_most_one}
use Rattle.rules.specs.Yields.{max_rule}
use Rattle.calls.specs.Book.{Step, max_steps}
use Rattle.calls.specs.Uses.{uses_of}
use Rattle.tallies.specs.Count.{File, counted_steps, uses, total, each_from, each_rule, sum}
use Rattle.tallies.proofs.Each.{sum_zero, sum_plus}
use Rattle.tallies.proofs.RulesHeld.{RuleHeld, rules_held, few_counted}

-- 1 for rule m, 0 for another
abbrev if_rule : ℕ → ℕ → ℕ
if_rule m n = cond (eqb m n) 1 0

no_use : (m n : ℕ) → ¬ (m ≡ n) → if_rule m n ≡ 0
no_use m n f = ap (λ (b : Bool). cond b 1 0) (ne_eqb m n f)

one_use : (m n : ℕ) → m ≡ n → if_rule m n ≡ 1
one_use m n e = ap (λ (b : Bool). cond b 1 0) (eq-eqb m n e)

-- a rule before those of the list, and one of the list
sum_before : (m r k : ℕ) → m < r → sum (each_from r k (if_rule m)) ≡ 0
unfolding each_from sum
sum_before m r zero h = refl
sum_before m r (suc k) h = omega (arith, no_use m r (λ e. omega arith), sum_before m (suc r) k (omega arith))

sum_within : (m r k : ℕ) → r ≤ m → m < r + k → sum (each_from r k (if_rule m)) ≡ 1
unfolding each_from sum
sum_within m r zero h l = absurd (omega arith)
sum_within m r (suc k) h l =
    ⊎_elim
    (λ e. omega (arith, one_use m r e, sum_before m (suc r) k (omega arith)))
    (λ f. omega (arith, no_use m r f, sum_within m (suc r) k (further f) (omega arith)))
    (eq_or_ne m r)
  where
    further : ¬ (m ≡ r) → suc r ≤ m
    further f = omega arith

steps_add_up : (ps : List Step) → Every RuleHeld ps → sum (each_rule (λ r. uses_of r ps)) ≡ length ps
unfolding uses_of
steps_add_up [] h = sum_zero 1 max_rule
steps_add_up (p ∷ ps) h =
    let (from, to) = h.0 in
    let one = sum_within p.rule 1 max_rule from (omega arith) in
    let others = steps_add_up ps h.1 in
    sum_plus 1 max_rule (if_rule p.rule) (λ r. uses_of r ps) ∙ omega (arith, one, others)

pub column_adds_up : (fs : List File) → sum (each_rule (λ r. uses r fs)) ≡ total fs
unfolding uses total
column_adds_up [] = sum_zero 1 max_rule
column_adds_up (f ∷ fs) =
    let first = steps_add_up (counted_steps f) (rules_held f) in
    let others = column_adds_up fs in
    sum_plus 1 max_rule (λ r. uses_of r (counted_steps f)) (λ r. uses r fs) ∙ omega (arith, first, others)

-- no rule has more uses than there are steps, and 64 bundles have few steps
uses_few : (r : ℕ) (ps : List Step) → uses_of r ps ≤ length ps
unfolding uses_of
uses_few r [] = omega arith
uses_few r (p ∷ ps) = omega (arith, at_most_one (eqb p.rule r), uses_few r ps)

pub uses_below : (r : ℕ) (fs : List File) → uses r fs ≤ total fs
unfolding uses total
uses_below r [] = omega arith
uses_below r (f ∷ fs) = omega (arith, uses_few r (counted_steps f), uses_below r fs)

pub total_few : (fs : List File) → total fs ≤ max_steps * length fs
unfolding total
total_few [] = omega arith
total_few (f ∷ fs) = omega (arith, few_counted f, total_few fs)
