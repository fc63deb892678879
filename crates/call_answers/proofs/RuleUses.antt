-- The uses of a rule, counted step by step.
use Prim.Native.Nat.{ℕ, ◌+◌}
use mathlib.Core.Path.{◌≡◌, refl}
use mathlib.Core.Bool.{Bool, true, false, cond}
use mathlib.Core.List.{List}
use native.Mathlib.Omega.{arith}
use lib.Dec.{eqb}
use lib.ListN.{get_or}
use Rattle.std.proofs.Common.{map, count_by}
use Rattle.std.proofs.lemmas.List.Recursion.{is_count_by}
use Rattle.calls.specs.Book.{step_of_numbers}
use Rattle.calls.specs.Uses.{uses_of}

counted_in : (b : Bool) (m : ℕ) → cond b 1 0 + m ≡ cond b (1 + m) m
counted_in true m = refl
counted_in false m = omega arith

-- the first number of a step is its rule
pub uses_counted : (n : ℕ) (ps : List (List ℕ)) → uses_of n (map step_of_numbers ps)
    ≡ count_by (λ p. eqb (get_or p 0 0) n) ps
unfolding uses_of
uses_counted n ps = is_count_by (λ ps. uses_of n (map step_of_numbers ps)) (λ p. eqb (get_or p 0 0) n) refl
    (λ p ps. counted_in (eqb (get_or p 0 0) n) (uses_of n (map step_of_numbers ps))) ps
