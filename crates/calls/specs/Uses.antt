-- The uses of a rule among steps.
use Rattle.std.specs.Prelude.{ℕ, ◌+◌, cond, List, [], ◌∷◌, eqb}
use Rattle.calls.specs.Book.{Step}

-- how many of the steps are held by rule n
unfoldable pub uses_of : (n : ℕ) → List Step → ℕ
uses_of n [] = 0
uses_of n (p ∷ ps) = cond (eqb p.rule n) 1 0 + uses_of n ps
