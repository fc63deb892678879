-- The visits that an evaluation makes.
use Rattle.std.specs.Prelude.{ℕ, ◌+◌, cond, length}
use Rattle.common.specs.Bounded.{sum_below}
use Rattle.xpath.specs.Document.{Document}
use Rattle.xpath.specs.Meaning.{selects}
use Rattle.xpath.specs.Term.{Path, Qualifier, Void, Root, AxisStep, Union, Composition, Filter, True, False, Not}
use Rattle.xpath.specs.Term.{And, Or, In}

-- a leaf costs 1, another term 1 + its operands; the second operand of p/q and of p[f] counts once for each node that
-- p selects
unfoldable mutual
  pub visits : Document → Path → ℕ → ℕ
  visits d Void x = 1
  visits d Root x = 1
  visits d (AxisStep a t c) x = 1
  visits d (Union p q) x = 1 + (visits d p x + visits d q x)
  visits d (Composition p q) x = 1 +
      (visits d p x + sum_below (length d) (λ z. cond (selects d p x z) (visits d q z) 0))
  visits d (Filter p f) x =
      1 + (visits d p x + sum_below (length d) (λ z. cond (selects d p x z) (qualifier_visits d f z) 0))

  pub qualifier_visits : Document → Qualifier → ℕ → ℕ
  qualifier_visits d True x = 1
  qualifier_visits d False x = 1
  qualifier_visits d (Not f) x = 1 + qualifier_visits d f x
  qualifier_visits d (And f g) x = 1 + (qualifier_visits d f x + qualifier_visits d g x)
  qualifier_visits d (Or f g) x = 1 + (qualifier_visits d f x + qualifier_visits d g x)
  qualifier_visits d (In p q) x = 1 + (visits d p x + visits d q x)
