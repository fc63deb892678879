-- What a path selects from a context node, and where a qualifier holds.
use Rattle.std.specs.Prelude.{ℕ, Bool, true, false, not, ◌&&◌, ◌||◌, List, ltb, eqb, length}
use Rattle.common.specs.Bounded.{any_below, all_below, list_below}
use Rattle.xpath.specs.Document.{Document}
use Rattle.xpath.specs.Axis.{on_axis, passes}
use Rattle.xpath.specs.Term.{Path, Qualifier, Void, Root, AxisStep, Union, Composition, Filter, True, False, Not}
use Rattle.xpath.specs.Term.{And, Or, In}

unfoldable mutual
  -- from x, the path selects y: a row of the document, never a number beyond it
  pub selects : Document → Path → ℕ → ℕ → Bool
  selects d Void x y = false
  selects d Root x y = ltb y (length d) && eqb y 0
  selects d (AxisStep a t c) x y = ltb y (length d) && (on_axis a d x y && passes a t c d y)
  selects d (Union p q) x y = selects d p x y || selects d q x y
  selects d (Composition p q) x y = any_below (length d) (λ z. selects d p x z && selects d q z y)
  selects d (Filter p f) x y = selects d p x y && holds d f y

  -- the qualifier is true at x
  pub holds : Document → Qualifier → ℕ → Bool
  holds d True x = true
  holds d False x = false
  holds d (Not f) x = not (holds d f x)
  holds d (And f g) x = holds d f x && holds d g x
  holds d (Or f g) x = holds d f x || holds d g x
  holds d (In p q) x = all_below (length d) (λ y. not (selects d p x y) || selects d q x y)

-- the nodes that p selects from x, in document order
unfoldable pub nodes : Document → Path → ℕ → List ℕ
nodes d p x = list_below (length d) (selects d p x)
