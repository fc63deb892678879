-- The order of bundles: the steps in turn, rule first, then left and right, as terms.
use Rattle.std.specs.Prelude.{ℕ, List, [], ◌∷◌, map}
use Rattle.terms.specs.Row.{Row}
use Rattle.terms.specs.Terms.{Term, term_at}
use Rattle.calls.specs.Book.{Step, Book}
use Rattle.term_order.specs.Order.{Order, less, equal, greater, ◌and_then◌, number_order}
use Rattle.term_order.specs.TermOrder.{term_order}

-- a step as terms; its premises' numbers don't count
pub record TermStep : Type 0 where
  pub rule : ℕ
  pub left : Term
  pub right : Term

unfoldable pub term_step : List Row → Step → TermStep
term_step rs p = record { rule = p.rule; left = term_at rs p.left; right = term_at rs p.right }

unfoldable pub step_order : TermStep → TermStep → Order
step_order p q =
    number_order p.rule q.rule
    and_then term_order p.left q.left
    and_then term_order p.right q.right

-- a list that begins the other is less
unfoldable pub steps_order : List TermStep → List TermStep → Order
steps_order [] [] = equal
steps_order [] (q ∷ qs) = less
steps_order (p ∷ ps) [] = greater
steps_order (p ∷ ps) (q ∷ qs) = step_order p q and_then steps_order ps qs

-- a book's steps as terms; rows that no step uses don't count
unfoldable pub term_steps : Book → List TermStep
term_steps b = map (term_step b.rows) b.steps

unfoldable pub bundle_order : Book → Book → Order
bundle_order b c = steps_order (term_steps b) (term_steps c)
