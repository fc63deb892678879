-- Steps read from lent numbers, and the steps of two bundles in turn.
use Prim.Native.Nat.{ℕ, ◌+◌, ◌<◌, min}
use mathlib.Core.Path.{◌≡◌, refl, sym, ap, ap₂, ◌∙◌}
use mathlib.Core.Bool.{true, false}
use mathlib.Core.List.{List, [], ◌∷◌, map}
use native.Mathlib.Numerals.{add-one}
use native.Mathlib.Omega.{arith}
use lib.ListN.{length, get_or, drop, drop_of_length-le, get_or-map, length-map}
use lib.Seq.{drop-cons}
use Rattle.std.specs.declared.cmp.Ordering.{Ordering}
use Rattle.std.specs.Ordering.{is_ne}
use Rattle.terms.specs.Row.{Row}
use Rattle.terms.specs.Terms.{term_at}
use Rattle.calls.specs.Book.{Step, step_of_numbers, no_step}
use Rattle.term_order.specs.Order.{Order, ◌and_then◌, number_order}
use Rattle.term_order.specs.TermOrder.{term_order}
use Rattle.term_order.specs.BundleOrder.{term_step, step_order, steps_order}
use Rattle.term_order.specs.private.FieldsCompared.{order_of}
use Rattle.term_order.proofs.Orders.{Numbers, below, alike, above, numbers}
use Rattle.term_order.proofs.Compared.{Three, decided, passed}

-- a step of those that are read from lent numbers
pub step_there : (ps : List (List ℕ)) (qs : List Step) (k : ℕ) {xs : List ℕ} {p : Step} → p ≡ step_of_numbers xs
    → xs ≡ get_or ps k [] → map step_of_numbers ps ≡ qs → p ≡ get_or qs k no_step
step_there ps qs k e f g =
    e ∙ ap step_of_numbers f ∙ sym (get_or-map step_of_numbers ps k []) ∙ ap (λ qs. get_or qs k no_step) g

pub steps_there : (ps : List (List ℕ)) (qs : List Step) → map step_of_numbers ps ≡ qs → length ps ≡ length qs
steps_there ps qs g = sym (length-map ps step_of_numbers) ∙ ap length g

-- two steps, of rows rs and ss: their rules, then their left and right rows
pub by_rows : (rs ss : List Row) (p q : Step) → Three (step_order (term_step rs p) (term_step ss q))
    (number_order p.rule q.rule) (term_order (term_at rs p.left) (term_at ss q.left))
    (term_order (term_at rs p.right) (term_at ss q.right))
unfolding step_order term_step
by_rows rs ss p q = record { is = refl }

-- the steps from k on
module _ (rs ss : List Row) (ps qs : List Step) where
  abbrev pub from : ℕ → Order
  from k = steps_order (map (term_step rs) (drop k ps)) (map (term_step ss) (drop k qs))

  abbrev pub at : ℕ → Order
  at k = step_order (term_step rs (get_or ps k no_step)) (term_step ss (get_or qs k no_step))

  from_step : (k : ℕ) → k < length ps → k < length qs → from k ≡ (at k and_then from (k + 1))
  unfolding steps_order
  from_step k h g =
      ap₂ (λ us vs. steps_order (map (term_step rs) us) (map (term_step ss) vs))
      (drop-cons ps k no_step h ∙ ap (λ n. get_or ps k no_step ∷ drop n ps) (sym (add-one k)))
      (drop-cons qs k no_step g ∙ ap (λ n. get_or qs k no_step ∷ drop n qs) (sym (add-one k)))

  pub step_decides : (k : ℕ) → k < length ps → k < length qs → (r : Ordering) → order_of r ≡ at k → is_ne r ≡ true
      → order_of r ≡ from k
  step_decides k h g r e n = decided (at k) _ r e n ∙ sym (from_step k h g)

  pub step_passes : (k : ℕ) → k < length ps → k < length qs → (r : Ordering) → order_of r ≡ at k → is_ne r ≡ false
      → from k ≡ from (k + 1)
  step_passes k h g r e n = from_step k h g ∙ passed (at k) (from (k + 1)) r e n

  -- where one list is at its end, the shorter is less
  pub ends : (k : ℕ) → k ≡ min (length ps) (length qs) → number_order (length ps) (length qs) ≡ from k
  unfolding steps_order
  ends k e = by (numbers (length ps) (length qs))
    where
      from_lists : {us vs : List Step} → drop k ps ≡ us → drop k qs ≡ vs
          → steps_order (map (term_step rs) us) (map (term_step ss) vs) ≡ from k
      from_lists eu ev =
          ap₂ (λ us vs. steps_order (map (term_step rs) us) (map (term_step ss) vs)) (sym eu) (sym ev)

      by : {o : Order} → Numbers (length ps) (length qs) o → o ≡ from k
      by (below h f) =
          f ∙ from_lists (drop_of_length-le ps {i = k} (omega arith)) (drop-cons qs k no_step (omega arith))
      by (alike h f) =
          f ∙ from_lists (drop_of_length-le ps {i = k} (omega arith)) (drop_of_length-le qs {i = k} (omega arith))
      by (above h f) =
          f ∙ from_lists (drop-cons ps k no_step (omega arith)) (drop_of_length-le qs {i = k} (omega arith))
