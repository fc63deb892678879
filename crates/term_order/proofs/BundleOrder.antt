-- The order of lists of steps, as terms, is a total order.
use mathlib.Core.Path.{◌≡◌, refl, sym, ap, ap₂, ◌∙◌}
use mathlib.Core.List.{List, [], ◌∷◌}
use Rattle.term_order.specs.Order.{equal, ◌and_then◌, number_order}
use Rattle.term_order.specs.TermOrder.{term_order}
use Rattle.term_order.specs.BundleOrder.{TermStep, step_order, steps_order}
use Rattle.term_order.specs.OrderLaws.{reverse}
use Rattle.term_order.proofs.Orders.{Follows, follows_then, less_followed, greater_follows}
use Rattle.term_order.proofs.Orders.{reverse_then, both_equal, not_less, not_greater, Orders}
use Rattle.term_order.proofs.Orders.{numbers_ordered}
use Rattle.term_order.proofs.TermOrder.{terms_ordered}

step_same : (p : TermStep) → step_order p p ≡ equal
unfolding step_order
step_same p = rw (numbers_ordered.same p.rule, terms_ordered.same p.left, terms_ordered.same p.right)

step_equal : (p q : TermStep) → step_order p q ≡ equal → p ≡ q
unfolding step_order
step_equal p q e =
    let (e₀, e₁) = both_equal (number_order p.rule q.rule) _ e in
    let (e₂, e₃) = both_equal (term_order p.left q.left) _ e₁ in
    let same-rule = numbers_ordered.equal_same p.rule q.rule e₀ in
    let same_left = terms_ordered.equal_same p.left q.left e₂ in
    let same_right = terms_ordered.equal_same p.right q.right e₃ in
    λ i. record { rule = same-rule i; left = same_left i; right = same_right i }

step_reversed : (p q : TermStep) → step_order q p ≡ reverse (step_order p q)
unfolding step_order
step_reversed p q =
    rw (
      numbers_ordered.reversed p.rule q.rule,
      terms_ordered.reversed p.left q.left,
      terms_ordered.reversed p.right q.right,
    )
    (sym (reverse_then (number_order p.rule q.rule) _
    ∙ ap (λ o. reverse (number_order p.rule q.rule) and_then o) (reverse_then (term_order p.left q.left) _)))

step_follows : (p q r : TermStep) → Follows (step_order p q) (step_order q r) (step_order p r)
unfolding step_order
step_follows p q r =
    follows_then (number_order p.rule q.rule) _ _ _ _ _ (numbers_ordered.follows p.rule q.rule r.rule)
    (follows_then (term_order p.left q.left) _ _ _ _ _ (terms_ordered.follows p.left q.left r.left)
    (terms_ordered.follows p.right q.right r.right))

steps_same : (ps : List TermStep) → steps_order ps ps ≡ equal
unfolding steps_order
steps_same [] = refl
steps_same (p ∷ ps) = rw (step_same p, steps_same ps)

steps_equal : (ps qs : List TermStep) → steps_order ps qs ≡ equal → ps ≡ qs
unfolding steps_order
steps_equal [] [] e = refl
steps_equal [] (q ∷ qs) e = not_less e
steps_equal (p ∷ ps) [] e = not_greater e
steps_equal (p ∷ ps) (q ∷ qs) e =
    let (first, others) = both_equal (step_order p q) _ e in
    ap₂ ◌∷◌ (step_equal p q first) (steps_equal ps qs others)

steps_reversed : (ps qs : List TermStep) → steps_order qs ps ≡ reverse (steps_order ps qs)
unfolding steps_order
steps_reversed [] [] = refl
steps_reversed [] (q ∷ qs) = refl
steps_reversed (p ∷ ps) [] = refl
steps_reversed (p ∷ ps) (q ∷ qs) =
    rw (step_reversed p q, steps_reversed ps qs) (sym (reverse_then (step_order p q) (steps_order ps qs)))

steps_follow : (ps qs rs : List TermStep) → Follows (steps_order ps qs) (steps_order qs rs) (steps_order ps rs)
unfolding steps_order
steps_follow [] [] [] = refl
steps_follow [] [] (r ∷ rs) = refl
steps_follow [] (q ∷ qs) [] = tt
steps_follow [] (q ∷ qs) (r ∷ rs) = less_followed (steps_order (q ∷ qs) (r ∷ rs))
steps_follow (p ∷ ps) [] [] = refl
steps_follow (p ∷ ps) [] (r ∷ rs) = tt
steps_follow (p ∷ ps) (q ∷ qs) [] = greater_follows (steps_order (p ∷ ps) (q ∷ qs))
steps_follow (p ∷ ps) (q ∷ qs) (r ∷ rs) =
    follows_then (step_order p q) (step_order q r) (step_order p r) _ _ _ (step_follows p q r) (steps_follow ps qs rs)

pub steps_ordered : Orders steps_order
steps_ordered =
    record { same = steps_same; equal_same = steps_equal; reversed = steps_reversed; follows = steps_follow }
