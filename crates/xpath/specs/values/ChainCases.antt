-- Which paths are chains; visits that meet the bound, and visits of other paths that pass it.
use Rattle.std.specs.Prelude.{ℕ, suc, ◌+◌, ◌≤◌, ◌≡◌, refl, Bool, true, false, ◌&&◌, [], ◌∷◌, T, length}
use Rattle.std.proofs.Common.{subst, arith}
use Rattle.std.proofs.Math.Facts.{yes_and, and_yes}
use Rattle.common.specs.Bounded.{any_below, sum_below}
use Rattle.xpath.specs.Document.{root_node, kind_at, parent_at, is_child, climb_meets, is_ancestor}
use Rattle.common.specs.Axes.{descendant_or_self}
use Rattle.xpath.specs.Axis.{on_axis, passes}
use Rattle.xpath.specs.Term.{Path, Qualifier, Void, Root, AxisStep, Union, Composition, Filter, True}
use Rattle.xpath.specs.Meaning.{selects}
use Rattle.xpath.specs.Visits.{visits, qualifier_visits}
use Rattle.xpath.specs.Chain.{Chain, one, more, visit_bound, ChainVisits}
use Rattle.xpath.specs.values.MeaningCases.{sample}
use Rattle.common.specs.values.Expected.{◌is◌, AllRight}
use Rattle.xpath.specs.values.StepNotation.{◌::node}

-- steps of every axis, test and name
pub three_steps : (a t c a₂ t₂ c₂ a₃ t₃ c₃ : ℕ)
    → Chain 3 (Composition (Composition (AxisStep a t c) (AxisStep a₂ t₂ c₂)) (AxisStep a₃ t₃ c₃))
three_steps a t c a₂ t₂ c₂ a₃ t₃ c₃ = more (more one)

pub is_step : Path → Bool
is_step Void = false
is_step Root = false
is_step (AxisStep a t c) = true
is_step (Union p q) = false
is_step (Composition p q) = false
is_step (Filter p f) = false

-- what a chain is, once more
pub is_chain : Path → Bool
is_chain Void = false
is_chain Root = false
is_chain (AxisStep a t c) = true
is_chain (Union p q) = false
is_chain (Composition p q) = is_chain p && is_step q
is_chain (Filter p f) = false

chain_is : {k : ℕ} {p : Path} → Chain k p → T (is_chain p)
unfolding is_chain is_step
chain_is one = tt
chain_is (more {p = p} c) = yes_and (is_chain p) true (chain_is c) tt

-- how many steps stand in a path
pub steps : Path → ℕ
steps Void = 0
steps Root = 0
steps (AxisStep a t c) = 1
steps (Union p q) = steps p + steps q
steps (Composition p q) = steps p + steps q
steps (Filter p f) = steps p

-- a chain of k has k of them
pub chain_steps : {k : ℕ} {p : Path} → Chain k p → steps p ≡ k
unfolding steps
chain_steps one = refl
chain_steps (more c) = omega (arith, chain_steps c)

-- and every such path is a chain
add_one_suc : (n : ℕ) → suc n ≡ n + 1
add_one_suc n = omega arith

after : (p : Path) → T (is_chain p) → (q : Path) → T (is_step q) → Chain (steps p) p →
    Chain (steps p + steps q) (Composition p q)
unfolding is_step steps
after p t Void u c = absurd u
after p t Root u c = absurd u
after p t (AxisStep a n m) u c = subst (λ k. Chain k (Composition p (AxisStep a n m))) (add_one_suc (steps p)) (more c)
after p t (Union q r) u c = absurd u
after p t (Composition q r) u c = absurd u
after p t (Filter q f) u c = absurd u

pub chains_all : (p : Path) → T (is_chain p) → Chain (steps p) p
unfolding is_chain steps
chains_all Void t = absurd t
chains_all Root t = absurd t
chains_all (AxisStep a n m) t = one
chains_all (Union p q) t = absurd t
chains_all (Composition p q) t =
    let (u, v) = and_yes (is_chain p) (is_step q) t in
    after p u q v (chains_all p u)
chains_all (Filter p f) t = absurd t

-- a path grouped from the right is no chain
pub grouped_from_the_right : (k : ℕ) (p q r : Path) → ¬ Chain k (Composition p (Composition q r))
unfolding is_chain is_step
grouped_from_the_right k p q r c = (and_yes (is_chain p) false (chain_is c)).1

-- nor is a path with a filter: on the whole, on its last step, on its first steps
pub filtered : (k : ℕ) (p : Path) (f : Qualifier) → ¬ Chain k (Filter p f)
unfolding is_chain
filtered k p f c = chain_is c

pub last_filtered : (k : ℕ) (p q : Path) (f : Qualifier) → ¬ Chain k (Composition p (Filter q f))
unfolding is_chain is_step
last_filtered k p q f c = (and_yes (is_chain p) false (chain_is c)).1

pub first_filtered : (k : ℕ) (p q : Path) (f : Qualifier) → ¬ Chain k (Composition (Filter p f) q)
unfolding is_chain
first_filtered k p q f c = chain_is c

-- a step that selects every node from a root
abbrev every : Path
every = descendant_or_self ::node

pub bound_met :
    AllRight
    (length sample is 14
    -- one step, two and three, each node selected
    ∷ visit_bound 1 14 is 1
    ∷ visits sample every 0 is 1
    ∷ visit_bound 2 14 is 16
    ∷ visits sample (Composition every every) 0 is 16
    ∷ visit_bound 3 14 is 31
    ∷ visits sample (Composition (Composition every every) every) 0 is 31
    -- one node
    ∷ visit_bound 2 1 is 3
    ∷ visits (root_node ∷ []) (Composition every every) 0 is 3
    ∷ visit_bound 3 1 is 5
    ∷ visits (root_node ∷ []) (Composition (Composition every every) every) 0 is 5
    -- fewer nodes selected
    ∷ visits sample (Composition (Composition every every) every) 6 is 11
    ∷ [])
unfolding visits sum_below selects on_axis passes kind_at parent_at is_child climb_meets is_ancestor any_below
bound_met = refl

-- so the bound for three steps on the sample holds from every node
pub three_on_sample : ChainVisits → (x : ℕ) → visits sample (Composition (Composition every every) every) x ≤ 31
three_on_sample law x = law 3 _ (more (more one)) sample x

-- three steps grouped from the right, and two of which one has a filter
pub bound_passed :
    AllRight
    (visits sample (Composition every (Composition every every)) 0 is 72
    ∷ visits sample (Composition (Filter every True) every) 0 is 31
    ∷ visits sample (Composition every (Filter every True)) 0 is 72
    ∷ visits sample (Filter (Composition every every) True) 0 is 31
    ∷ [])
unfolding visits qualifier_visits sum_below selects on_axis passes kind_at parent_at is_child climb_meets is_ancestor
    any_below
bound_passed = refl
