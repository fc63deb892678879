-- What refusals 5 and 6 leave: rows that are held and of one sort, and premises that are held steps.
use Prim.Native.Nat.{ℕ, zero, suc, ◌-◌, ◌≤◌, ◌<◌}
use mathlib.Core.Path.{◌≡◌, refl}
use mathlib.Core.Bool.{Bool, true, false, not, cond, ◌||◌}
use mathlib.Core.List.{List, [], ◌∷◌, map}
use native.Mathlib.Omega.{arith}
use lib.Dec.{leb}
use lib.ListN.{length, get_or, take}
use borrow.Author.Tests.{eqb-true, leb-true, leb-false, le-leb, not-false}
use Rattle.std.proofs.lemmas.Bool.{and_parts}
use Rattle.common.proofs.Tests.{or_not_parts}
use Rattle.terms.specs.Row.{Row}
use Rattle.common.specs.Lists.{Every}
use Rattle.rules.specs.Yields.{premise_count}
use Rattle.calls.specs.Book.{Step, no_step}
use Rattle.calls.specs.StepCall.{same_sort, bad_side_of, premise_ok, bad_premise_of, step_numbered, premises_of}

-- the rows of a step are held and of one sort
pub record SidesHeld (rs : List Row) (p : Step) : Type 0 where
  pub left : p.left < length rs
  pub right : p.right < length rs
  pub one_sort_lem : same_sort rs p.left p.right ≡ true

-- a place that is 0: the test for place n + 1 failed
no_place : (b : Bool) (n m : ℕ) → cond b (suc n) m ≤ 0 → (b ≡ false) × (m ≤ 0)
no_place true n m h = absurd (omega arith)
no_place false n m h = (refl, h)

pub sides_held : (rs : List Row) (p : Step) → bad_side_of rs p ≤ 0 → SidesHeld rs p
unfolding bad_side_of
sides_held rs p h =
    let l = no_place (leb (length rs) p.left) 0 _ h in
    let r = no_place (leb (length rs) p.right || not (same_sort rs p.left p.right)) 1 _ l.1 in
    let n = or_not_parts (leb (length rs) p.right) (same_sort rs p.left p.right) r.0 in
    record { left = leb-false _ _ l.0; right = leb-false _ _ n.0; one_sort_lem = n.1 }

-- q is one of the steps
abbrev pub HeldIn : List Step → Step → Type 0
HeldIn ps q = (i : ℕ) × (i < length ps) × (q ≡ get_or ps i no_step)

needed_held : (ps : List Step) (i : ℕ) → premise_ok true (length ps) i ≡ true → HeldIn ps (step_numbered ps i)
unfolding premise_ok
needed_held ps i e =
    let r = and_parts (leb 1 i) (leb i (length ps)) e in
    let h : i - 1 < length ps = omega (arith, leb-true 1 i r.0, leb-true i (length ps) r.1) in
    (i - 1, h, refl)

fits : (needed : Bool) (held i : ℕ) → premise_ok needed held i ≡ true → i ≤ held
unfolding premise_ok
fits true held i e = leb-true i held (and_parts (leb 1 i) (leb i held) e).1
fits false held i e = omega (arith, eqb-true i 0 e)

-- the premises that a rule with k premises takes
premises_by : (ps : List Step) (k i j : ℕ) → premise_ok (leb 1 k) (length ps) i ≡ true
    → premise_ok (leb 2 k) (length ps) j ≡ true
    → Every (HeldIn ps) (map (step_numbered ps) (take k (i ∷ j ∷ [])))
premises_by ps zero i j a b = tt
premises_by ps (suc zero) i j a b = (needed_held ps i a, tt)
premises_by ps (suc (suc k)) i j a b = (
  needed_held ps i (rw (le-leb 1 (suc (suc k)) (omega arith)) at a),
  (needed_held ps j (rw (le-leb 2 (suc (suc k)) (omega arith)) at b), premises_past ps k),
)
  where
    premises_past : (ps : List Step) (k : ℕ) → Every (HeldIn ps) (map (step_numbered ps) (take k []))
    premises_past ps zero = tt
    premises_past ps (suc k) = tt

pub premises_held : (ps : List Step) (p : Step) → bad_premise_of (length ps) p ≤ 0
    → Every (HeldIn ps) (premises_of ps p)
unfolding bad_premise_of premises_of
premises_held ps p h =
    let k = premise_count p.rule in
    let a = no_place (not (premise_ok (leb 1 k) (length ps) p.first)) 0 _ h in
    let b = no_place (not (premise_ok (leb 2 k) (length ps) p.second)) 1 _ a.1 in
    premises_by ps k p.first p.second (not-false _ a.0) (not-false _ b.0)

-- an accepted step's premises are numbers of held steps, or 0
pub premise_fits : (held : ℕ) (p : Step) → bad_premise_of held p ≤ 0 → (p.first ≤ held) × (p.second ≤ held)
unfolding bad_premise_of
premise_fits held p h =
    let k = premise_count p.rule in
    let a = no_place (not (premise_ok (leb 1 k) held p.first)) 0 _ h in
    let b = no_place (not (premise_ok (leb 2 k) held p.second)) 1 _ a.1 in
    (fits (leb 1 k) held p.first (not-false _ a.0), fits (leb 2 k) held p.second (not-false _ b.0))
