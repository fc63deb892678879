-- The climb from a row toward a parent, on one document.
use Rattle.std.proofs.Common.{ℕ, zero, suc, ◌≡◌, ◌≤◌, ◌<◌, Bool, true, false, not, ◌&&◌, ◌||◌, ◌⊎◌, inl, inr, refl}
use Rattle.std.proofs.Common.{sym, ap, arith, eqb, eq-eqb}
use borrow.Author.Tests.{eqb-true, ne_eqb}
use Rattle.xpath.specs.Document.{Document, parent_at, is_child, climb_meets, is_ancestor}
use Rattle.xml_document.specs.private.Checks.{reaches}

pub or_true : (a b : Bool) → (a || b) ≡ true → (a ≡ true) ⊎ (b ≡ true)
or_true true b e = inl refl
or_true false b e = inr e

pub true_or : (a b : Bool) → (a ≡ true) ⊎ (b ≡ true) → (a || b) ≡ true
true_or true b o = refl
true_or false b (inl e) = absurd (cc)
true_or false b (inr e) = e

pub and_true : (a b : Bool) → (a && b) ≡ true → (a ≡ true) × (b ≡ true)
and_true true b e = (refl, e)
and_true false b e = absurd (cc)

pub true_and : (a b : Bool) → a ≡ true → b ≡ true → (a && b) ≡ true
true_and true b e f = f
true_and false b e f = absurd (cc)

-- more parents may be taken
more : (d : Document) (x k j y : ℕ) → k ≤ j → climb_meets k d x y ≡ true → climb_meets j d x y ≡ true
unfolding climb_meets
more d x zero j y h e = absurd (cc)
more d x (suc k) zero y h e = absurd (omega arith)
more d x (suc k) (suc j) y h e =
    elim (or_true (is_child d x y) (not (eqb y 0) && climb_meets k d x (parent_at d y)) e) [
      | inl p ↦ true_or _ _ (inl p)
      | inr q ↦
          let r = and_true (not (eqb y 0)) (climb_meets k d x (parent_at d y)) q in
          true_or _ _ (inr (true_and _ _ r.0 (more d x k j (parent_at d y) (omega arith) r.1)))
    ]

-- an ancestor of the parent, or the parent, is an ancestor
pub up : (d : Document) (p y : ℕ) → parent_at d y < y → reaches p (parent_at d y) d ≡ true → reaches p y d ≡ true
unfolding reaches is_ancestor climb_meets is_child
up d p zero l e = absurd (omega arith)
up d p (suc m) l e =
    let n : (not (eqb (suc m) 0)) ≡ true = ap not (ne_eqb (suc m) 0 (λ q. omega arith)) in
    elim (or_true (eqb p (parent_at d (suc m))) (climb_meets (parent_at d (suc m)) d p (parent_at d (suc m))) e) [
      | inl q ↦
          let s : parent_at d (suc m) ≡ p = sym (eqb-true p (parent_at d (suc m)) q) in
          true_or _ _ (inr (true_or _ _ (inl (true_and _ _ n (eq-eqb _ _ s)))))
      | inr q ↦
          let r = more d p (parent_at d (suc m)) m (parent_at d (suc m)) (omega arith) q in
          true_or _ _ (inr (true_or _ _ (inr (true_and _ _ n r))))
    ]
