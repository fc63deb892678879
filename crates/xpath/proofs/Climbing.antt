-- The laws of the ancestor test: its count, and its answer beside that of the climb to the root.
use Prim.Native.Nat.{ℕ, zero, suc, ◌+◌, ◌*◌, ◌≤◌, ◌<◌}
use mathlib.Core.Path.{◌≡◌, refl, sym, ap, ◌∙◌}
use mathlib.Core.Bool.{Bool, true, false, cond, not, ◌&&◌, ◌||◌}
use mathlib.Core.List.{List}
use mathlib.Core.Logic.{◌⊎◌, inl, inr, ⊎_elim}
use mathlib.Core.Option.{Option, some}
use native.Mathlib.Omega.{arith}
use native.Mathlib.Numerals.{add-one}
use lib.Dec.{T, ltb, eqb}
use lib.ListN.{length, set, length-set}
use borrow.Author.Tests.{eq-eqb, ne_eqb, lt-ltb, le-ltb, ltb-true}
use Rattle.xpath.specs.Document.{Document, parent_at, is_child, climb_meets, is_ancestor, row_ok, row_ok_by}
use Rattle.xpath.specs.Document.{document_of, lent_rows, max_nodes, bad_row, bad_row_by, document_refusal}
use Rattle.xpath.specs.Climb.{above, climb_takes, parents_taken, climb_met, Least}
use Rattle.xpath.specs.Climb.{CountEnds, CountLeast, AnswersAlike, RefusesAlike}
use Rattle.xpath.specs.represent.Check.{closed, ClimbMade}
use Rattle.common.proofs.Reflect.{or-false, le_or_lt, eq_or_ne}
use Rattle.xpath.proofs.Tree.{ParentsSmaller, parents_smaller, parent_smaller}
use Rattle.common.proofs.Search.{first_alike}
use Rattle.xpath.proofs.Refusal.{row_sound}

-- the number of parents that the climb may take doesn't matter, if it is enough
takes_enough : (d : Document) (x k j y : ℕ) → y ≤ k → y ≤ j → climb_takes k d x y ≡ climb_takes j d x y
unfolding climb_takes
takes_enough d x zero zero y h g = refl
takes_enough d x zero (suc j) y h g = let z : y ≤ x = omega arith in rw (le-ltb x y z)
takes_enough d x (suc k) zero y h g = let z : y ≤ x = omega arith in rw (le-ltb x y z)
takes_enough d x (suc k) (suc j) y h g =
    by_test (ltb x y) (ltb (parent_at d y) y) (climb_takes k d x (parent_at d y)) (climb_takes j d x (parent_at d y))
    (λ e. let l = ltb-true (parent_at d y) y e in takes_enough d x k j (parent_at d y) (omega arith) (omega arith))
  where
    by_test : (b c : Bool) (m n : ℕ) → (c ≡ true → m ≡ n) →
        ◌≡◌ {A = ℕ} (cond (b && c) (suc m) 0) (cond (b && c) (suc n) 0)
    by_test true true m n f = ap suc (f refl)
    by_test true false m n f = refl
    by_test false c m n f = refl

module _ (d : Document) (x : ℕ) where
  -- the climb goes on from y
  takes_on : (y : ℕ) → x < y → parent_at d y < y → parents_taken d x y ≡ suc (parents_taken d x (parent_at d y))
  unfolding parents_taken climb_takes
  takes_on zero h l = absurd (omega arith)
  takes_on (suc y) h l =
      rw (lt-ltb x (suc y) h, lt-ltb (parent_at d (suc y)) (suc y) l)
      (ap suc (takes_enough d x y (parent_at d (suc y)) (parent_at d (suc y)) (omega arith) (omega arith)))

  -- the climb ends at y
  pub takes_none : (y : ℕ) → (y ≤ x) ⊎ (y ≤ parent_at d y) → parents_taken d x y ≡ 0
  unfolding parents_taken climb_takes
  takes_none zero o = refl
  takes_none (suc y) (inl h) = rw (le-ltb x (suc y) h)
  takes_none (suc y) (inr h) = rw (le-ltb (parent_at d (suc y)) (suc y) h) (by_test (ltb x (suc y)))
    where
      by_test : (b : Bool) → ◌≡◌ {A = ℕ} (cond (b && false) (suc (climb_takes y d x (parent_at d (suc y)))) 0) 0
      by_test true = refl
      by_test false = refl

  on_or_none : (y : ℕ) → ((x < y) × (parent_at d y < y)) ⊎ ((y ≤ x) ⊎ (y ≤ parent_at d y))
  on_or_none y =
      ⊎_elim
      (λ h. inr (inl h))
      (λ h. ⊎_elim (λ g. inr (inr g)) (λ g. inl (h, g)) (le_or_lt y (parent_at d y)))
      (le_or_lt y x)

  -- after j of its parents the climb has the others to take
  takes_rest : (y j : ℕ) → j ≤ parents_taken d x y → parents_taken d x y ≡ j + parents_taken d x (above d j y)
  unfolding above
  takes_rest y zero h = omega arith
  takes_rest y (suc j) h =
      let e = takes_rest y j (omega arith) in
      ⊎_elim
      (λ (l, m). let f = takes_on (above d j y) l m in omega arith)
      (λ o. let f = takes_none (above d j y) o in absurd (omega arith))
      (on_or_none (above d j y))

pub count_ends : CountEnds
count_ends d x y =
    record {
      ends =
          let e = takes_rest d x y (parents_taken d x y) (omega arith) in
          ⊎_elim
          (λ (l, m). let f = takes_on d x (above d (parents_taken d x y) y) l m in absurd (omega arith))
          (λ o. o)
          (on_or_none d x (above d (parents_taken d x y) y));
      earlier = λ j h.
          let e = takes_rest d x y j (omega arith) in
          ⊎_elim
          (λ o. o)
          (λ o. let f = takes_none d x (above d j y) o in absurd (omega arith))
          (on_or_none d x (above d j y));
    }

above_parent : (d : Document) (k y : ℕ) → above d k (parent_at d y) ≡ parent_at d (above d k y)
unfolding above
above_parent d zero y = refl
above_parent d (suc k) y = ap (parent_at d) (above_parent d k y)

pub not_met : (d : Document) (x y : ℕ) → y ≤ x → climb_met d x y ≡ false
unfolding climb_met
not_met d x y h = rw (le-ltb x y h)

-- the climb meets x at the parent, or above it
met_on : (d : Document) (x y : ℕ) → x < y → parent_at d y < y →
    climb_met d x y ≡ (eqb (parent_at d y) x || climb_met d x (parent_at d y))
unfolding climb_met above
met_on d x y h l =
    rw (lt-ltb x y h, takes_on d x y h l, ← above_parent d (parents_taken d x (parent_at d y)) y)
    (⊎_elim
    (λ g. rw (takes_none d x (parent_at d y) (inl g), le-ltb x (parent_at d y) g)
    (sym (or-false (eqb (parent_at d y) x))))
    (λ g. rw (lt-ltb x (parent_at d y) g, ne_eqb (parent_at d y) x (λ e. omega arith)))
    (le_or_lt (parent_at d y) x))

-- Among m rows that come after their parents the climb meets what the climb to the root meets.
module _ (d : Document) (m : ℕ) (smaller : ParentsSmaller d m) where
  above_below : (y k : ℕ) → y < m → ((j : ℕ) → j < k → parent_at d (above d j y) < above d j y) → above d k y < m
  unfolding above
  above_below y zero l f = l
  above_below y (suc k) l f =
      let h = f k (omega arith) in let g = above_below y k l (λ j i. f j (omega arith)) in omega arith

  least_below : (x y : ℕ) → y < m → Least d x y (parents_taken d x y)
  least_below x y l =
      let r = count_ends d x y in
      let at = above d (parents_taken d x y) y in
      let inside : at < m = above_below y (parents_taken d x y) l (λ j h. (r.earlier j h).1) in
      record {
        ends =
            ⊎_elim
            (λ h. h)
            (λ h. ⊎_elim (λ z. omega arith) (λ p. let q = smaller at inside p in absurd (omega arith)) (le_or_lt at 0))
            r.ends;
        earlier = λ j h. (r.earlier j h).0;
      }

  meets_alike : (x n y : ℕ) → y ≤ n → y < m → climb_met d x y ≡ climb_meets n d x y
  unfolding climb_meets is_child
  meets_alike x zero y g l = not_met d x y (omega arith)
  meets_alike x (suc n) y g l =
      ⊎_elim
      (λ (e : y ≡ 0). not_met d x y (omega arith) ∙ rw (eq-eqb y 0 e))
      (λ (f : ¬ (y ≡ 0)).
      let p : parent_at d y < y = smaller y l (omega arith) in
      rw (ne_eqb y 0 f, ← meets_alike x n (parent_at d y) (omega arith) (omega arith))
      (⊎_elim
      (λ h. let e = not_met d x (parent_at d y) (omega arith) in
      not_met d x y h ∙ rw (ne_eqb (parent_at d y) x (λ e. omega arith)) (sym e))
      (λ h. met_on d x y h p)
      (le_or_lt y x)))
      (eq_or_ne y 0)

  alike_below : (x y : ℕ) → y < m → climb_met d x y ≡ is_ancestor d x y
  unfolding is_ancestor
  alike_below x y l = meets_alike x y y (omega arith) l

pub count_least : CountLeast
count_least d w x y l = least_below d (length d) (parent_smaller d w) x y l

pub answers_alike : AnswersAlike
answers_alike d w x y l = alike_below d (length d) (parent_smaller d w) x y l

-- after sound rows, both climbs judge the next row alike
pub row_alike : (d : Document) (n : ℕ) → ((k : ℕ) → k < n → T (row_ok d k)) → row_ok_by climb_met d n
    ≡ row_ok_by is_ancestor d n
row_alike d zero ok = refl
row_alike d (suc n) ok =
    rw (alike_below d (suc n) (parents_smaller d (suc n) ok) (parent_at d (suc n)) n (omega arith))

pub refuses_alike : RefusesAlike
unfolding document_refusal lent_rows bad_row
refuses_alike xs =
    ap (λ (found : Option ℕ).
    cond (eqb (lent_rows xs) 0) (some 0) (cond (ltb max_nodes (lent_rows xs)) (some max_nodes) found))
    (first_alike (bad_row xs) (bad_row_by climb_met xs) (lent_rows xs)
    (λ n sound. ap (λ (ok : Bool). ltb (length xs) (3 * n + 3) || not ok)
    (row_alike (document_of xs) n (λ k l. (row_sound xs k (sound k l)).1))))

-- The climb on its way: it is `parents` parents above y, and has closed the subtrees of the rows left.
pub record OnWay (d : Document) (x y e : ℕ) (es : List ℕ) (at parents : ℕ) (left : List ℕ) : Type 0 where
  pub here : at ≡ above d parents y
  pub rest : parents_taken d x y ≡ parents + parents_taken d x at
  pub room : parents + at ≤ y
  pub ends : left ≡ closed d y e parents es
  pub size : length left ≡ length es

module _ (d : Document) (x y e : ℕ) (es : List ℕ) where
  pub way_starts : OnWay d x y e es y 0 es
  unfolding above closed
  way_starts = record { here = refl; rest = omega arith; room = omega arith; ends = refl; size = refl }

  module _ (at parents : ℕ) (left : List ℕ) (w : OnWay d x y e es at parents left) where
    -- one parent more
    pub way_on : (p : ℕ) (next : List ℕ) → p ≡ parent_at d at → next ≡ set left at e → x < at → p < at →
        OnWay d x y e es p (parents + 1) next
    unfolding above closed
    way_on p next up q h l =
        record {
          here = up ∙ rw (add-one, w.here);
          rest = let a = w.rest in let b = takes_on d x at h (omega arith) in rw up (omega arith);
          room = let a = w.room in omega arith;
          ends = q ∙ rw (add-one, w.ends, w.here);
          size = ap length q ∙ length-set left at e ∙ w.size;
        }

    -- the climb ends at `at`
    pub way_over : (met : Bool) → (at ≤ x) ⊎ (at ≤ parent_at d at) → met ≡ (ltb x y && eqb at x) →
        ClimbMade d x y e es met parents left
    unfolding climb_met
    way_over met o q =
        let a = w.rest in
        let b = takes_none d x at o in
        let n : parents ≡ parents_taken d x y = omega arith in
        record { met = q ∙ rw (← n, ← w.here); parents = n; ends = w.ends ∙ rw (← n) }

    -- it ends after x, where the parent is not the smaller row
    pub way_stuck : x < at → at ≤ parent_at d at → ClimbMade d x y e es false parents left
    way_stuck h l =
        let r = w.room in way_over false (inr l) (rw (lt-ltb x y (omega arith), ne_eqb at x (λ q. omega arith)))
