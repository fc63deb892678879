-- Laws of the loops that add marks.
use Prim.Native.Nat.{ℕ, ◌≤◌, ◌<◌}
use mathlib.Core.Path.{◌≡◌, refl, sym, ap, subst, ◌∙◌}
use mathlib.Core.Bool.{Bool, true, false, cond, ◌&&◌, ◌||◌, and-false, or-false}
use mathlib.Core.List.{List}
use mathlib.Core.Logic.{◌⊎◌, ◌≢◌, inl, inr, ⊎_elim}
use native.Mathlib.Omega.{arith}
use lib.Dec.{ltb, leb}
use lib.ListN.{length, get_or, set, length-set}
use lib.Seq.{get_or-set_same, get_or-set_other}
use borrow.Author.Tests.{lt-ltb, le-ltb, le-leb, lt-leb}
use Rattle.common.proofs.Reflect.{eq_or_ne, le_or_lt}
use Rattle.marking.specs.private.Added.{Added}

module _ {n : ℕ} {old new : List ℕ} {s : ℕ → Bool} where
  pub added_cong : (t : ℕ → Bool) → Added n old new s → ((y : ℕ) → y < n → t y ≡ s y) → Added n old new t
  added_cong t u e = record { size = u.size; marks = λ y h. u.marks y h ∙ rw (e y h) }

  -- node k gets the mark v
  added_put : (t : ℕ → Bool) (k v : ℕ) → Added n old new s → k < length new →
      (k < n → v ≡ cond (t k) 1 (get_or old k 0)) → ((y : ℕ) → y < n → y ≢ k → t y ≡ s y) →
      Added n old (set new k v) t
  added_put t k v u l e f =
      record {
        size = length-set new k v ∙ u.size;
        marks = λ y h. ⊎_elim
            (λ q. let put : get_or (set new k v) y 0 ≡ v =
            ap (λ (i : ℕ). get_or (set new k v) i 0) q ∙ get_or-set_same new k v 0 l in
            put ∙ subst (λ (i : ℕ). v ≡ cond (t i) 1 (get_or old i 0)) (sym q) (e (subst (λ (i : ℕ). i < n) q h)))
            (λ ne. rw (get_or-set_other new k y v 0 ne, f y h ne) (u.marks y h))
            (eq_or_ne y k);
      }

  pub added_set : (t : ℕ → Bool) (k : ℕ) → Added n old new s → k < length new → t k ≡ true →
      ((y : ℕ) → y < n → y ≢ k → t y ≡ s y) →
      Added n old (set new k 1) t
  added_set t k u l e f = added_put t k 1 u l (λ _. rw e) f

pub nothing_added : {n : ℕ} {old : List ℕ} (s : ℕ → Bool) → ((y : ℕ) → y < n → s y ≡ false) → Added n old old s
nothing_added s e = record { size = refl; marks = λ y h. rw (e y h) }

-- one walk after the other
pub added_twice : {n : ℕ} {old mid new : List ℕ} (s t u : ℕ → Bool) → Added n old mid s →
    Added n mid new t → ((y : ℕ) → y < n → u y ≡ (s y || t y)) → Added n old new u
added_twice {old = old} s t u a b e =
    record {
      size = b.size ∙ a.size;
      marks = λ y h. b.marks y h ∙ rw (a.marks y h, e y h) (twice (s y) (t y) (get_or old y 0));
    }
  where
    twice : (b c : Bool) (v : ℕ) → cond c 1 (cond b 1 v) ≡ cond (b || c) 1 v
    twice true true v = refl
    twice true false v = refl
    twice false c v = refl

-- the nodes of f from lo on and before hi
abbrev pub between : ℕ → ℕ → (ℕ → Bool) → ℕ → Bool
between lo hi f y = (leb lo y && ltb y hi) && f y

-- a loop that goes up from lo
module _ {n : ℕ} {old : List ℕ} (f : ℕ → Bool) (lo : ℕ) where
  pub up_start : Added n old old (between lo lo f)
  up_start =
      nothing_added (between lo lo f)
      (λ y h. ⊎_elim (λ l. rw (le-ltb y lo l, and-false)) (λ l. rw (lt-leb lo y l)) (le_or_lt lo y))

  module _ {new : List ℕ} (k e : ℕ) (u : Added n old new (between lo k f)) (h : lo ≤ k) (l : k < e)
      (g : (y : ℕ) → y < n → k < y → y < e → f y ≡ false) where
    same_elsewhere : (y : ℕ) → y < n → y ≢ k → between lo e f y ≡ between lo k f y
    same_elsewhere y m ne = go (le_or_lt k y) (le_or_lt e y)
      where
        go : (k ≤ y) ⊎ (y < k) → (e ≤ y) ⊎ (y < e) → between lo e f y ≡ between lo k f y
        go (inl p) (inl q) = rw (le-ltb y e q, le-ltb y k p)
        go (inl p) (inr q) = let z : f y ≡ false = g y m (omega (arith, ne)) q in rw (z, and-false, and-false)
        go (inr p) (inl q) = absurd (omega arith)
        go (inr p) (inr q) = rw (lt-ltb y e q, lt-ltb y k p)

    -- node k is passed, and is in f
    pub up_marked : k < length new → f k ≡ true → Added n old (set new k 1) (between lo e f)
    up_marked m t = added_set (between lo e f) k u m (rw (le-leb lo k h, lt-ltb k e l, t)) same_elsewhere

    -- node k is passed, and is not in f
    pub up_left : f k ≡ false → Added n old new (between lo e f)
    up_left t =
        added_cong (between lo e f) u
        (λ y m. ⊎_elim (λ q. let z : f y ≡ false = ap f q ∙ t in rw (z, and-false, and-false))
        (λ ne. same_elsewhere y m ne) (eq_or_ne y k))

-- the nodes of f from `at` on
abbrev pub from_on : ℕ → (ℕ → Bool) → ℕ → Bool
from_on at f y = leb at y && f y

-- a loop that goes down: the next node of f below k is e, or isn't in f
module _ {n : ℕ} {old new : List ℕ} (f : ℕ → Bool) (k e : ℕ) (u : Added n old new (from_on k f)) (l : e < k)
    (g : (y : ℕ) → y < n → e < y → y < k → f y ≡ false) where
  same_above : (y : ℕ) → y < n → y ≢ e → from_on e f y ≡ from_on k f y
  same_above y m ne = go (le_or_lt k y) (le_or_lt e y)
    where
      go : (k ≤ y) ⊎ (y < k) → (e ≤ y) ⊎ (y < e) → from_on e f y ≡ from_on k f y
      go (inl p) (inl q) = rw (le-leb e y q, le-leb k y p)
      go (inl p) (inr q) = absurd (omega arith)
      go (inr p) (inl q) = let z : f y ≡ false = g y m (omega (arith, ne)) p in rw (z, and-false, and-false)
      go (inr p) (inr q) = rw (lt-leb e y q, lt-leb k y p)

  -- node e is marked, if it is in f
  pub down_on : {newer : List ℕ} (s : ℕ → Bool) → Added n new newer s → s e ≡ f e →
      ((y : ℕ) → y ≢ e → s y ≡ false) → Added n old newer (from_on e f)
  down_on s a t ne =
      added_twice (from_on k f) s (from_on e f) u a
      (λ y m. ⊎_elim (λ q. rw (q, t, le-leb e e (omega arith), lt-leb k e l))
      (λ q. rw (ne y q, or-false) (same_above y m q)) (eq_or_ne y e))

-- a loop that goes down starts where there is nothing of f, and ends at 0
pub down_start : {n : ℕ} {old : List ℕ} (f : ℕ → Bool) (k : ℕ) →
    ((y : ℕ) → y < n → k ≤ y → f y ≡ false) → Added n old old (from_on k f)
down_start f k g =
    nothing_added (from_on k f)
    (λ y m. ⊎_elim (λ p. let z : f y ≡ false = g y m p in rw (z, and-false)) (λ p. rw (lt-leb k y p)) (le_or_lt k y))

pub down_end : {n : ℕ} {old new : List ℕ} (f : ℕ → Bool) (k : ℕ) → k ≤ 0 →
    Added n old new (from_on k f) → Added n old new f
down_end f k h u = added_cong f u (λ y m. rw (le-leb k y (omega arith)))
