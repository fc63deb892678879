-- What each walk keeps.
use Prim.Native.Nat.{ℕ, zero, suc, ◌+◌, ◌≤◌, ◌<◌}
use mathlib.Core.Path.{◌≡◌, refl, sym, ap, subst, ◌∙◌}
use mathlib.Core.Bool.{Bool, true, false, cond, not, ◌&&◌, ◌||◌, and-false, or-false, or-true}
use mathlib.Core.List.{List}
use mathlib.Core.Logic.{inl, inr, ⊎_elim}
use native.Mathlib.Omega.{arith}
use native.Mathlib.Numerals.{add-one}
use lib.Dec.{T, leb, ltb, eqb, ltb→lt, lt→ltb, leb→le, le→leb}
use lib.ListN.{length, get_or, set, length-set}
use lib.Seq.{get_or-set_same, get_or-set_other}
use mir.Facts.{and_yes, yes_and, or_yes}
use borrow.Author.Tests.{eq-eqb, ne_eqb, lt-ltb, le-ltb}
use Rattle.std.specs.Prelude.{max, min}
use Rattle.common.specs.Bounded.{any_below}
use Rattle.common.proofs.Reflect.{le_or_lt, eq_or_ne, tests_equal, any_yes, yes_any, yes_or}
use Rattle.common.proofs.Tests.{any_cong}
use Rattle.set_selection.specs.Sets.{marked, image, Image, MoreImage, NoMarks}
use Rattle.documents.specs.Columns.{Within, EndsWithin}
use Rattle.set_selection.specs.Walks.{is_under, is_over, is_below, is_above, is_after, is_before, is_later, is_earlier}
use Rattle.set_selection.proofs.Anys.{subst_T, any_until, any_none, any_single, any_down, or_absorbs}
use Rattle.set_selection.proofs.Written.{DoneBelow, DoneFrom, done_none, done_on, from_on}

le-leb_false : (a b : ℕ) → b < a → leb a b ≡ false
le-leb_false a b h = tests_equal (leb a b) false (λ t. absurd (omega (arith, leb→le a b t)), λ t. absurd t)

le-leb_true : (a b : ℕ) → a ≤ b → leb a b ≡ true
le-leb_true a b h = tests_equal (leb a b) true (λ t. tt, λ t. le→leb a b h)

ltb_max : (y a b : ℕ) → ltb y (max a b) ≡ (ltb y a || ltb y b)
ltb_max y a b =
    tests_equal (ltb y (max a b)) (ltb y a || ltb y b) (
      λ t. let h = ltb→lt y (max a b) t in
          yes_or (ltb y a) (ltb y b) (⊎_elim (λ (l : a ≤ y). inr (lt→ltb y b (omega arith))) (λ l. inl (lt→ltb y a l))
          (le_or_lt a y)),
      λ t. lt→ltb y (max a b) (⊎_elim
          (λ u. let h = ltb→lt y a u in omega arith)
          (λ u. let h = ltb→lt y b u in omega arith)
          (or_yes (ltb y a) (ltb y b) t)),
    )

leb_min : (y a b : ℕ) → leb (min a b) y ≡ (leb a y || leb b y)
leb_min y a b =
    tests_equal (leb (min a b) y) (leb a y || leb b y) (
      λ t. let h = leb→le (min a b) y t in
          yes_or (leb a y) (leb b y) (⊎_elim (λ (l : a ≤ y). inl (le→leb a y l))
          (λ (l : y < a). inr (le→leb b y (omega arith))) (le_or_lt a y)),
      λ t. le→leb (min a b) y (⊎_elim
          (λ u. let h = leb→le a y u in omega arith)
          (λ u. let h = leb→le b y u in omega arith)
          (or_yes (leb a y) (leb b y) t)),
    )

pub suc_is : (n : ℕ) → suc n ≡ n + 1
suc_is n = omega arith

module _ (m : List Bool) (es : List ℕ) where
  -- the furthest end of the marked rows before y
  pub record Reach (y r : ℕ) : Type 0 where
    pub passed : (k : ℕ) → ltb k r ≡ any_below y (λ x. marked m x && ltb k (get_or es x 0))

  pub reach_none : Reach 0 0
  unfolding any_below
  reach_none = record { passed = λ k. le-ltb k 0 (omega arith) }

  pub reach_on : (y r r' : ℕ) → Reach y r → r' ≡ cond (marked m y) (max r (get_or es y 0)) r → Reach (y + 1) r'
  unfolding any_below
  reach_on y r r' u e =
      record {
        passed = λ k. ap (λ (n : ℕ). ltb k n) e ∙ by_mark k (marked m y) (u.passed k)
            ∙ ap (λ (n : ℕ). any_below n (λ x. marked m x && ltb k (get_or es x 0))) (suc_is y);
      }
    where
      by_mark : (k : ℕ) (b : Bool) → ltb k r ≡ any_below y (λ x. marked m x && ltb k (get_or es x 0)) →
          ltb k (cond b (max r (get_or es y 0)) r)
          ≡ (any_below y (λ x. marked m x && ltb k (get_or es x 0)) || b && ltb k (get_or es y 0))
      by_mark k true f = ltb_max k r (get_or es y 0) ∙ ap (λ (b : Bool). b || ltb k (get_or es y 0)) f
      by_mark k false f = f ∙ sym (or-false _)

  pub reach_value : (y r : ℕ) → y < length m → Reach y r → ltb y r ≡ image (is_below es) m y
  reach_value y r h u =
      u.passed y
      ∙ any_until y (length m) (λ x. marked m x && ltb y (get_or es x 0)) (λ x. marked m x && is_below es x y)
      (omega arith)
      (λ x l. rw (lt-ltb x y l) refl)
      (λ x l g. rw (le-ltb x y l, and-false) refl)

  -- the nearest marked row from y on
  pub record Next (y r : ℕ) : Type 0 where
    pub reached : (k : ℕ) → k ≤ length m → ltb r k ≡ any_below (length m) (λ x. marked m x && (leb y x && ltb x k))

  pub next_none : (n : ℕ) → n ≡ length m → Next n n
  next_none n e =
      record {
        reached = λ k h. le-ltb n k (omega arith)
            ∙ sym (any_none (length m) (λ x. marked m x && (leb n x && ltb x k))
            (λ x l. rw (le-leb_false n x (omega arith), and-false) refl));
      }

  pub next_on : (v y r r' : ℕ) → suc v ≡ y → v < length m → Next y r → r' ≡ cond (marked m v) v r → Next v r'
  next_on v y r r' s l u e =
      record {
        reached = λ k h. ap (λ (n : ℕ). ltb n k) e
            ∙ by_mark k (marked m v) (u.reached k h
            ∙ ap (λ (i : ℕ). any_below (length m) (λ x. marked m x && (leb i x && ltb x k))) (sym s))
            ∙ sym (any_down (length m) v (marked m) (λ x. ltb x k) l);
      }
    where
      later_too : (k : ℕ) → T (any_below (length m) (λ x. marked m x && (leb (suc v) x && ltb x k))) → T (ltb v k)
      later_too k t =
          let r = any_yes (length m) (λ x. marked m x && (leb (suc v) x && ltb x k)) t in
          let p = and_yes (marked m r.0) (leb (suc v) r.0 && ltb r.0 k) r.2 in
          let q = and_yes (leb (suc v) r.0) (ltb r.0 k) p.1 in
          let a = leb→le (suc v) r.0 q.0 in let b = ltb→lt r.0 k q.1 in lt→ltb v k (omega (arith, a, b))

      by_mark : (k : ℕ) (b : Bool) →
          ltb r k ≡ any_below (length m) (λ x. marked m x && (leb (suc v) x && ltb x k)) →
          ltb (cond b v r) k
          ≡ (any_below (length m) (λ x. marked m x && (leb (suc v) x && ltb x k)) || (b && ltb v k))
      by_mark k true f = or_absorbs _ (ltb v k) (later_too k)
      by_mark k false f = f ∙ sym (or-false _)

  pub next_value : (v y r : ℕ) → suc v ≡ y → get_or es v 0 ≤ length m → Next y r →
      ltb r (get_or es v 0) ≡ image (is_above es) m v
  next_value v y r s l u =
      u.reached (get_or es v 0) l
      ∙ ap (λ (i : ℕ). any_below (length m) (λ x. marked m x && (leb i x && ltb x (get_or es v 0)))) (sym s)

  -- the nearest end of the marked rows before x
  pub record First (x r : ℕ) : Type 0 where
    pub passed : (k : ℕ) → k < length m → leb r k ≡ any_below x (λ z. marked m z && leb (get_or es z 0) k)

  pub first_none : (n : ℕ) → n ≡ length m → First 0 n
  unfolding any_below
  first_none n e = record { passed = λ k h. le-leb_false n k (omega arith) }

  pub first_on : (x r r' : ℕ) → First x r → r' ≡ cond (marked m x) (min r (get_or es x 0)) r → First (x + 1) r'
  unfolding any_below
  first_on x r r' u e =
      record {
        passed = λ k h. ap (λ (n : ℕ). leb n k) e ∙ by_mark k (marked m x) (u.passed k h)
            ∙ ap (λ (n : ℕ). any_below n (λ z. marked m z && leb (get_or es z 0) k)) (suc_is x);
      }
    where
      by_mark : (k : ℕ) (b : Bool) → leb r k ≡ any_below x (λ z. marked m z && leb (get_or es z 0) k) →
          leb (cond b (min r (get_or es x 0)) r) k
          ≡ (any_below x (λ z. marked m z && leb (get_or es z 0) k) || b && leb (get_or es x 0) k)
      by_mark k true f = leb_min k r (get_or es x 0) ∙ ap (λ (b : Bool). b || leb (get_or es x 0) k) f
      by_mark k false f = f ∙ sym (or-false _)

  pub first_value : (x r y : ℕ) → x ≡ length m → y < length m → First x r → leb r y ≡ image (is_after es) m y
  first_value x r y e h u =
      u.passed y h ∙ ap (λ (n : ℕ). any_below n (λ z. marked m z && leb (get_or es z 0) y)) e

  -- the row after the last marked row before x
  pub record Past (x r : ℕ) : Type 0 where
    pub reached : (k : ℕ) → ltb k r ≡ any_below x (λ z. marked m z && leb k z)

  pub past_none : Past 0 0
  unfolding any_below
  past_none = record { reached = λ k. le-ltb k 0 (omega arith) }

  pub past_on : (x r r' : ℕ) → Past x r → r' ≡ cond (marked m x) (x + 1) r → Past (x + 1) r'
  unfolding any_below
  past_on x r r' u e =
      record {
        reached = λ k. ap (λ (n : ℕ). ltb k n) e ∙ by_mark k (marked m x) (u.reached k)
            ∙ ap (λ (n : ℕ). any_below n (λ z. marked m z && leb k z)) (suc_is x);
      }
    where
      earlier_too : (k : ℕ) → T (any_below x (λ z. marked m z && leb k z)) → T (leb k x)
      earlier_too k t =
          let r = any_yes x (λ z. marked m z && leb k z) t in
          let p = and_yes (marked m r.0) (leb k r.0) r.2 in
          let a = leb→le k r.0 p.1 in le→leb k x (omega (arith, a, r.1))

      same : (k : ℕ) → ltb k (x + 1) ≡ leb k x
      same k =
          tests_equal (ltb k (x + 1)) (leb k x) (
            λ t. let h = ltb→lt k (x + 1) t in le→leb k x (omega arith),
            λ t. let h = leb→le k x t in lt→ltb k (x + 1) (omega arith),
          )

      by_mark : (k : ℕ) (b : Bool) → ltb k r ≡ any_below x (λ z. marked m z && leb k z) →
          ltb k (cond b (x + 1) r) ≡ (any_below x (λ z. marked m z && leb k z) || b && leb k x)
      by_mark k true f = same k ∙ or_absorbs _ (leb k x) (earlier_too k)
      by_mark k false f = f ∙ sym (or-false _)

  pub past_value : (x r y : ℕ) → x ≡ length m → Past x r → ltb (get_or es y 0) r ≡ image (is_before es) m y
  past_value x r y e u =
      u.reached (get_or es y 0) ∙ ap (λ (n : ℕ). any_below n (λ z. marked m z && leb (get_or es y 0) z)) e

module _ (m : List Bool) (ps : List ℕ) where
  pub under_value : (y : ℕ) → get_or ps y 0 < length m →
      (not (eqb y 0) && marked m (get_or ps y 0)) ≡ image (is_under ps) m y
  under_value y l =
      ⊎_elim
      (λ e. rw (eq-eqb y 0 e)
      (sym (any_none (length m) (λ x. marked m x && (not true && eqb (get_or ps y 0) x)) (λ x h. and-false _))))
      (λ ne. rw (ne_eqb y 0 ne) (sym (any_single (length m) (get_or ps y 0) (marked m) l)))
      (eq_or_ne y 0)

  -- the parents of the marked rows before x are marked beside the old marks
  pub record Spread (old : List Bool) (x : ℕ) (out : List Bool) : Type 0 where
    pub each : (p : ℕ) → marked out p
        ≡ (marked old p || any_below x (λ z. marked m z && (not (eqb z 0) && eqb (get_or ps z 0) p)))

  pub spread_none : (old : List Bool) → Spread old 1 old
  unfolding any_below
  spread_none old =
      record {
        each = λ p. sym (ap (λ (b : Bool). marked old p || b) (and-false (marked m 0)) ∙ or-false (marked old p));
      }

  pub spread_on : (old : List Bool) (x : ℕ) (out out' : List Bool) → 0 < x → get_or ps x 0 < length out →
      Spread old x out → out' ≡ cond (marked m x) (set out (get_or ps x 0) true) out → Spread old (x + 1) out'
  unfolding any_below
  spread_on old x out out' h l u e =
      record {
        each = λ p. ap (λ (o : List Bool). marked o p) e
            ∙ by_mark p (marked m x) (marked old p)
            (any_below x (λ z. marked m z && (not (eqb z 0) && eqb (get_or ps z 0) p))) (u.each p)
            ∙ ap (λ (n : ℕ). marked old p
            || any_below n (λ z. marked m z && (not (eqb z 0) && eqb (get_or ps z 0) p))) (suc_is x);
      }
    where
      all_true : (a b : Bool) → true ≡ (a || (b || true))
      all_true true b = refl
      all_true false b = sym (or-true b)

      by_mark : (p : ℕ) (b a c : Bool) → marked out p ≡ (a || c) →
          marked (cond b (set out (get_or ps x 0) true) out) p
          ≡ (a || (c || b && (not (eqb x 0) && eqb (get_or ps x 0) p)))
      by_mark p true a c f =
          ⊎_elim
          (λ q. rw (ne_eqb x 0 (λ z. omega arith), eq-eqb (get_or ps x 0) p (sym q))
          (ap (λ (i : ℕ). marked (set out (get_or ps x 0) true) i) q
          ∙ get_or-set_same out (get_or ps x 0) true false l ∙ all_true a c))
          (λ ne. rw (ne_eqb x 0 (λ z. omega arith), ne_eqb (get_or ps x 0) p (λ z. ne (sym z)), or-false)
          (get_or-set_other out (get_or ps x 0) p true false ne ∙ f))
          (eq_or_ne p (get_or ps x 0))
      by_mark p false a c f = f ∙ ap (λ (b : Bool). a || b) (sym (or-false c))

  pub spread_all : (old out : List Bool) (x : ℕ) → ((p : ℕ) → p < length m → x ≡ length m) → length out ≡ length old →
      Spread old x out →
      MoreImage (is_over ps) m old out
  spread_all old out x e size u =
      record {
        size = size;
        each = λ p h. u.each p ∙ ap (λ (n : ℕ). marked old p
            || any_below n (λ z. marked m z && (not (eqb z 0) && eqb (get_or ps z 0) p))) (e p h);
      }

  pub later_value : (old seen : List Bool) (y : ℕ) → NoMarks old → y < length m → Spread old y seen →
      marked seen (get_or ps y 0) ≡ image (is_later ps) m y
  later_value old seen y none h u =
      u.each (get_or ps y 0)
      ∙ ap (λ (b : Bool). b
      || any_below y (λ z. marked m z && (not (eqb z 0) && eqb (get_or ps z 0) (get_or ps y 0))))
      (none.none (get_or ps y 0))
      ∙ any_until y (length m) (λ z. marked m z && (not (eqb z 0) && eqb (get_or ps z 0) (get_or ps y 0)))
      (λ x. marked m x && is_later ps x y)
      (omega arith)
      (λ x l. rw (lt-ltb x y l) refl)
      (λ x l g. rw (le-ltb x y l, and-false, and-false) refl)

  pub later_first : (out : List Bool) → NoMarks out → DoneBelow (image (is_later ps) m) 1 out
  later_first out none =
      record {
        each = λ k h. none.none k
            ∙ sym (any_none (length m) (λ x. marked m x && is_later ps x k)
            (λ x l. rw (le-ltb x k (omega arith), and-false, and-false) refl));
      }

  -- the parents of the marked rows from y on are marked
  pub record SpreadFrom (y : ℕ) (out : List Bool) : Type 0 where
    pub each : (p : ℕ) → marked out p ≡ any_below (length m) (λ x. marked m x && (leb y x && eqb p (get_or ps x 0)))

  pub spread_end : (n : ℕ) (out : List Bool) → length m ≤ n → NoMarks out → SpreadFrom n out
  spread_end n out h none =
      record {
        each = λ p. none.none p
            ∙ sym (any_none (length m) (λ x. marked m x && (leb n x && eqb p (get_or ps x 0)))
            (λ x l. rw (le-leb_false n x (omega arith), and-false) refl));
      }

  pub spread_down : (v y : ℕ) (out out' : List Bool) → suc v ≡ y → v < length m → get_or ps v 0 < length out →
      SpreadFrom y out → out' ≡ cond (marked m v) (set out (get_or ps v 0) true) out → SpreadFrom v out'
  spread_down v y out out' s h l u e =
      record {
        each = λ p. ap (λ (o : List Bool). marked o p) e
            ∙ by_mark p (marked m v) _ (u.each p
            ∙ ap (λ (i : ℕ). any_below (length m) (λ x. marked m x && (leb i x && eqb p (get_or ps x 0)))) (sym s))
            ∙ sym (any_down (length m) v (marked m) (λ x. eqb p (get_or ps x 0)) h);
      }
    where
      by_mark : (p : ℕ) (b c : Bool) → marked out p ≡ c →
          marked (cond b (set out (get_or ps v 0) true) out) p ≡ (c || (b && eqb p (get_or ps v 0)))
      by_mark p true c f =
          ⊎_elim
          (λ q. rw (eq-eqb p (get_or ps v 0) q, or-true)
          (ap (λ (i : ℕ). marked (set out (get_or ps v 0) true) i) q
          ∙ get_or-set_same out (get_or ps v 0) true false l))
          (λ ne. rw (ne_eqb p (get_or ps v 0) ne, or-false)
          (get_or-set_other out (get_or ps v 0) p true false ne ∙ f))
          (eq_or_ne p (get_or ps v 0))
      by_mark p false c f = f ∙ sym (or-false c)

  pub earlier_value : (v y : ℕ) (seen : List Bool) → suc v ≡ y → 0 < v → SpreadFrom y seen →
      marked seen (get_or ps v 0) ≡ image (is_earlier ps) m v
  earlier_value v y seen s h u =
      u.each (get_or ps v 0)
      ∙ any_cong (λ x. marked m x && (leb y x && eqb (get_or ps v 0) (get_or ps x 0)))
      (λ x. marked m x && is_earlier ps x v) (length m)
      (λ x l. rw (ne_eqb v 0 (λ z. omega arith)) (ap (λ (i : ℕ). marked m x
      && (leb i x && eqb (get_or ps v 0) (get_or ps x 0))) (sym s)))

-- with row 0, which has no mark
pub earlier_all : (m : List Bool) (ps : List ℕ) (out : List Bool) (y : ℕ) → y ≤ 1 → length out ≡ length m →
    DoneFrom (image (is_earlier ps) m) y out → ((k : ℕ) → k < 1 → marked out k ≡ false) → Image (is_earlier ps) m out
earlier_all m ps out y l size u low =
    record {
      size = size;
      each = λ k h. ⊎_elim
          (λ e. low k (omega arith)
          ∙ sym (any_none (length m) (λ x. marked m x && is_earlier ps x k) (λ x g. rw (eq-eqb k 0 e, and-false) refl)))
          (λ ne. u.each k (omega (arith, ne)) (omega (arith, size, h)))
          (eq_or_ne k 0);
    }
