-- Whether some number below a bound passes a test, step by step.
use Prim.Native.Nat.{ℕ, zero, suc, ◌≤◌, ◌<◌}
use mathlib.Core.Path.{◌≡◌, sym, subst, ◌∙◌}
use mathlib.Core.Bool.{Bool, true, false, ◌&&◌, ◌||◌}
use mathlib.Core.Logic.{inl, inr, ⊎_elim}
use native.Mathlib.Omega.{arith}
use lib.Dec.{T, leb, eqb, leb→le, le→leb}
use mir.Facts.{and_yes, yes_and, or_yes, eqb_yes, yes_eqb}
use Rattle.common.specs.Bounded.{any_below}
use Rattle.common.proofs.Reflect.{tests_equal, any_yes, yes_any, yes_or, le_or_lt, eq_or_ne}

pub subst_T : {a b : Bool} → a ≡ b → T a → T b
subst_T e t = subst (λ (b : Bool). T b) e t

-- none from y on passes
pub any_until : (y n : ℕ) (f g : ℕ → Bool) → y ≤ n → ((x : ℕ) → x < y → f x ≡ g x) →
    ((x : ℕ) → y ≤ x → x < n → g x ≡ false) → any_below y f ≡ any_below n g
any_until y n f g l same none =
    tests_equal (any_below y f) (any_below n g) (
      λ t. let r = any_yes y f t in yes_any n g r.0 (omega (arith, r.1)) (subst_T (same r.0 r.1) r.2),
      λ t. let r = any_yes n g t in
          ⊎_elim
          (λ h. absurd (subst_T (none r.0 h r.1) r.2))
          (λ h. yes_any y f r.0 h (subst_T (sym (same r.0 h)) r.2))
          (le_or_lt y r.0),
    )

pub any_none : (n : ℕ) (f : ℕ → Bool) → ((x : ℕ) → x < n → f x ≡ false) → any_below n f ≡ false
any_none n f none =
    tests_equal (any_below n f) false
    (λ t. let r = any_yes n f t in subst_T (none r.0 r.1) r.2, λ t. absurd t)

-- only k may pass
pub any_single : (n k : ℕ) (f : ℕ → Bool) → k < n → any_below n (λ x. f x && eqb k x) ≡ f k
any_single n k f l =
    tests_equal (any_below n (λ x. f x && eqb k x)) (f k) (
      λ t. let r = any_yes n (λ x. f x && eqb k x) t in
          let p = and_yes (f r.0) (eqb k r.0) r.2 in
          let e : k ≡ r.0 = eqb_yes p.1 in subst (λ (z : ℕ). T (f z)) (sym e) p.0,
      λ t. yes_any n (λ x. f x && eqb k x) k l (yes_and (f k) (eqb k k) t (yes_eqb {a = k} {b = k} (omega arith))),
    )

-- those from v on are v and those after it
pub any_down : (n v : ℕ) (m q : ℕ → Bool) → v < n →
    any_below n (λ x. m x && (leb v x && q x)) ≡ (any_below n (λ x. m x && (leb (suc v) x && q x)) || (m v && q v))
any_down n v m q l =
    tests_equal (any_below n (λ x. m x && (leb v x && q x)))
    (any_below n (λ x. m x && (leb (suc v) x && q x)) || (m v && q v)) (
      λ t. let r = any_yes n (λ x. m x && (leb v x && q x)) t in
          let p = and_yes (m r.0) (leb v r.0 && q r.0) r.2 in
          let u = and_yes (leb v r.0) (q r.0) p.1 in
          let g : v ≤ r.0 = leb→le v r.0 u.0 in
          yes_or (any_below n (λ x. m x && (leb (suc v) x && q x))) (m v && q v)
          (⊎_elim
          (λ e. inr (subst (λ (z : ℕ). T (m z && q z)) e (yes_and (m r.0) (q r.0) p.0 u.1)))
          (λ ne. inl (yes_any n (λ x. m x && (leb (suc v) x && q x)) r.0 r.1
          (yes_and (m r.0) (leb (suc v) r.0 && q r.0) p.0
          (yes_and (leb (suc v) r.0) (q r.0) (le→leb (suc v) r.0 (omega (arith, g, ne))) u.1))))
          (eq_or_ne r.0 v)),
      λ t. ⊎_elim
          (λ s. let r = any_yes n (λ x. m x && (leb (suc v) x && q x)) s in
          let p = and_yes (m r.0) (leb (suc v) r.0 && q r.0) r.2 in
          let u = and_yes (leb (suc v) r.0) (q r.0) p.1 in
          let g : suc v ≤ r.0 = leb→le (suc v) r.0 u.0 in
          yes_any n (λ x. m x && (leb v x && q x)) r.0 r.1
          (yes_and (m r.0) (leb v r.0 && q r.0) p.0
          (yes_and (leb v r.0) (q r.0) (le→leb v r.0 (omega (arith, g))) u.1)))
          (λ s. let p = and_yes (m v) (q v) s in
          yes_any n (λ x. m x && (leb v x && q x)) v l
          (yes_and (m v) (leb v v && q v) p.0 (yes_and (leb v v) (q v) (le→leb v v (omega arith)) p.1)))
          (or_yes (any_below n (λ x. m x && (leb (suc v) x && q x))) (m v && q v) t),
    )

-- a test that includes another takes it in
pub or_absorbs : (a b : Bool) → (T a → T b) → b ≡ (a || b)
or_absorbs a b h =
    tests_equal b (a || b) (λ t. yes_or a b (inr t), λ t. ⊎_elim h (λ u. u) (or_yes a b t))
