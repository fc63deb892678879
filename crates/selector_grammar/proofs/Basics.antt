-- Tests as facts, and walks of the reader over parts of a text.
use Prim.Native.Nat.{ℕ}
use mathlib.Core.Path.{◌≡◌, refl, ◌∙◌}
use mathlib.Core.Bool.{Bool, true, false, cond, ◌||◌}
use mathlib.Core.List.{[], ◌∷◌, ◌++◌, append_assoc, append-nil}
use mathlib.Core.Option.{none, some}
use mathlib.Core.Logic.{⊎_elim}
use native.Mathlib.Omega.{arith}
use Rattle.std.proofs.lemmas.Bool.{and_parts, eqb-true, or_cases}
use lib.Dec.{T, eqb}
use Rattle.common.specs.Lists.{all_of}
use Rattle.selector_grammar.specs.Bytes.{Bytes, is_space, is_start, is_name}
use Rattle.selector_grammar.specs.private.Reader.{State, Next, step, walk, follow}

pub so : (b : Bool) → b ≡ true → T b
so b e = rw e tt

pub is_true : (b : Bool) → T b → b ≡ true
is_true true t = refl
is_true false t = absurd t

-- a test decides
pub branch : {A : Type 0} (P : A → Type 0) (c : Bool) (x y : A) → (c ≡ true → P x) → (c ≡ false → P y)
    → P (cond c x y)
branch P true x y f g = f refl
branch P false x y f g = g refl

-- whitespace is no byte of a name
pub space_cases : (P : ℕ → Type 0) (b : ℕ) → is_space b ≡ true → P 32 → P 9 → P 10 → P 13 → P b
unfolding is_space
space_cases P b t p q r s =
    ⊎_elim (λ h. rw (eqb-true b 32 h) p)
    (λ h. ⊎_elim (λ h. rw (eqb-true b 9 h) q)
    (λ h. ⊎_elim (λ h. rw (eqb-true b 10 h) r) (λ h. rw (eqb-true b 13 h) s)
    (or_cases (eqb b 10) (eqb b 13) h)) (or_cases (eqb b 9) (eqb b 10 || eqb b 13) h))
    (or_cases (eqb b 32) (eqb b 9 || (eqb b 10 || eqb b 13)) t)

pub space_name : (b : ℕ) → is_space b ≡ true → is_name b ≡ false
unfolding is_name is_start
space_name b t = space_cases (λ c. is_name c ≡ false) b t refl refl refl refl

pub space_start : (b : ℕ) → is_space b ≡ true → is_start b ≡ false
unfolding is_start
space_start b t = space_cases (λ c. is_start c ≡ false) b t refl refl refl refl

pub start_name : (b : ℕ) → is_start b ≡ true → is_name b ≡ true
unfolding is_name
start_name b t = rw t

-- walks, joined
pub walk_byte : (st x : State) (y : Next) (b : ℕ) (t : Bytes) → step st b ≡ some x → walk t x ≡ y → walk (b ∷ t) st
    ≡ y
unfolding walk follow
walk_byte st x y b t e f = rw e f

pub walk_next : (st : State) (n y : Next) (b : ℕ) (t : Bytes) → step st b ≡ n → follow n none (λ x. walk t x) ≡ y
    → walk (b ∷ t) st ≡ y
unfolding walk
walk_next st n y b t e f = rw e f

pub walk_join : (s t : Bytes) (st x : State) (y : Next) → walk s st ≡ some x → walk t x ≡ y → walk (s ++ t) st ≡ y
unfolding walk follow
walk_join [] t st x y e f = let h : st ≡ x = cc in rw h f
walk_join (b ∷ s) t st x y e f = go (step st b) refl (λ v h. walk_join s t v x y h f)
  where
    go : (n : Next) → step st b ≡ n → ((v : State) → walk s v ≡ some x → walk (s ++ t) v ≡ y) → walk ((b ∷ s) ++ t) st
        ≡ y
    go none h k = let z : ◌≡◌ {A = Next} none (some x) = rw h at e in let q : ◌≡◌ {A = ℕ} 0 1 =
        cc in absurd (omega arith)
    go (some v) h k = rw h (k v (rw h at e))

-- bytes that a state only collects
module _ (p : ℕ → Bool) (f : Bytes → State)
    (h : (w : Bytes) (c : ℕ) → p c ≡ true → step (f w) c ≡ some (f (w ++ (c ∷ [])))) where
  pub collect : (v : Bytes) (w : Bytes) (t : Bytes) → all_of p v ≡ true → walk (v ++ t) (f w) ≡ walk t (f (w ++ v))
  unfolding all_of
  collect [] w t e = rw append-nil refl
  collect (c ∷ v) w t e =
      let u = and_parts (p c) (all_of p v) e in
      walk_byte (f w) (f (w ++ (c ∷ []))) _ c (v ++ t) (h w c u.0)
      (collect v (w ++ (c ∷ [])) t u.1 ∙ rw append_assoc refl)
