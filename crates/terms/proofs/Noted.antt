-- A table of notes: at i stands j where row j was found for row i, or none.
use Prim.Native.Nat.{ℕ, zero, suc, ◌<◌}
use mathlib.Core.Path.{◌≡◌, sym, ◌∙◌, ap, subst, subst₂}
use mathlib.Core.List.{List}
use mathlib.Core.Logic.{⊎_elim}
use native.Mathlib.Omega.{arith}
use Rattle.std.proofs.Common.{Option, Some, None}
use lib.ListN.{length, get_or, set, replicate, length-set}
use lib.Seq.{set_out, get_or-set_same, get_or-set_other}
use Rattle.common.proofs.Reflect.{eq_or_ne, le_or_lt}

-- what stands at i once it is noted
module _ (xs : List (Option ℕ)) (i j : ℕ) where
  pub note_there : {ys : List (Option ℕ)} → ys ≡ set xs i (Some j) → i < length ys → get_or ys i None ≡ Some j
  note_there {ys} q l =
      let same : length ys ≡ length xs = ap length q ∙ length-set xs i (Some j) in
      ap (λ ys. get_or ys i None) q ∙ get_or-set_same xs i (Some j) None (omega arith)

-- where none is noted
pub nothing_noted : {A : Type 0} (k i j : ℕ) → get_or (replicate k None) i None ≡ Some j → A
nothing_noted zero i j q = let z : ◌≡◌ {A = ℕ} 0 1 = cc in absurd (omega arith)
nothing_noted (suc k) zero j q = let z : ◌≡◌ {A = ℕ} 0 1 = cc in absurd (omega arith)
nothing_noted (suc k) (suc i) j q = nothing_noted k i j q

-- where all that is noted is so, it is after what is so is noted
pub noted_more : (P : ℕ → ℕ → Type 0) (xs : List (Option ℕ)) (i j : ℕ)
    → ((m n : ℕ) → get_or xs m None ≡ Some n → P m n) → P i j
    → (m n : ℕ) → get_or (set xs i (Some j)) m None ≡ Some n → P m n
noted_more P xs i j s e m n q =
    ⊎_elim
    (λ f. ⊎_elim
    (λ h. s m n (sym (ap (λ ys. get_or ys m None) (set_out xs i (Some j) h)) ∙ q))
    (λ h.
    let there : get_or (set xs i (Some j)) i None ≡ Some n =
    subst (λ k. get_or (set xs i (Some j)) k None ≡ Some n) f q in
    let next : Some j ≡ Some n = sym (get_or-set_same xs i (Some j) None h) ∙ there in
    let same : j ≡ n = cc in
    subst₂ P (sym f) same e)
    (le_or_lt (length xs) i))
    (λ f. s m n (sym (get_or-set_other xs i m (Some j) None f) ∙ q))
    (eq_or_ne m i)
