-- The search for an equal row.
use Prim.Native.Nat.{ℕ, zero, suc, ◌+◌, ◌<◌, ◌≤◌}
use mathlib.Core.Path.{◌≡◌, refl, ◌∙◌, ap}
use mathlib.Core.Bool.{Bool, true, false, cond}
use mathlib.Core.List.{List, [], ◌∷◌}
use native.Mathlib.Omega.{arith}
use native.Mathlib.Numerals.{add-one}
use lib.Dec.{T}
use mir.Facts.{eqb_yes}
use lib.ListN.{length}
use borrow.Author.Tests.{eq-eqb}
use Rattle.common.proofs.Reflect.{facts, true_iff}
use Rattle.terms.specs.Row.{Row, row_at, same_row, find}
use Rattle.terms.specs.AcceptedRows.{is_new}
use Rattle.terms.specs.represent.RowTypes.{FoundIs}
use Rattle.std.proofs.Common.{map, position, Some, None, ltb}
use Rattle.std.proofs.Common.{add_comm}
use Rattle.std.specs.List.{position_or_len}
use Rattle.std.proofs.lemmas.Bool.{false_from_ne_true}
use Rattle.std.proofs.lemmas.List.Recursion.{is_position_or_len}
use borrow.Author.Tests.{ltb-true, ltb-false}
use lib.ListN.{length-map}

-- rows with the same fields are equal
pub row_equal : {r s : Row} → r.kind ≡ s.kind → r.a ≡ s.a → r.b ≡ s.b → r.c ≡ s.c → r ≡ s
row_equal k x y z = λ i. record { kind = k i; a = x i; b = y i; c = z i }

same_row_self : (r : Row) → same_row r r ≡ true
unfolding same_row
same_row_self r =
    rw (
      eq-eqb r.kind r.kind refl,
      eq-eqb r.a r.a refl,
      eq-eqb r.b r.b refl,
      eq-eqb r.c r.c refl,
    )

pub same_is : (s r : Row) → T (same_row s r) → s ≡ r
unfolding same_row
same_is s r t = let u = simp facts at t in row_equal u.0.0.0 u.0.0.1 u.0.1 u.1

pub same_row_no : (s r : Row) → ¬ (s ≡ r) → same_row s r ≡ false
same_row_no s r f =
    false_from_ne_true (same_row s r) (λ e. f (same_is s r ((true_iff (same_row s r)).1 e)))

pub find_le : (rs : List Row) (r : Row) → find rs r ≤ length rs
unfolding find
find_le [] r = omega arith
find_le (s ∷ rs) r = by (same_row s r) (find_le rs r)
  where
    by : (b : Bool) → find rs r ≤ length rs → cond b 0 (find rs r + 1) ≤ suc (length rs)
    by true h = omega arith
    by false h = omega arith

-- no row before it is that row
pub find_first : (rs : List Row) (r : Row) (i : ℕ) → i < find rs r → ¬ (row_at rs i ≡ r)
unfolding find
find_first [] r i h e = absurd (omega arith)
find_first (s ∷ rs) r zero h e =
    let g = rw (ap (λ (q : Row). same_row q r) e ∙ same_row_self r) at h in omega arith
find_first (s ∷ rs) r (suc i) h e = find_first rs r i (by (same_row s r) h) e
  where
    by : (b : Bool) → suc i < cond b 0 (find rs r + 1) → i < find rs r
    by true g = absurd (omega arith)
    by false g = omega arith

-- the row that is found is that row
pub find_there : (rs : List Row) (r : Row) → find rs r < length rs → row_at rs (find rs r) ≡ r
unfolding find
find_there [] r h = absurd (omega arith)
find_there (s ∷ rs) r h = by (same_row s r) refl h (find_there rs r)
  where
    by : (b : Bool) → same_row s r ≡ b → cond b 0 (find rs r + 1) < suc (length rs)
        → (find rs r < length rs → row_at rs (find rs r) ≡ r) → row_at (s ∷ rs) (cond b 0 (find rs r + 1)) ≡ r
    by true e h later = same_is s r ((true_iff (same_row s r)).1 e)
    by false e h later = ap (row_at (s ∷ rs)) (add-one (find rs r)) ∙ later (omega arith)

-- of a new row, no row is equal to it
pub new_row : (rs : List Row) (r : Row) → T (is_new rs r) → (i : ℕ) → i < length rs → ¬ (row_at rs i ≡ r)
unfolding is_new
new_row rs r t i h = let e : find rs r ≡ length rs = eqb_yes t in find_first rs r i (omega arith)

-- what a search gives among m values, as a place or none
pub placed : (n m : ℕ) → n ≤ m → FoundIs (cond (ltb n m) (Some n) None) n m
placed n m h = by (ltb n m) refl
  where
    by : (b : Bool) → ltb n m ≡ b → FoundIs (cond b (Some n) None) n m
    by true e = (refl, ltb-true n m e)
    by false e = let g = ltb-false n m e in omega arith

-- the search among values that stand for rows
module _ {X : Type 0} (f : X → Row) (r : Row) where
  find_by : (xs : List X) → find (map f xs) r ≡ position_or_len (λ x. same_row (f x) r) xs
  unfolding find
  find_by xs = is_position_or_len (λ xs. find (map f xs) r) (λ x. same_row (f x) r) refl
      (λ x xs. ap (cond (same_row (f x) r) 0) (add_comm (find (map f xs) r) 1)) xs

  pub found_by : (xs : List X) → FoundIs (position (λ x. same_row (f x) r) xs) (find (map f xs) r) (length (map f xs))
  found_by xs =
      rw (length-map xs f, ← find_by xs)
      (placed (find (map f xs) r) (length xs) (omega (arith, find_le (map f xs) r, length-map xs f)))
