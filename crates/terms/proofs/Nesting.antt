-- The nestings of the rows of a table.
use Prim.Native.Nat.{ℕ, zero, suc, ◌+◌, ◌<◌, ◌≤◌}
use mathlib.Core.Path.{◌≡◌}
use mathlib.Core.List.{List, [], ◌∷◌, ◌++◌}
use mathlib.Core.Logic.{⊎_elim}
use native.Mathlib.Omega.{arith}
use native.Mathlib.Numerals.{add-one}
use lib.ListN.{length, get_or, take, set, length-take}
use lib.Seq.{take-suc, take-suc-set}
use Rattle.common.proofs.Reflect.{le_or_lt}
use Rattle.terms.specs.Row.{Row, no_row, row_at}
use Rattle.terms.specs.Fields.{Field, unused, axis, test, name, path, qualifier, fields_of}
use Rattle.terms.specs.Nesting.{operand_nesting, nesting_by, nestings, nesting}
use Rattle.terms.proofs.Entries.{entries_snoc, entry_at_lem, entry_past}

pub nestings_snoc : (rs : List Row) (r : Row) → nestings (rs ++ (r ∷ [])) ≡ nestings rs ++ (nesting rs r ∷ [])
unfolding nestings nesting
nestings_snoc rs r = entries_snoc nesting_by rs r

pub nesting_at : (rs : List Row) (i : ℕ) → i < length rs → get_or (nestings rs) i 0 ≡ nesting (take i rs) (row_at rs i)
unfolding nestings nesting
nesting_at rs i h = entry_at_lem nesting_by 0 rs i h

pub nesting_past : (rs : List Row) (i : ℕ) → length rs ≤ i → get_or (nestings rs) i 0 ≡ 0
unfolding nestings
nesting_past rs i h = entry_past nesting_by 0 rs i h

operand_le : (ns : List ℕ) (m : ℕ) → ((k : ℕ) → get_or ns k 0 ≤ m) → (f : Field) (x : ℕ) → operand_nesting ns f x ≤ m
unfolding operand_nesting
operand_le ns m h unused x = omega arith
operand_le ns m h axis x = omega arith
operand_le ns m h test x = omega arith
operand_le ns m h name x = omega arith
operand_le ns m h path x = h x
operand_le ns m h qualifier x = h x

nesting_by_le : (ns : List ℕ) (m : ℕ) → ((k : ℕ) → get_or ns k 0 ≤ m) → (r : Row) → nesting_by ns r ≤ m + 1
unfolding nesting_by
nesting_by_le ns m h r =
    omega (arith, operand_le ns m h (fields_of r.kind).a r.a, operand_le ns m h (fields_of r.kind).b r.b)

entry_le : (n : ℕ) (rs : List Row) (k : ℕ) → length rs ≤ n →
    (length (take k rs) < n → nesting (take k rs) (row_at rs k) ≤ n) →
    get_or (nestings rs) k 0 ≤ n
entry_le n rs k h g = ⊎_elim past inside (le_or_lt (length rs) k)
  where
    past : length rs ≤ k → get_or (nestings rs) k 0 ≤ n
    past l = rw (nesting_past rs k l) (omega arith)

    inside : k < length rs → get_or (nestings rs) k 0 ≤ n
    inside l = rw (nesting_at rs k l) (g (omega (arith, length-take k rs)))

nesting_below : (n : ℕ) (rs : List Row) (r : Row) → length rs < n → nesting rs r ≤ n
unfolding nesting
nesting_below zero rs r h = absurd (omega arith)
nesting_below (suc n) rs r h =
    let l = nesting_by_le (nestings rs) n
    (λ k. entry_le n rs k (omega arith) (nesting_below n (take k rs) (row_at rs k))) r in
    omega arith

-- a row nests no deeper than there are rows up to it
pub nesting_le : (rs : List Row) (r : Row) → nesting rs r ≤ length rs + 1
nesting_le rs r = nesting_below (length rs + 1) rs r (omega arith)

-- d, the nesting of the deeper operand of r, by the nestings of the rows qs before it
module _ (qs : List Row) (ns : List ℕ) (r s : Row) (d : ℕ) (f : ns ≡ nestings qs) (g : s ≡ r)
    (e : d + 1 ≡ nesting_by ns s) where
  pub nesting_from : d + 1 ≡ nesting qs r
  unfolding nesting
  nesting_from = rw (← f, ← g) e

  pub deeper_le : d ≤ length qs
  deeper_le = omega (arith, nesting_from, nesting_le qs r)

-- a table t that holds the nestings of the first i rows, with that of row i put behind them
pub nestings_put : (rs : List Row) (t : List ℕ) (i d : ℕ) → i < length rs → i < length t →
    take i t ≡ nestings (take i rs)
    → d + 1 ≡ nesting (take i rs) (row_at rs i) → take (i + 1) (set t i (d + 1)) ≡ nestings (take (i + 1) rs)
nestings_put rs t i d h l f e =
    rw (add-one i, take-suc-set t i (d + 1) l, take-suc rs i no_row h, nestings_snoc (take i rs) (row_at rs i), f, e)
