-- Lists made row by row.
use Prim.Native.Nat.{ℕ, suc, ◌+◌, ◌<◌, ◌≤◌}
use mathlib.Core.Path.{◌≡◌, refl, sym, ◌∙◌, ap}
use mathlib.Core.List.{List, [], ◌∷◌, ◌++◌, append_assoc, append-nil}
use mathlib.Core.Logic.{⊎_elim}
use native.Mathlib.Omega.{arith}
use lib.ListN.{length, get_or, take, drop, length-append, take-append-drop, get_or-eq_default}
use lib.Seq.{take_at, get_or_at, take_all, take-suc, get_or-take, length-take-le}
use Rattle.common.proofs.Reflect.{le_or_lt}
use Rattle.terms.specs.Row.{Row, no_row, row_at, entries_from}

module _ {X : Type 0} (f : List X → Row → X) where
  -- the entries of more rows go on from those of the first
  pub entries_append : (t : List X) (rs ss : List Row) →
      entries_from f t (rs ++ ss) ≡ entries_from f (entries_from f t rs) ss
  unfolding entries_from
  entries_append t [] ss = refl
  entries_append t (r ∷ rs) ss = entries_append (t ++ (f t r ∷ [])) rs ss

  -- one more row, one more entry
  pub entries_snoc : (rs : List Row) (r : Row) →
      entries_from f [] (rs ++ (r ∷ [])) ≡ entries_from f [] rs ++ (f (entries_from f [] rs) r ∷ [])
  unfolding entries_from
  entries_snoc rs r = entries_append [] rs (r ∷ [])

  length_from : (t : List X) (rs : List Row) → length (entries_from f t rs) ≡ length t + length rs
  unfolding entries_from
  length_from t [] = omega arith
  length_from t (r ∷ rs) = length_from (t ++ (f t r ∷ [])) rs ∙ omega (arith, length-append t (f t r ∷ []))

  pub length_entries : (rs : List Row) → length (entries_from f [] rs) ≡ length rs
  length_entries rs = length_from [] rs ∙ omega arith

  -- the entries that are there stay in front
  grows : (t : List X) (rs : List Row) → (u : List X) × (entries_from f t rs ≡ t ++ u)
  unfolding entries_from
  grows t [] = ([], sym (append-nil t))
  grows t (r ∷ rs) =
      let g = grows (t ++ (f t r ∷ [])) rs in
      (f t r ∷ g.0, g.1 ∙ append_assoc t (f t r ∷ []) g.0)

  -- the entries of a prefix are a prefix
  pub entries_take : (n : ℕ) (rs : List Row) → entries_from f [] (take n rs) ≡ take n (entries_from f [] rs)
  entries_take n rs = ⊎_elim inside (λ h. past (omega arith)) (le_or_lt n (length rs))
    where
      inside : n ≤ length rs → entries_from f [] (take n rs) ≡ take n (entries_from f [] rs)
      inside h =
          let g = grows (entries_from f [] (take n rs)) (drop n rs) in
          let e : entries_from f [] rs ≡ entries_from f [] (take n rs) ++ g.0 =
          ap (entries_from f []) (sym (take-append-drop n rs)) ∙ entries_append [] (take n rs) (drop n rs) ∙ g.1 in
          rw e (sym (take_at (entries_from f [] (take n rs)) g.0 n
          (length_entries (take n rs) ∙ length-take-le n rs h)))

      past : length rs ≤ n → entries_from f [] (take n rs) ≡ take n (entries_from f [] rs)
      past h =
          ap (entries_from f []) (take_all n rs h)
          ∙ sym (take_all n (entries_from f [] rs) (omega (arith, length_entries rs)))

  -- an entry comes from the entries before it and its row
  pub entry_at_lem : (d : X) (rs : List Row) (i : ℕ) → i < length rs →
      get_or (entries_from f [] rs) i d ≡ f (entries_from f [] (take i rs)) (row_at rs i)
  entry_at_lem d rs i h =
      sym (get_or-take (suc i) (entries_from f [] rs) i d (omega arith))
      ∙ ap (λ (l : List X). get_or l i d)
      (sym (entries_take (suc i) rs) ∙ ap (entries_from f []) (take-suc rs i no_row h)
      ∙ entries_snoc (take i rs) (row_at rs i))
      ∙ get_or_at (entries_from f [] (take i rs)) _ [] d i
      (length_entries (take i rs) ∙ length-take-le i rs (omega arith))

  pub entry_past : (d : X) (rs : List Row) (i : ℕ) → length rs ≤ i → get_or (entries_from f [] rs) i d ≡ d
  entry_past d rs i h = get_or-eq_default (entries_from f [] rs) d (omega (arith, length_entries rs))
