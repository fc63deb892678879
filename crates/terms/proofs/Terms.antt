-- The terms of the rows of a table.
use Prim.Native.Nat.{ℕ, ◌<◌, ◌≤◌}
use mathlib.Core.Path.{◌≡◌, sym, ◌∙◌, ap}
use mathlib.Core.List.{List, ◌++◌}
use mathlib.Core.Logic.{⊎_elim}
use native.Mathlib.Omega.{arith}
use lib.ListN.{length, get_or, take, get_or-eq_default}
use lib.Seq.{take-append_seam, get_or-take}
use Rattle.common.proofs.Reflect.{le_or_lt}
use Rattle.xpath.specs.Term.{AxisStep}
use Rattle.terms.specs.Row.{Row, no_row, row_at}
use Rattle.terms.specs.Fields.{max_kind}
use Rattle.terms.specs.Terms.{of_path, of_qualifier, no_term, as_path, term_by, terms, term_at, path_at, qualifier_at}
use Rattle.terms.proofs.ByKind.{kind_of_lem, term_path, term_qualifier}
use Rattle.terms.proofs.Entries.{entries_take, entry_at_lem, entry_past}

pub terms_take : (n : ℕ) (rs : List Row) → terms (take n rs) ≡ take n (terms rs)
unfolding terms
terms_take n rs = entries_take term_by n rs

pub term_past : (rs : List Row) (i : ℕ) → length rs ≤ i → term_at rs i ≡ no_term
unfolding terms term_at
term_past rs i h = entry_past term_by no_term rs i h

-- a row's term comes from the terms of the rows before it
pub term_at_lem : (rs : List Row) (i : ℕ) → term_at rs i ≡ term_by (terms (take i rs)) (row_at rs i)
unfolding terms term_at term_by
term_at_lem rs i = ⊎_elim past (entry_at_lem term_by no_term rs i) (le_or_lt (length rs) i)
  where
    past : length rs ≤ i → get_or (terms rs) i no_term ≡ term_by (terms (take i rs)) (row_at rs i)
    past h = rw (get_or-eq_default rs no_row h) (entry_past term_by no_term rs i h)

-- the rows before row n have the terms that they have in the whole table
pub term_take : (n : ℕ) (rs : List Row) (i : ℕ) → i < n → term_at (take n rs) i ≡ term_at rs i
unfolding term_at
term_take n rs i h = rw (terms_take n rs) (get_or-take n (terms rs) i no_term h)

-- a row's term stays as rows are added
pub term_stays : (rs ss : List Row) (i : ℕ) → i < length rs → term_at (rs ++ ss) i ≡ term_at rs i
term_stays rs ss i h =
    sym (term_take (length rs) (rs ++ ss) i h) ∙ ap (λ (l : List Row). term_at l i) (take-append_seam rs ss)

-- rows of kind 0 to 5 are paths, of kind 6 to 11 qualifiers
pub path_term : (rs : List Row) (i : ℕ) → (row_at rs i).kind ≤ 5 → term_at rs i ≡ of_path (path_at rs i)
path_term rs i h = rw (term_at_lem rs i)
    (term_path (terms (take i rs)) _ _ _ (kind_of_lem (row_at rs i).kind (omega arith)) h)

pub qualifier_term : (rs : List Row) (i : ℕ) → 6 ≤ (row_at rs i).kind → (row_at rs i).kind ≤ max_kind →
    term_at rs i ≡ of_qualifier (qualifier_at rs i)
qualifier_term rs i g h = rw (term_at_lem rs i)
    (term_qualifier (terms (take i rs)) _ _ _ (kind_of_lem (row_at rs i).kind h) g)

-- the path of a row of kind 2
pub step_path : (rs : List Row) (i : ℕ) → (row_at rs i).kind ≡ 2
    → path_at rs i ≡ AxisStep (row_at rs i).a (row_at rs i).b (row_at rs i).c
unfolding as_path term_by
step_path rs i e = ap as_path (term_at_lem rs i) ∙ rw e
