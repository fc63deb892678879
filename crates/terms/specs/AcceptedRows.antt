-- The tables that accepted rows build.
use Rattle.std.specs.Prelude.{Bool, ◌&&◌, List, [], ◌∷◌, ◌++◌, T, leb, eqb, length}
use Rattle.terms.specs.Row.{Row, find}
use Rattle.terms.specs.Fields.{max_kind, bad_place}
use Rattle.terms.specs.Nesting.{max_nesting, nesting}

-- r is well formed after the rows rs: its kind, its fields and its nesting are as they must be
unfoldable pub is_well_formed : List Row → Row → Bool
is_well_formed rs r = leb r.kind max_kind && eqb (bad_place rs r) 0 && leb (nesting rs r) max_nesting

-- no row of rs is r
unfoldable pub is_new : List Row → Row → Bool
is_new rs r = eqb (find rs r) (length rs)

-- each row well formed and new when it came
pub data Built : List Row → Type 0 where
  empty : Built []
  more : {rs : List Row} (r : Row) → Built rs → T (is_well_formed rs r) → T (is_new rs r) → Built (rs ++ (r ∷ []))
