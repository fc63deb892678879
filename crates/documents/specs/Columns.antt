-- Documents of any size, as columns.
use Rattle.std.specs.Prelude.{ℕ, ◌≡◌, ◌<◌, ◌≤◌, List, [], ◌∷◌, T, length, get_or}
use Rattle.xpath.specs.Document.{Document, node, well_formed}
use Rattle.xpath.specs.represent.Ends.{Ends}

-- the document of the columns of kinds, parents and names
unfoldable pub rows_of : (kinds parents names : List ℕ) → Document
rows_of [] ps ns = []
rows_of (k ∷ ks) [] ns = []
rows_of (k ∷ ks) (p ∷ ps) [] = []
rows_of (k ∷ ks) (p ∷ ps) (n ∷ ns) = node k p n ∷ rows_of ks ps ns

-- columns of one length
pub record Even (ks ps ns : List ℕ) : Type 0 where
  pub parents_size : length ps ≡ length ks
  pub names_size : length ns ≡ length ks

-- each parent is a row
pub record Within (ps : List ℕ) : Type 0 where
  pub each : (y : ℕ) → y < length ps → get_or ps y 0 < length ps

-- no end is past the last row
pub record EndsWithin (es : List ℕ) : Type 0 where
  pub each : (y : ℕ) → get_or es y 0 ≤ length es

-- columns of one length, a well-formed document, and the ends of its rows' subtrees
pub record Sound (ks ps ns es : List ℕ) : Type 0 where
  pub parents_size : length ps ≡ length ks
  pub names_size : length ns ≡ length ks
  pub ends_size : length es ≡ length ks
  pub formed : T (well_formed (rows_of ks ps ns))
  pub ends : Ends (rows_of ks ps ns) es
  pub within : Within ps
  pub ends_within : EndsWithin es
