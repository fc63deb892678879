-- Where the subtrees of a document end.
use Rattle.std.specs.Prelude.{ℕ, ◌≤◌, ◌<◌, ◌≡◌, ◌&&◌, List, T, ltb, length, get_or}
use Rattle.xpath.specs.Document.{Document, is_ancestor, well_formed, max_nodes}

-- the subtree of row x ends at e: the rows below x, attributes too, are those after x and before e
pub record EndsAt (d : Document) (x e : ℕ) : Type 0 where
  pub after : x < e
  pub within : e ≤ length d
  pub below : (y : ℕ) → y < length d → is_ancestor d x y ≡ (ltb x y && ltb y e)

-- the end of each row's subtree
pub record Ends (d : Document) (es : List ℕ) : Type 0 where
  pub room : length d ≤ length es
  pub row : (x : ℕ) → x < length d → EndsAt d x (get_or es x 0)

-- a well-formed document that a call takes, and the ends of its rows' subtrees
pub record Prepared (d : Document) (es : List ℕ) : Type 0 where
  pub few : length d ≤ max_nodes
  pub formed : T (well_formed d)
  pub ends : Ends d es

-- room for v rows, and the end of each is v
pub record Filled (v : ℕ) (es : List ℕ) : Type 0 where
  pub room : v ≤ length es
  pub all : (x : ℕ) → x < v → get_or es x 0 ≡ v
