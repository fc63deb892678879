-- The document of lent numbers, row by row.
use Prim.Native.Nat.{ℕ, zero, suc, ◌+◌, ◌*◌, ◌/◌, ◌<◌}
use mathlib.Core.Path.{◌≡◌, refl, ◌∙◌, ap}
use mathlib.Core.Bool.{Bool, true, false, cond}
use mathlib.Core.List.{List, [], ◌∷◌}
use native.Mathlib.Omega.{arith}
use lib.Dec.{ltb}
use lib.ListN.{length, get_or, get_or-eq_default}
use Rattle.std.specs.Int.{div_ceil}
use Rattle.std.proofs.Common.{map}
use Rattle.std.specs.Simd.{first_chunks}
use borrow.Author.Tests.{ltb-true, ltb-false}
use Rattle.xpath.specs.private.Nodes.{node_in}
use Rattle.xpath.specs.Document.{Node, node, root_node, kind_at, parent_at, name_at, document_of, lent_rows}

-- a whole row is three numbers
pub nodes_lent : (xs : List ℕ) → length (document_of xs) ≡ length xs / 3
unfolding document_of
nodes_lent [] = refl
nodes_lent (k ∷ []) = refl
nodes_lent (k ∷ p ∷ []) = refl
nodes_lent (k ∷ p ∷ m ∷ xs) = let h = nodes_lent xs in omega arith

-- the nodes are the numbers three by three
pub nodes_by_three : (n : ℕ) (xs : List ℕ) → n ≡ length xs / 3 → map node_in (first_chunks 3 n xs) ≡ document_of xs
unfolding document_of
nodes_by_three zero [] e = refl
nodes_by_three (suc n) [] e = absurd (omega arith)
nodes_by_three zero (k ∷ []) e = refl
nodes_by_three (suc n) (k ∷ []) e = absurd (omega arith)
nodes_by_three zero (k ∷ p ∷ []) e = refl
nodes_by_three (suc n) (k ∷ p ∷ []) e = absurd (omega arith)
nodes_by_three zero (k ∷ p ∷ m ∷ xs) e = absurd (omega arith)
nodes_by_three (suc n) (k ∷ p ∷ m ∷ xs) e =
    ap (λ (ns : List Node). node k p m ∷ ns) (nodes_by_three n xs (omega arith))

-- row n of the numbers
abbrev lent_node : List ℕ → ℕ → Node
lent_node xs n = node (get_or xs (3 * n + 0) 0) (get_or xs (3 * n + 1) 0) (get_or xs (3 * n + 2) 0)

past_row : (k p m : ℕ) (xs : List ℕ) (n j : ℕ) → get_or (k ∷ p ∷ m ∷ xs) (3 * suc n + j) 0 ≡ get_or xs (3 * n + j) 0
past_row k p m xs n j = let e : 3 * suc n + j ≡ suc (suc (suc (3 * n + j))) = omega arith in rw e

whole_row : (xs : List ℕ) (n : ℕ) → n < length xs / 3 → get_or (document_of xs) n root_node ≡ lent_node xs n
unfolding document_of
whole_row [] n l = absurd (omega arith)
whole_row (k ∷ []) n l = absurd (omega arith)
whole_row (k ∷ p ∷ []) n l = absurd (omega arith)
whole_row (k ∷ p ∷ m ∷ xs) zero l = refl
whole_row (k ∷ p ∷ m ∷ xs) (suc n) l =
    rw (past_row k p m xs n 0, past_row k p m xs n 1, past_row k p m xs n 2) (whole_row xs n (omega arith))

row_lent : (xs : List ℕ) (n : ℕ) →
    get_or (document_of xs) n root_node ≡ cond (ltb n (length xs / 3)) (lent_node xs n) root_node
row_lent xs n = by_test (ltb n (length xs / 3)) refl
  where
    by_test : (b : Bool) → ltb n (length xs / 3) ≡ b → get_or (document_of xs) n root_node
        ≡ cond b (lent_node xs n) root_node
    by_test true e = whole_row xs n (ltb-true n (length xs / 3) e)
    by_test false e = get_or-eq_default (document_of xs) root_node (rw nodes_lent (ltb-false n (length xs / 3) e))

-- a field of a row is the number at its place, if the row is whole
module _ (xs : List ℕ) (n : ℕ) where
  field_of : (f : Node → ℕ) → f root_node ≡ 0 →
      f (get_or (document_of xs) n root_node) ≡ cond (ltb n (length xs / 3)) (f (lent_node xs n)) 0
  field_of f e = ap f (row_lent xs n) ∙ by_test (ltb n (length xs / 3))
    where
      by_test : (b : Bool) → f (cond b (lent_node xs n) root_node) ≡ cond b (f (lent_node xs n)) 0
      by_test true = refl
      by_test false = e

  pub kind_lent : kind_at (document_of xs) n ≡ cond (ltb n (length xs / 3)) (get_or xs (3 * n + 0) 0) 0
  unfolding kind_at
  kind_lent = field_of (λ r. r.kind) refl

  pub parent_lent : parent_at (document_of xs) n ≡ cond (ltb n (length xs / 3)) (get_or xs (3 * n + 1) 0) 0
  unfolding parent_at
  parent_lent = field_of (λ r. r.parent) refl

  pub name_lent : name_at (document_of xs) n ≡ cond (ltb n (length xs / 3)) (get_or xs (3 * n + 2) 0) 0
  unfolding name_at
  name_lent = field_of (λ r. r.name) refl

-- a last row that is not whole counts
pub rows_counted : (xs : List ℕ) → div_ceil (length xs) 3 ≡ lent_rows xs
unfolding lent_rows
rows_counted xs = omega arith
