-- The fields of the rows of columns.
use Prim.Native.Nat.{ℕ, zero, suc, ◌+◌}
use mathlib.Core.Path.{◌≡◌, refl, ap}
use mathlib.Core.List.{List, [], ◌∷◌, ◌++◌}
use native.Mathlib.Omega.{arith}
use lib.ListN.{length, get_or}
use Rattle.xpath.specs.Document.{node, kind_at, parent_at, name_at}
use Rattle.documents.specs.Columns.{rows_of}

pub rows_length : (ks ps ns : List ℕ) → length ps ≡ length ks → length ns ≡ length ks →
    length (rows_of ks ps ns) ≡ length ks
unfolding rows_of
rows_length [] ps ns e f = refl
rows_length (k ∷ ks) [] ns e f = absurd (omega arith)
rows_length (k ∷ ks) (p ∷ ps) [] e f = absurd (omega arith)
rows_length (k ∷ ks) (p ∷ ps) (n ∷ ns) e f = ap suc (rows_length ks ps ns (omega arith) (omega arith))

pub rows_pushed : (ks ps ns : List ℕ) (k p n : ℕ) → length ps ≡ length ks → length ns ≡ length ks →
    rows_of (ks ++ k ∷ []) (ps ++ p ∷ []) (ns ++ n ∷ []) ≡ rows_of ks ps ns ++ node k p n ∷ []
unfolding rows_of
rows_pushed [] [] [] k p n e f = refl
rows_pushed [] [] (m ∷ ns) k p n e f = absurd (omega arith)
rows_pushed [] (q ∷ ps) ns k p n e f = absurd (omega arith)
rows_pushed (l ∷ ks) [] ns k p n e f = absurd (omega arith)
rows_pushed (l ∷ ks) (q ∷ ps) [] k p n e f = absurd (omega arith)
rows_pushed (l ∷ ks) (q ∷ ps) (m ∷ ns) k p n e f =
    ap (λ rs. node l q m ∷ rs) (rows_pushed ks ps ns k p n (omega arith) (omega arith))

pub rows_kind : (ks ps ns : List ℕ) → length ps ≡ length ks → length ns ≡ length ks → (y : ℕ) →
    kind_at (rows_of ks ps ns) y ≡ get_or ks y 0
unfolding rows_of kind_at
rows_kind [] ps ns e f y = refl
rows_kind (k ∷ ks) [] ns e f y = absurd (omega arith)
rows_kind (k ∷ ks) (p ∷ ps) [] e f y = absurd (omega arith)
rows_kind (k ∷ ks) (p ∷ ps) (n ∷ ns) e f zero = refl
rows_kind (k ∷ ks) (p ∷ ps) (n ∷ ns) e f (suc y) = rows_kind ks ps ns (omega arith) (omega arith) y

pub rows_parent : (ks ps ns : List ℕ) → length ps ≡ length ks → length ns ≡ length ks → (y : ℕ) →
    parent_at (rows_of ks ps ns) y ≡ get_or ps y 0
unfolding rows_of parent_at
rows_parent [] [] ns e f y = refl
rows_parent [] (p ∷ ps) ns e f y = absurd (omega arith)
rows_parent (k ∷ ks) [] ns e f y = absurd (omega arith)
rows_parent (k ∷ ks) (p ∷ ps) [] e f y = absurd (omega arith)
rows_parent (k ∷ ks) (p ∷ ps) (n ∷ ns) e f zero = refl
rows_parent (k ∷ ks) (p ∷ ps) (n ∷ ns) e f (suc y) = rows_parent ks ps ns (omega arith) (omega arith) y

pub rows_name : (ks ps ns : List ℕ) → length ps ≡ length ks → length ns ≡ length ks → (y : ℕ) →
    name_at (rows_of ks ps ns) y ≡ get_or ns y 0
unfolding rows_of name_at
rows_name [] ps [] e f y = refl
rows_name [] ps (n ∷ ns) e f y = absurd (omega arith)
rows_name (k ∷ ks) [] ns e f y = absurd (omega arith)
rows_name (k ∷ ks) (p ∷ ps) [] e f y = absurd (omega arith)
rows_name (k ∷ ks) (p ∷ ps) (n ∷ ns) e f zero = refl
rows_name (k ∷ ks) (p ∷ ps) (n ∷ ns) e f (suc y) = rows_name ks ps ns (omega arith) (omega arith) y
