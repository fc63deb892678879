-- Documents have no limit but that of the calls: there is a well-formed one of each size from 1.
use Rattle.std.specs.Prelude.{ℕ, zero, suc, ◌+◌, ◌≤◌, ◌<◌, ◌≡◌, refl, true, ◌||◌, ◌∷◌, T, leb, eqb, length, get_or}
use Rattle.std.proofs.Common.{ap, arith, ne_eqb}
use Rattle.std.proofs.Math.Facts.{yes_and, yes_leb}
use Rattle.common.specs.Bounded.{all_below}
use Rattle.xpath.specs.Document.{Document, node, root_node, kind_at, parent_at, name_at}
use Rattle.xpath.specs.Document.{is_child, climb_meets, is_ancestor, kind_and_name_ok, row_ok, well_formed}
use Rattle.xpath.specs.values.DocumentCases.{texts}

-- n texts under a root
abbrev sized : ℕ → Document
sized n = root_node ∷ texts n

texts_counted : (n : ℕ) → length (texts n) ≡ n
texts_counted zero = refl
texts_counted (suc n) = ap suc (texts_counted n)

text_at : (n k : ℕ) → k < n → get_or (texts n) k root_node ≡ node 2 0 0
text_at zero k l = absurd (omega arith)
text_at (suc n) zero l = refl
text_at (suc n) (suc k) l = text_at n k (omega arith)

-- the fields of the rows
kind_0 : (n : ℕ) → kind_at (sized n) 0 ≡ 0
unfolding kind_at
kind_0 n = refl

kind_2 : (n k : ℕ) → k < n → kind_at (sized n) (suc k) ≡ 2
unfolding kind_at
kind_2 n k l = ap (λ r. r.kind) (text_at n k l)

parent_0 : (n k : ℕ) → k < n → parent_at (sized n) (suc k) ≡ 0
unfolding parent_at
parent_0 n k l = ap (λ r. r.parent) (text_at n k l)

name_0 : (n k : ℕ) → k < n → name_at (sized n) (suc k) ≡ 0
unfolding name_at
name_0 n k l = ap (λ r. r.name) (text_at n k l)

-- row k is row 0 or a row under it
under_root : (n k : ℕ) → k ≤ n → (eqb 0 k || is_ancestor (sized n) 0 k) ≡ true
unfolding is_ancestor climb_meets is_child
under_root n zero l = refl
under_root n (suc k) l =
    rw (parent_0 n k (omega arith), ne_eqb 0 (suc k) (λ e. omega arith), ne_eqb (suc k) 0 (λ e. omega arith)) refl

first_ok : (n : ℕ) → T (row_ok (sized n) 0)
unfolding row_ok kind_at parent_at name_at
first_ok n = tt

row_ok_lem : (n k : ℕ) → k ≤ n → T (row_ok (sized n) k)
unfolding row_ok kind_and_name_ok
row_ok_lem n zero l = first_ok n
row_ok_lem n (suc k) l =
    rw (parent_0 n k l, kind_0 n, kind_2 n k l, name_0 n k l, under_root n k (omega arith)) tt

rows_ok : (n m : ℕ) → m ≤ suc n → T (all_below m (row_ok (sized n)))
unfolding all_below
rows_ok n zero l = tt
rows_ok n (suc m) l =
    yes_and (all_below m (row_ok (sized n))) (row_ok (sized n) m) (rows_ok n m (omega arith))
    (row_ok_lem n m (omega arith))

pub any_size : (n : ℕ) → length (sized n) ≡ n + 1 × T (well_formed (sized n))
unfolding well_formed
any_size n = (
  omega (arith, texts_counted n),
  rw (texts_counted n)
      (yes_and (leb 1 (suc n)) (all_below (suc n) (row_ok (sized n))) (yes_leb {a = 1} {b = suc n} (omega arith))
      (rows_ok n (suc n) (omega arith))),
)
