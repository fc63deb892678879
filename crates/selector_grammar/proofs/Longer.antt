-- Rows that are put are only added: what was held stays, in front of the new rows.
use Prim.Native.Nat.{ℕ, ◌≤◌}
use mathlib.Core.Path.{◌≡◌, refl, sym, ap, ◌∙◌}
use mathlib.Core.Bool.{Bool, true, false, cond}
use mathlib.Core.List.{List, [], ◌∷◌, ◌++◌, append_assoc, append-nil}
use native.Mathlib.Omega.{arith}
use lib.Dec.{ltb}
use lib.ListN.{length}
use Rattle.common.specs.RowKinds.{void_row, root_row, step_row, true_row, false_row}
use Rattle.xpath.specs.Term as term
use Rattle.terms.specs.Row.{Row, row, find, max_rows}
use Rattle.selector_grammar.specs.Bytes.{Bytes}
use Rattle.selector_grammar.specs.Words.{number_of}
use Rattle.selector_grammar.specs.Denotes.{put, put_path, put_qual, union_of}
use Rattle.selector_grammar.specs.Answer.{Answers, outside, unnumbered, deep, full, held}

-- ss are the rows rs and new ones after them
abbrev pub Longer : List Row → List Row → Type 0
Longer rs ss = (new : List Row) × (ss ≡ rs ++ new)

pub none_new : (rs : List Row) → Longer rs rs
none_new rs = ([], sym (append-nil rs))

pub then_longer : (rs ss ts : List Row) → Longer rs ss → Longer ss ts → Longer rs ts
then_longer rs ss ts (xs, e) (ys, f) =
    (xs ++ ys, f ∙ ap (λ (q : List Row). q ++ ys) e ∙ append_assoc rs xs ys)

pub put_longer : (rs : List Row) (r : Row) → Longer rs (put rs r).rows
unfolding put
put_longer rs r = go (ltb (find rs r) (length rs))
  where
    go : (b : Bool) → Longer rs (cond b rs (rs ++ (r ∷ [])))
    go true = none_new rs
    go false = (r ∷ [], refl)

-- one more row after two longer lists
row_longer : (rs ss ts : List Row) (r : Row) → Longer rs ss → Longer ss ts → Longer rs (put ts r).rows
row_longer rs ss ts r a b = then_longer rs ts _ (then_longer rs ss ts a b) (put_longer ts r)

mutual
  unfolding put_path put_qual

  pub path_longer : (p : term.Path) (rs : List Row) → Longer rs (put_path p rs).rows
  path_longer term.Void rs = put_longer rs (row void_row 0 0 0)
  path_longer term.Root rs = put_longer rs (row root_row 0 0 0)
  path_longer (term.AxisStep a t c) rs = put_longer rs (row step_row a t c)
  path_longer (term.Union p q) rs =
      row_longer rs _ _ _ (path_longer p rs) (path_longer q (put_path p rs).rows)
  path_longer (term.Composition p q) rs =
      row_longer rs _ _ _ (path_longer p rs) (path_longer q (put_path p rs).rows)
  path_longer (term.Filter p f) rs =
      row_longer rs _ _ _ (path_longer p rs) (qualifier_longer f (put_path p rs).rows)

  pub qualifier_longer : (f : term.Qualifier) (rs : List Row) → Longer rs (put_qual f rs).rows
  qualifier_longer term.True rs = put_longer rs (row true_row 0 0 0)
  qualifier_longer term.False rs = put_longer rs (row false_row 0 0 0)
  qualifier_longer (term.Not f) rs = then_longer rs _ _ (qualifier_longer f rs) (put_longer (put_qual f rs).rows _)
  qualifier_longer (term.And f g) rs =
      row_longer rs _ _ _ (qualifier_longer f rs) (qualifier_longer g (put_qual f rs).rows)
  qualifier_longer (term.Or f g) rs =
      row_longer rs _ _ _ (qualifier_longer f rs) (qualifier_longer g (put_qual f rs).rows)
  qualifier_longer (term.In p q) rs =
      row_longer rs _ _ _ (path_longer p rs) (path_longer q (put_path p rs).rows)

-- so of every answer; a refused text leaves the rows as they were, an accepted one leaves no more than there is room
-- for
module _ (list t : Bytes) (rs : List Row) where
  pub answer_longer : (n v : ℕ) (ss : List Row) → Answers list t rs n v ss → Longer rs ss
  answer_longer n v ss (outside h) = none_new rs
  answer_longer n v ss (unnumbered s e) = none_new rs
  answer_longer n v ss (deep s e h) = none_new rs
  answer_longer n v ss (full s e h i) = none_new rs
  answer_longer n v ss (held u s e h i) = path_longer (union_of (number_of list) u) rs

  pub refused_stays : (n v : ℕ) (ss : List Row) → Answers list t rs n v ss → ¬ (n ≡ 0) → ss ≡ rs
  refused_stays n v ss (outside h) f = refl
  refused_stays n v ss (unnumbered s e) f = refl
  refused_stays n v ss (deep s e h) f = refl
  refused_stays n v ss (full s e h i) f = refl
  refused_stays n v ss (held u s e h i) f = absurd (f refl)

  pub accepted_few : (n v : ℕ) (ss : List Row) → Answers list t rs n v ss → n ≡ 0 → length ss ≤ max_rows
  accepted_few n v ss (outside h) z = absurd (omega arith)
  accepted_few n v ss (unnumbered s e) z = absurd (omega arith)
  accepted_few n v ss (deep s e h) z = absurd (omega arith)
  accepted_few n v ss (full s e h i) z = absurd (omega arith)
  accepted_few n v ss (held u s e h i) z = i
