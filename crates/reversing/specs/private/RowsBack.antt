-- The way back on row numbers: of what a row's way back is made, by the ways back of the rows before it. No term is
-- expanded.
use Rattle.std.specs.Prelude.{ℕ, suc, min, max, cond, ◌||◌, not, List, [], ◌∷◌, eqb, ltb, length, get_or}
use Rattle.std.proofs.Math.Option.{Option, none, some, map}
use Rattle.common.specs.Axes.{self}
use Rattle.common.specs.NodeTests.{node_test}
use Rattle.common.specs.RowKinds.{step_row, union_row, composition_row, filter_row}
use Rattle.common.specs.Refusals.{too_deep, bad_side, not_yielded, terms_full}
use Rattle.terms.specs.Row.{Row, row, entries_from, max_rows}
use Rattle.terms.specs.Fields.{held_path}
use Rattle.terms.specs.Nesting.{max_nesting, nestings}
use Rattle.selector_grammar.specs.Denotes.{Put, put}
use Rattle.selector_grammar.specs.Answer.{Reply, reply}
use Rattle.rules.specs.WayBack.{opposite}

-- a part of a way back: that of an earlier row; a step; or .[f], where row f is the qualifier
pub data Part : Type 0 where
  back : (p : ℕ) → Part
  step : Row → Part
  filter : (f : ℕ) → Part

-- a row of a kind over two parts
pub record Reversal : Type 0 where
  pub kind : ℕ
  pub left : Part
  pub right : Part

abbrev pub reversal : (kind : ℕ) (left right : Part) → Reversal
reversal k u v = record { kind = k; left = u; right = v }

-- self::N, then axis b with node()
abbrev pub step_reversal : Row → (b : ℕ) → Reversal
step_reversal x b = reversal composition_row (step (row step_row self x.b x.c)) (step (row step_row b node_test 0))

-- of what the way back of the row x is made, for each kind that it may have; none where it has another
abbrev pub reversals : Row → List (Option Reversal)
reversals x =
    none  -- void
    ∷ none  -- root
    ∷ map (step_reversal x) (opposite x.a)
    ∷ some (reversal union_row (back x.a) (back x.b))
    ∷ some (reversal composition_row (back x.b) (back x.a))
    ∷ some (reversal composition_row (filter x.b) (back x.a))
    ∷ []

unfoldable pub reversal_of : Row → Option Reversal
reversal_of x = get_or (reversals x) x.kind none

-- the nesting above those of two operands; all that are too deep are counted as one
abbrev pub above : ℕ → ℕ → ℕ
above m n = suc (min max_nesting (max m n))

-- the nesting of a part by those of the rows and of their ways back, and that of the row over two parts; 0 stands for
-- none
unfoldable pub part_nesting : (rows backs : List ℕ) → Part → ℕ
part_nesting ns bs (back p) = get_or bs p 0
part_nesting ns bs (step r) = 1
part_nesting ns bs (filter f) = above 1 (get_or ns f 0)

abbrev pub over : ℕ → ℕ → ℕ
over m n = cond (eqb m 0 || eqb n 0) 0 (above m n)

unfoldable pub reversal_nesting : (rows backs : List ℕ) → Option Reversal → ℕ
reversal_nesting ns bs none = 0
reversal_nesting ns bs (some r) = over (part_nesting ns bs r.left) (part_nesting ns bs r.right)

-- rows that are put by one that puts none
abbrev pub nothing : List Row → Put
nothing rs = record { rows = rs; at = 0 }

-- the left part's, the right part's, and the row of that kind over both
unfoldable pub joined_put : (kind : ℕ) (f g : List Row → Put) → List Row → Put
joined_put k f g rs = let x = f rs in let y = g x.rows in put y.rows (row k x.at y.at 0)

unfoldable pub filter_put : (f : ℕ) → List Row → Put
filter_put f rs = let x = put rs (row step_row self node_test 0) in put x.rows (row filter_row x.at f 0)

-- the rows of a part, by those of the ways back of the first rows
unfoldable pub part_put : List (List Row → Put) → Part → List Row → Put
part_put fs (back p) = get_or fs p nothing
part_put fs (step r) = λ rs. put rs r
part_put fs (filter f) = filter_put f

unfoldable pub reversal_put : List (List Row → Put) → Option Reversal → List Row → Put
reversal_put fs none = nothing
reversal_put fs (some r) = joined_put r.kind (part_put fs r.left) (part_put fs r.right)

module _ (rs : List Row) where
  -- the nesting of each row's way back, and the rows that it needs
  abbrev pub nesting_after : List ℕ → Row → ℕ
  nesting_after bs x = reversal_nesting (nestings rs) bs (reversal_of x)

  unfoldable pub back_nestings : List ℕ
  back_nestings = entries_from nesting_after [] rs

  abbrev pub back_nesting : (i : ℕ) → ℕ
  back_nesting i = get_or back_nestings i 0

  abbrev pub put_after : List (List Row → Put) → Row → List Row → Put
  put_after fs x = reversal_put fs (reversal_of x)

  unfoldable pub back_puts : List (List Row → Put)
  back_puts = entries_from put_after [] rs

  abbrev pub back_put : (i : ℕ) → List Row → Put
  back_put i = get_or back_puts i nothing

  -- the answer to the call way-back, and the rows held afterwards
  unfoldable pub row_reply : (i : ℕ) → Reply
  row_reply i =
      cond (not (held_path rs i)) (reply bad_side 1 rs)
      (cond (eqb (back_nesting i) 0) (reply not_yielded 0 rs)
      (cond (ltb max_nesting (back_nesting i)) (reply too_deep 0 rs)
      (cond (ltb max_rows (length (back_put i rs).rows)) (reply terms_full 0 rs)
      (reply 0 (back_put i rs).at (back_put i rs).rows))))
