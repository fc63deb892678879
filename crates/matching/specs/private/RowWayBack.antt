-- The way back, judged on row numbers: no term is expanded.
use Rattle.std.specs.Prelude.{ℕ, ◌<◌, ◌≡◌, Bool, true, false, ◌&&◌, List, [], ◌∷◌, eqb, length, get_or}
use Rattle.std.specs.Prelude.{Option, Some, None}
use Rattle.common.specs.Axes.{self}
use Rattle.common.specs.NodeTests.{node_test}
use Rattle.common.specs.RowKinds.{void_row, step_row, union_row, composition_row, filter_row, not_row, inclusion_row}
use Rattle.terms.specs.Row.{Row, row, row_at, entries_from, same_row}
use Rattle.rules.specs.Order.{is_pair}
use Rattle.rules.specs.WayBack.{opposites}

-- row j is the way back of row i, by the ways back of the first rows
abbrev pub back_in : List (ℕ → Bool) → ℕ → ℕ → Bool
back_in bs i j = get_or bs i (λ j. false) j

module _ (rs : List Row) where
  -- row i is a step on axis a with test t and name c
  unfoldable pub is_step : (i a t c : ℕ) → Bool
  is_step i a t c = same_row (row_at rs i) (row step_row a t c)

  -- y is self::N, then the opposite axis with node(), for x, which is a step
  unfoldable pub is_step_back : Row → Row → Bool
  is_step_back x y =
      let z = row_at rs y.b in
      eqb y.kind composition_row
      && (is_step y.a self x.b x.c && (is_pair opposites x.a z.a && is_step y.b z.a node_test 0))

  -- y is .[f], then a path, for x, whose qualifier is f
  unfoldable pub is_filter_back : Row → Row → Bool
  is_filter_back x y =
      let z = row_at rs y.a in
      eqb y.kind composition_row && (eqb z.kind filter_row && eqb z.b x.b && is_step z.a self node_test 0)

  -- for x of each kind: y is its way back, by a test for their operands
  abbrev pub back_by_kind : (ℕ → ℕ → Bool) → Row → Row → List Bool
  back_by_kind back x y =
      false  -- void
      ∷ false  -- root
      ∷ is_step_back x y
      ∷ (eqb y.kind union_row && (back x.a y.a && back x.b y.b))
      ∷ (eqb y.kind composition_row && (back x.b y.a && back x.a y.b))
      ∷ (is_filter_back x y && back x.a y.b)
      ∷ []

  unfoldable pub is_back_by : (ℕ → ℕ → Bool) → Row → Row → Bool
  is_back_by back x y = get_or (back_by_kind back x y) x.kind false

  -- row j is the way back of x, by the ways back of the rows before x
  abbrev pub back_after : List (ℕ → Bool) → Row → ℕ → Bool
  back_after bs x j = is_back_by (back_in bs) x (row_at rs j)

  -- for each row, in order, which rows are its way back
  unfoldable pub backs : List (ℕ → Bool)
  backs = entries_from back_after [] rs

  -- row j is the way back of row i
  unfoldable pub is_back : ℕ → ℕ → Bool
  is_back i j = back_in backs i j

  -- row right is left[some w], and w is the way back of row left
  unfoldable pub is_with_back : (left right : ℕ) → Bool
  is_with_back left right =
      let y = row_at rs right in
      let f = row_at rs y.b in
      let g = row_at rs f.a in
      eqb y.kind filter_row && eqb y.a left
      && (eqb f.kind not_row && (eqb g.kind inclusion_row && eqb (row_at rs g.b).kind void_row))
      && is_back left g.a

  -- what a table of noted rows says is so: at i stands j where row j is the way back of row i, or none
  unfoldable pub Noted : List (Option ℕ) → Type 0
  Noted xs = (i j : ℕ) → get_or xs i None ≡ Some j → is_back i j ≡ true

  -- whether row j is the way back of row i, and what is noted then: what is found of a path other than a step is
  pub record BackFound (i j : ℕ) (found : Bool) (xs : List (Option ℕ)) : Type 0 where
    pub answer : found ≡ is_back i j
    pub noted : Noted xs
    pub found_noted : found ≡ true → ¬ ((row_at rs i).kind ≡ step_row) → i < length xs → get_or xs i None ≡ Some j
