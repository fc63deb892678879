-- How the fields of a row are compared, by its kind, and what a row stands for.
use Rattle.std.specs.Prelude.{ℕ, ◌≡◌, Bool, false, cond, ◌&&◌, List, leb, ltb, get_or, Option, Some, None}
use Rattle.std.specs.declared.cmp.Ordering.{Ordering}
use Rattle.std.specs.declared.cmp.Ordering.TheVariants.{Less, Equal, Greater}
use Rattle.common.specs.RowKinds.{void_row, false_row}
use Rattle.terms.specs.Row.{Row, row_at}
use Rattle.terms.specs.Fields.{Field, max_kind, is_path, is_qualifier}
use Rattle.terms.specs.Fields as field
use Rattle.terms.specs.Terms.{Term, path_in, qualifier_in, term_at}
use Rattle.term_order.specs.Order.{Order, less, equal, greater}
use Rattle.term_order.specs.TermOrder.{TermField, number, operand, unused, path_row, qualifier_row}

-- what the code's comparisons return
abbrev pub order_of : Ordering → Order
order_of Less = less
order_of Equal = equal
order_of Greater = greater

-- the kind of a row's term: a row of a kind above 11 is read as the void path
unfoldable pub term_kind : ℕ → ℕ
term_kind k = cond (leb k max_kind) k void_row

-- what the field x is in a row's term; ts are the terms of the rows before it
unfoldable pub field_as : List Term → Field → ℕ → TermField
field_as ts field.unused x = unused
field_as ts field.axis x = number x
field_as ts field.test x = number x
field_as ts field.name x = number x
field_as ts field.path x = operand (path_row (path_in ts x))
field_as ts field.qualifier x = operand (qualifier_row (qualifier_in ts x))

-- the field x of row i is the number of an earlier row, as the field asks
unfoldable pub is_operand : List Row → (i : ℕ) → Field → ℕ → Bool
is_operand rs i field.unused x = false
is_operand rs i field.axis x = false
is_operand rs i field.test x = false
is_operand rs i field.name x = false
is_operand rs i field.path x = ltb x i && is_path (row_at rs x)
is_operand rs i field.qualifier x = ltb x i && is_qualifier (row_at rs x)

-- the number that stands for a field where it is no operand, or the other one is none: the kind of an operand, where
-- what is none is read as the void path or as false
unfoldable pub number_as : List Row → (i : ℕ) → Field → ℕ → ℕ
number_as rs i field.unused x = 0
number_as rs i field.axis x = x
number_as rs i field.test x = x
number_as rs i field.name x = x
number_as rs i field.path x = cond (is_operand rs i field.path x) (row_at rs x).kind void_row
number_as rs i field.qualifier x = cond (is_operand rs i field.qualifier x) (row_at rs x).kind false_row

module _ (rs ss : List Row) where
  -- what a table of noted rows says is so: at i stands j where rows i and j have the same term, or none
  unfoldable pub Noted : List (Option ℕ) → Type 0
  Noted xs = (i j : ℕ) → get_or xs i None ≡ Some j → term_at rs i ≡ term_at ss j

  -- a comparison's answer, and what is noted then
  pub record Compared (o : Order) (r : Ordering) (xs : List (Option ℕ)) : Type 0 where
    pub answer : order_of r ≡ o
    pub noted : Noted xs
