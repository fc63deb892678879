-- What each field of each kind of row must be, and the place of the first bad field.
use Rattle.std.specs.Prelude.{ℕ, Bool, cond, ◌&&◌, ◌||◌, not, List, [], ◌∷◌, ltb, leb, eqb, length, get_or}
use Rattle.common.specs.Axes.{max_axis}
use Rattle.common.specs.NodeTests.{name_test, target_test, max_test}
use Rattle.common.specs.RowKinds.{filter_row, true_row, inclusion_row}
use Rattle.terms.specs.Row.{Row, row_at}

-- what a field must be; the name's field depends on the row's test
pub data Field : Type 0 where
  unused axis test name path qualifier : Field

pub record Fields : Type 0 where
  pub a : Field
  pub b : Field
  pub c : Field

abbrev pub fields : Field → Field → Field → Fields
fields x y z = record { a = x; b = y; c = z }

abbrev pub no_fields : Fields
no_fields = fields unused unused unused

abbrev pub max_kind : ℕ
max_kind = inclusion_row

-- a line for each kind from void_row to inclusion_row
unfoldable pub fields_of : ℕ → Fields
fields_of kind =
    get_or
    (no_fields  -- 0 void
    ∷ no_fields  -- 1 root
    ∷ fields axis test name  -- 2 step
    ∷ fields path path unused  -- 3 union
    ∷ fields path path unused  -- 4 composition
    ∷ fields path qualifier unused  -- 5 filter
    ∷ no_fields  -- 6 true
    ∷ no_fields  -- 7 false
    ∷ fields qualifier unused unused  -- 8 not
    ∷ fields qualifier qualifier unused  -- 9 and
    ∷ fields qualifier qualifier unused  -- 10 or
    ∷ fields path path unused  -- 11 inclusion
    ∷ [])
    kind no_fields

-- the kinds up to filter are paths, those from true on qualifiers
abbrev pub last_path : ℕ
last_path = filter_row

unfoldable pub is_path : Row → Bool
is_path r = leb r.kind last_path

abbrev pub first_qualifier : ℕ
first_qualifier = true_row

unfoldable pub is_qualifier : Row → Bool
is_qualifier r = leb first_qualifier r.kind && leb r.kind max_kind

-- x is the number of a held path, or of a held qualifier
unfoldable pub held_path : List Row → ℕ → Bool
held_path rs x = ltb x (length rs) && is_path (row_at rs x)

unfoldable pub held_qualifier : List Row → ℕ → Bool
held_qualifier rs x = ltb x (length rs) && is_qualifier (row_at rs x)

-- the field x is what its place asks, in a row whose test is t
unfoldable pub field_ok : List Row → Field → ℕ → ℕ → Bool
field_ok rs unused x t = eqb x 0
field_ok rs axis x t = leb x max_axis
field_ok rs test x t = leb x max_test
field_ok rs name x t = cond (eqb t name_test || eqb t target_test) (leb 1 x) (eqb x 0)
field_ok rs path x t = held_path rs x
field_ok rs qualifier x t = held_qualifier rs x

-- the first place, 1 to 3, whose field is bad, after the rows rs; 0 if there is none
unfoldable pub bad_place : List Row → Row → ℕ
bad_place rs r =
    cond (not (field_ok rs (fields_of r.kind).a r.a r.b)) 1
    (cond (not (field_ok rs (fields_of r.kind).b r.b r.b)) 2
    (cond (not (field_ok rs (fields_of r.kind).c r.c r.b)) 3 0))
