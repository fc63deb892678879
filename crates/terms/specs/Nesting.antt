-- The nesting of rows: 1, or 1 + that of the deeper operand.
use Rattle.std.specs.Prelude.{ℕ, ◌+◌, max, List, [], get_or}
use Rattle.terms.specs.Row.{Row, entries_from}
use Rattle.terms.specs.Fields.{Field, unused, axis, test, name, path, qualifier, fields_of}

abbrev pub max_nesting : ℕ
max_nesting = 32

-- the nesting of the operand x, by the nestings ns of the rows; a field that is no operand has none
unfoldable pub operand_nesting : List ℕ → Field → ℕ → ℕ
operand_nesting ns unused x = 0
operand_nesting ns axis x = 0
operand_nesting ns test x = 0
operand_nesting ns name x = 0
operand_nesting ns path x = get_or ns x 0
operand_nesting ns qualifier x = get_or ns x 0

-- the nesting of a row by those of the rows before it; only a and b can be operands
unfoldable pub nesting_by : List ℕ → Row → ℕ
nesting_by ns r = 1 + max (operand_nesting ns (fields_of r.kind).a r.a)
    (operand_nesting ns (fields_of r.kind).b r.b)

-- the nestings of the rows of a table, in order
unfoldable pub nestings : List Row → List ℕ
nestings rs = entries_from nesting_by [] rs

-- the nesting of a row whose operands are among rs
unfoldable pub nesting : List Row → Row → ℕ
nesting rs r = nesting_by (nestings rs) r
