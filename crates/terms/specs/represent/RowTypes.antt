-- The code's rows, fields and results of searches as the definitions have them.
use Rattle.std.specs.Prelude.{ℕ, ◌<◌, ◌≤◌, ◌≡◌, List, length, Option, Some, None}
use Rattle.common.specs.declared.row_kind.RowKind.{RowKind}
use Rattle.common.specs.represent.Numbers.{row_number}
use Rattle.terms.specs.declared.Row.{Row as CodeRow}
use Rattle.terms.specs.declared.Field.{Field as CodeField}
use Rattle.terms.specs.declared.Field.TheVariants.{Unused, Axis, Test, Name, Path, Qualifier}
use Rattle.terms.specs.Row.{Row, row_at}
use Rattle.terms.specs.Fields.{Field, unused, axis, test, name, path, qualifier, Fields, fields, max_kind}

abbrev pub row_of : CodeRow → Row
row_of r = record { kind = r.kind; a = r.a; b = r.b; c = r.c }

-- o is row i of rs; none past the last
abbrev pub RowIs : Option CodeRow → List Row → (i : ℕ) → Type 0
RowIs None rs i = length rs ≤ i
RowIs (Some r) rs i = (row_of r ≡ row_at rs i) × (i < length rs)

abbrev pub field_of : CodeField → Field
field_of Unused = unused
field_of Axis = axis
field_of Test = test
field_of Name = name
field_of Path = path
field_of Qualifier = qualifier

-- what the three fields must be
abbrev pub fields_in : CodeField → CodeField → CodeField → Fields
fields_in x y z = fields (field_of x) (field_of y) (field_of z)

-- o is the kind that has the number n; none where no kind has it
abbrev pub KindIs : Option RowKind → ℕ → Type 0
KindIs None n = max_kind < n
KindIs (Some kind) n = row_number kind ≡ n

-- o is the place n, counted from 1; none where n is 0
abbrev pub PlaceIs : Option ℕ → (n : ℕ) → Type 0
PlaceIs None n = n ≡ 0
PlaceIs (Some place) n = (n ≡ place) × (0 < place)

-- o is the number n that a search gives; none where n is how many there are, `count`
abbrev pub FoundIs : Option ℕ → (n count : ℕ) → Type 0
FoundIs None n count = n ≡ count
FoundIs (Some i) n count = (n ≡ i) × (i < count)
