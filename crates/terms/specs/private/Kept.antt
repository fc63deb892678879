-- What is kept of the rows of a table while more are put.
use Rattle.std.specs.Prelude.{ℕ, ◌+◌, ◌*◌, ◌%◌, ◌≡◌, Bool, false, List, length, get_or, take}
use Rattle.terms.specs.Row.{Row, row_width, table_of, max_rows, find}
use Rattle.terms.specs.Nesting.{nestings}

-- how many slots a filter has, and the slot that a row falls in
abbrev pub slot_count : ℕ
slot_count = 8192

unfoldable pub slot_of : Row → ℕ
slot_of r = (((r.kind * 37 + r.a) * 41 + r.b) * 43 + r.c) % slot_count

-- the first n rows of a table of numbers
abbrev pub rows_in : List ℕ → (n : ℕ) → List Row
rows_in xs n = table_of (take (row_width * n) xs)

-- a filter of the rows rs: where the slot of a row is false, no row of rs is that row
pub record Filters (rs : List Row) (filter : List Bool) : Type 0 where
  pub size : length filter ≡ slot_count
  pub clear : (r : Row) → get_or filter (slot_of r) false ≡ false → find rs r ≡ length rs

-- the nestings of the rows rs, in order, from the start of a table
pub record Nestings (rs : List Row) (table : List ℕ) : Type 0 where
  pub size : length table ≡ max_rows
  pub entries : take (length rs) table ≡ nestings rs

-- both
pub record Kept (rs : List Row) (table : List ℕ) (filter : List Bool) : Type 0 where
  pub nested : Nestings rs table
  pub filtered : Filters rs filter
