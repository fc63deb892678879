-- What the functions that put rows promise.
use Rattle.std.specs.Prelude.{ℕ, suc, ◌*◌, ◌<◌, ◌≤◌, min, ◌≡◌, Bool, true, false, ◌||◌, List}
use Rattle.std.specs.Prelude.{eqb, length, take, drop, Result, Ok, Err}
use Rattle.std.proofs.Math.Option.{Option, none, some}
use Rattle.selector_grammar.specs.Bytes.{open_byte, colon_byte, open_bracket}
use Rattle.common.specs.RowKinds.{void_row, step_row, composition_row, not_row, inclusion_row}
use Rattle.common.specs.Axes.{descendant_or_self}
use Rattle.common.specs.NodeTests.{node_test}
use Rattle.common.specs.represent.Numbers.{axis_number, test_number}
use Rattle.terms.specs.Row.{Row, row, table_of, max_rows}
use Rattle.terms.specs.Nesting.{max_nesting}
pub use Rattle.terms.specs.Row.{row_width, row_numbers}
use Rattle.selector_grammar.specs.Denotes.{Put, put}
use Rattle.selector_readings.specs.declared.Reading.{Reading}
use Rattle.selector_heads.specs.declared.Head.{Head}
use Rattle.selector_heads.specs.private.Head.{place_of, name_number, name_place}

-- one more than the deepest nesting of a row; a nesting above is counted as this
abbrev pub too_deep_nesting : ℕ
too_deep_nesting = suc max_nesting

abbrev pub capped : ℕ → ℕ
capped n = min too_deep_nesting n

-- where a reading stands, and what it has read; or, if not `ok`, `at` is the first byte that can't continue, and the
-- rest says nothing
pub record Standing : Type 0 where
  pub ok : Bool
  pub at : ℕ
  pub row : ℕ
  pub nesting : ℕ
  pub count : ℕ
  pub fits : Bool
  pub missing : Option ℕ

abbrev pub stands : Reading → Standing
stands r = record {
  ok = true;
  at = r.at;
  row = r.row;
  nesting = r.nesting;
  count = r.count;
  fits = r.fits;
  missing = place_of r.missing;
}

abbrev pub refused_at : ℕ → Standing
refused_at to = record { ok = false; at = to; row = 0; nesting = 0; count = 0; fits = false; missing = none }

-- what a function gave that may refuse
abbrev pub ended : Result Reading ℕ → Standing
ended (Ok r) = stands r
ended (Err to) = refused_at to

-- the same reading elsewhere
abbrev pub moved_to : Standing → ℕ → Standing
moved_to r to = record {
  ok = r.ok;
  at = to;
  row = r.row;
  nesting = r.nesting;
  count = r.count;
  fits = r.fits;
  missing = r.missing;
}

abbrev pub row_taken : Standing → (n count nesting : ℕ) → Standing
row_taken r n count nesting =
    record {
      ok = r.ok;
      at = r.at;
      row = n;
      nesting = nesting;
      count = count;
      fits = r.fits;
      missing = r.missing;
    }

abbrev pub no_room : Standing → (nesting : ℕ) → Standing
no_room r nesting = record {
  ok = r.ok;
  at = r.at;
  row = 0;
  nesting = nesting;
  count = r.count;
  fits = false;
  missing = r.missing;
}

-- a table has its size, and a count is within it
pub record Sized (table : List ℕ) (count : ℕ) : Type 0 where
  pub size : length table ≡ row_width * max_rows
  pub bound : count ≤ max_rows

-- the rows rs are those that are counted, if all fitted; else they are too many
pub record Holds (rs : List Row) (table : List ℕ) (count : ℕ) (fits : Bool) : Type 0 where
  pub rows : fits ≡ true → table_of (take (row_width * count) table) ≡ rs
  pub over : fits ≡ false → max_rows < length rs

-- from the first m rows of the table xs to the first n of the table ys there are no fewer, and what stands past them is
-- the same
pub record Beyond (xs : List ℕ) (m : ℕ) (ys : List ℕ) (n : ℕ) : Type 0 where
  pub more : m ≤ n
  pub rest : drop (row_width * n) ys ≡ drop (row_width * n) xs

-- from the reading x with the table xs to the reading y with the table ys f has put rows, and the term's row is the
-- last one's
pub record Puts (f : List Row → Put) (xs : List ℕ) (x : Standing) (ys : List ℕ) (y : Standing) : Type 0 where
  pub held : (rs : List Row) → Holds rs xs x.count x.fits → Holds (f rs).rows ys y.count y.fits
  pub at : (rs : List Row) → Holds rs xs x.count x.fits → y.fits ≡ true → y.row ≡ (f rs).at
  pub keeps : y.fits ≡ true → x.fits ≡ true
  pub beyond : y.fits ≡ true → Beyond xs x.count ys y.count

-- the same text and names
pub record SameText (x y : Standing) : Type 0 where
  pub ok : y.ok ≡ x.ok
  pub at : y.at ≡ x.at
  pub missing : y.missing ≡ x.missing

-- one row was put
pub record PutMet (r : Row) (nesting : ℕ) (xs : List ℕ) (x : Standing) (ys : List ℕ) (y : Standing) : Type 0 where
  pub sized : Sized ys y.count
  pub puts : Puts (λ rs. put rs r) xs x ys y
  pub text : SameText x y
  pub nest : y.nesting ≡ nesting

-- the first of two places
unfoldable pub first_of : Option ℕ → Option ℕ → Option ℕ
first_of none y = y
first_of (some i) y = some i

-- a term that f puts, of nesting n, was read, and m is the first of its names that is not listed
pub record Made (f : List Row → Put) (n : ℕ) (m : Option ℕ) (xs : List ℕ) (x : Standing) (ys : List ℕ)
    (y : Standing) : Type 0 where
  pub puts : Puts f xs x ys y
  pub nest : y.nesting ≡ capped n
  pub names : y.missing ≡ first_of x.missing m

-- the rows of a term of two operands, and of one
abbrev pub joined : ℕ → (List Row → Put) → (List Row → Put) → List Row → Put
joined kind f g rs = let x = f rs in let y = g x.rows in put y.rows (row kind x.at y.at 0)

abbrev pub over : ℕ → (List Row → Put) → List Row → Put
over kind f rs = let x = f rs in put x.rows (row kind x.at 0 0)

abbrev pub leaf : ℕ → List Row → Put
leaf kind rs = put rs (row kind 0 0 0)

-- one more term was made of one that was read: whatever f, n and m it had, it now has F, N and the same names
pub record Grown (F : (List Row → Put) → List Row → Put) (N : ℕ → ℕ) (xs : List ℕ) (x : Standing) (ys : List ℕ)
    (y : Standing) : Type 0 where
  pub sized : Sized ys y.count
  pub text : SameText x y
  pub made : (f : List Row → Put) (n : ℕ) (m : Option ℕ) (zs : List ℕ) (z : Standing) → Made f n m zs z xs x
      → Made (F f) (N n) m zs z ys y

-- p/descendant-or-self::node(), some p, not f
abbrev pub below_of : (List Row → Put) → List Row → Put
below_of f = joined composition_row f (λ rs. put rs (row step_row descendant_or_self node_test 0))

abbrev pub some_of_put : (List Row → Put) → List Row → Put
some_of_put f = over not_row (joined inclusion_row f (leaf void_row))

-- bytes that only a step could take: `(`, `:` and `[`
unfoldable pub only_in_step : ℕ → Bool
only_in_step b = eqb b open_byte || (eqb b colon_byte || eqb b open_bracket)

-- the row r of a step that ends before `to` was put, with the place m of its name, if that is not listed
pub record StepPut (r : Row) (m : Option ℕ) (xs : List ℕ) (x : Standing) (to : ℕ) (ys : List ℕ) (y : Standing)
    : Type 0 where
  pub sized : Sized ys y.count
  pub at : y.at ≡ to
  pub ok : y.ok ≡ x.ok
  pub made : Made (λ rs. put rs r) 1 m xs x ys y

-- the step of a head was put
abbrev pub HeadPut : List ℕ → Standing → Head → List ℕ → Standing → Type 0
HeadPut xs x h ys y = StepPut (row step_row (axis_number h.axis) (test_number h.test) (name_number h.name))
    (place_of (name_place h.name)) xs x h.at ys y

abbrev pub nothing_read : ℕ → Standing
nothing_read n = record { ok = true; at = 0; row = 0; nesting = 0; count = n; fits = true; missing = none }
