-- Values of the definitions, by computation.
use Rattle.std.specs.Prelude.{ℕ, zero, suc, refl, true, false, List, [], ◌∷◌, ◌++◌, map}
use Rattle.common.specs.values.Expected.{◌is◌, AllRight}
use Rattle.xpath.specs.Term.{Void, Root, AxisStep, Union, Composition, Filter, True, False, Not, And, Or, In}
use Rattle.terms.specs.Row.{Row, row, row_of_numbers, table_of, entries_from, same_row, find}
use Rattle.terms.specs.represent.RowTypes.{row_of}
use Rattle.terms.specs.Fields.{fields_of, is_path, is_qualifier, held_path, held_qualifier, field_ok, bad_place}
use Rattle.terms.specs.Nesting.{operand_nesting, nesting_by, nestings, nesting}
use Rattle.terms.specs.Terms.{Term, of_path, of_qualifier, as_path, as_qualifier, term_by, terms}
use Rattle.terms.specs.AcceptedRows.{is_well_formed}

-- an incomplete last row is no row
pub lent :
    AllRight
    (table_of (2 ∷ 1 ∷ 0 ∷ 7 ∷ 6 ∷ []) is (row 2 1 0 7 ∷ [])
    ∷ table_of (2 ∷ 1 ∷ 0 ∷ 7 ∷ 6 ∷ 0 ∷ []) is (row 2 1 0 7 ∷ [])
    ∷ table_of (2 ∷ 1 ∷ 0 ∷ 7 ∷ 6 ∷ 0 ∷ 0 ∷ []) is (row 2 1 0 7 ∷ [])
    ∷ table_of (2 ∷ 1 ∷ 0 ∷ 7 ∷ 6 ∷ 0 ∷ 0 ∷ 0 ∷ []) is (row 2 1 0 7 ∷ row 6 0 0 0 ∷ [])
    ∷ table_of [] is []
    ∷ [])
unfolding table_of
lent = refl

-- a row as the code has it, and of four numbers, field by field
pub by_fields :
    AllRight
    (row_of (record { kind = 2; a = 3; b = 4; c = 5 }) is row 2 3 4 5
    ∷ row_of_numbers (2 ∷ 3 ∷ 4 ∷ 5 ∷ []) is row 2 3 4 5
    ∷ [])
by_fields = refl

-- row 0 is a path, row 1 a qualifier
abbrev held : List Row
held = row 2 1 0 7 ∷ row 6 0 0 0 ∷ []

abbrev place : Row → ℕ
place r = bad_place held r

-- good rows of every kind; the least and the greatest axis, test and name
pub good :
    AllRight
    (place (row 0 0 0 0) is 0
    ∷ place (row 1 0 0 0) is 0
    ∷ place (row 2 0 0 1) is 0
    ∷ place (row 2 11 0 65535) is 0
    ∷ place (row 2 0 1 0) is 0
    ∷ place (row 2 11 5 0) is 0
    ∷ place (row 2 0 6 1) is 0
    ∷ place (row 2 11 6 65535) is 0
    ∷ place (row 3 0 0 0) is 0
    ∷ place (row 4 0 0 0) is 0
    ∷ place (row 5 0 1 0) is 0
    ∷ place (row 6 0 0 0) is 0
    ∷ place (row 7 0 0 0) is 0
    ∷ place (row 8 1 0 0) is 0
    ∷ place (row 9 1 1 0) is 0
    ∷ place (row 10 1 1 0) is 0
    ∷ place (row 11 0 0 0) is 0
    ∷ [])
unfolding bad_place fields_of field_ok held_path held_qualifier is_path is_qualifier
good = refl

-- the first field is bad alone: a field that is not used, axis 12, an operand of the other sort, one that is not held
pub bad_first :
    AllRight
    (place (row 0 1 0 0) is 1
    ∷ place (row 1 1 0 0) is 1
    ∷ place (row 2 12 0 7) is 1
    ∷ place (row 3 1 0 0) is 1
    ∷ place (row 3 2 0 0) is 1
    ∷ place (row 4 1 0 0) is 1
    ∷ place (row 4 2 0 0) is 1
    ∷ place (row 5 1 1 0) is 1
    ∷ place (row 5 2 1 0) is 1
    ∷ place (row 6 1 0 0) is 1
    ∷ place (row 7 1 0 0) is 1
    ∷ place (row 8 0 0 0) is 1
    ∷ place (row 8 2 0 0) is 1
    ∷ place (row 9 0 1 0) is 1
    ∷ place (row 9 2 1 0) is 1
    ∷ place (row 10 0 1 0) is 1
    ∷ place (row 10 2 1 0) is 1
    ∷ place (row 11 1 0 0) is 1
    ∷ place (row 11 2 0 0) is 1
    ∷ [])
unfolding bad_place fields_of field_ok held_path held_qualifier is_path is_qualifier
bad_first = refl

-- the second, test 7 among them
pub bad_second :
    AllRight
    (place (row 0 0 1 0) is 2
    ∷ place (row 1 0 1 0) is 2
    ∷ place (row 2 1 7 0) is 2
    ∷ place (row 2 1 7 1) is 2
    ∷ place (row 3 0 1 0) is 2
    ∷ place (row 3 0 2 0) is 2
    ∷ place (row 4 0 1 0) is 2
    ∷ place (row 4 0 2 0) is 2
    ∷ place (row 5 0 0 0) is 2
    ∷ place (row 5 0 2 0) is 2
    ∷ place (row 6 0 1 0) is 2
    ∷ place (row 7 0 1 0) is 2
    ∷ place (row 8 1 1 0) is 2
    ∷ place (row 9 1 0 0) is 2
    ∷ place (row 9 1 2 0) is 2
    ∷ place (row 10 1 0 0) is 2
    ∷ place (row 10 1 2 0) is 2
    ∷ place (row 11 0 1 0) is 2
    ∷ place (row 11 0 2 0) is 2
    ∷ [])
unfolding bad_place fields_of field_ok held_path held_qualifier is_path is_qualifier
bad_second = refl

-- the third: name 0 with a name test, target 0 with test 6, a name with each other test
pub bad_third :
    AllRight
    (place (row 0 0 0 1) is 3
    ∷ place (row 1 0 0 1) is 3
    ∷ place (row 2 1 0 0) is 3
    ∷ place (row 2 1 1 7) is 3
    ∷ place (row 2 1 2 7) is 3
    ∷ place (row 2 1 3 7) is 3
    ∷ place (row 2 1 4 7) is 3
    ∷ place (row 2 1 5 7) is 3
    ∷ place (row 2 1 5 1) is 3
    ∷ place (row 2 1 6 0) is 3
    ∷ place (row 3 0 0 1) is 3
    ∷ place (row 4 0 0 1) is 3
    ∷ place (row 5 0 1 1) is 3
    ∷ place (row 6 0 0 1) is 3
    ∷ place (row 7 0 0 1) is 3
    ∷ place (row 8 1 0 1) is 3
    ∷ place (row 9 1 1 1) is 3
    ∷ place (row 10 1 1 1) is 3
    ∷ place (row 11 0 0 1) is 3
    ∷ [])
unfolding bad_place fields_of field_ok held_path held_qualifier is_path is_qualifier
bad_third = refl

-- of two bad fields or three, the first
pub bad_fields :
    AllRight
    (place (row 0 1 1 1) is 1
    ∷ place (row 2 12 7 7) is 1
    ∷ place (row 2 12 6 0) is 1
    ∷ place (row 2 12 0 0) is 1
    ∷ place (row 2 1 7 7) is 2
    ∷ place (row 3 1 1 0) is 1
    ∷ place (row 4 1 0 1) is 1
    ∷ place (row 5 0 0 1) is 2
    ∷ place (row 9 1 0 1) is 2
    ∷ [])
unfolding bad_place fields_of field_ok held_path held_qualifier is_path is_qualifier
bad_fields = refl

-- a kind above 11 is neither a path nor a qualifier
pub sorts :
    AllRight
    (is_path (row 0 0 0 0) is true
    ∷ is_path (row 5 0 0 0) is true
    ∷ is_path (row 6 0 0 0) is false
    ∷ is_path (row 11 0 0 0) is false
    ∷ is_path (row 12 0 0 0) is false
    ∷ is_qualifier (row 0 0 0 0) is false
    ∷ is_qualifier (row 5 0 0 0) is false
    ∷ is_qualifier (row 6 0 0 0) is true
    ∷ is_qualifier (row 11 0 0 0) is true
    ∷ is_qualifier (row 12 0 0 0) is false
    ∷ [])
unfolding is_path is_qualifier
sorts = refl

-- a table's rows, each beside its nesting: either operand may be the deeper one, and the fields of a step are no
-- operands
abbrev nested_rows : List (Row × ℕ)
nested_rows =
    (row 0 0 0 0, 1)
    ∷ (row 1 0 0 0, 1)
    ∷ (row 6 0 0 0, 1)
    ∷ (row 7 0 0 0, 1)
    ∷ (row 3 0 1 0, 2)
    ∷ (row 3 1 4 0, 3)
    ∷ (row 4 4 1 0, 3)
    ∷ (row 4 1 4 0, 3)
    ∷ (row 8 2 0 0, 2)
    ∷ (row 5 6 2 0, 4)
    ∷ (row 5 0 8 0, 3)
    ∷ (row 9 8 2 0, 3)
    ∷ (row 10 3 11 0, 4)
    ∷ (row 11 9 0 0, 5)
    ∷ (row 11 0 9 0, 5)
    ∷ (row 2 10 0 13, 1)
    ∷ (row 8 13 0 0, 6)
    ∷ []

pub nested : AllRight (nestings (map (λ c. c.0) nested_rows) is map (λ c. c.1) nested_rows ∷ [])
unfolding nestings entries_from nesting_by operand_nesting fields_of
nested = refl

-- true, and n rows `not` of the row before
unfoldable pub nots : ℕ → List Row
nots zero = row 6 0 0 0 ∷ []
nots (suc n) = nots n ++ (row 8 n 0 0 ∷ [])

-- kind 11 passes and 12 does not; nesting 32 passes and 33 does not
pub limits :
    AllRight
    (is_well_formed held (row 11 0 0 0) is true
    ∷ is_well_formed held (row 12 0 0 0) is false
    ∷ is_well_formed (nots 30) (row 8 30 0 0) is true
    ∷ is_well_formed (nots 31) (row 8 31 0 0) is false
    ∷ [])
unfolding nots is_well_formed nesting nestings entries_from nesting_by operand_nesting
    bad_place fields_of field_ok held_path held_qualifier is_path is_qualifier
limits = refl

-- a held row, and rows that differ from it in one field
pub found :
    AllRight
    (find held (row 2 1 0 7) is 0
    ∷ find held (row 6 0 0 0) is 1
    ∷ find held (row 3 1 0 7) is 2
    ∷ find held (row 2 2 0 7) is 2
    ∷ find held (row 2 1 1 7) is 2
    ∷ find held (row 2 1 0 8) is 2
    ∷ find held (row 2 1 6 7) is 2
    -- the first of two that are the same
    ∷ find (row 1 0 0 0 ∷ row 1 0 0 0 ∷ []) (row 1 0 0 0) is 0
    ∷ [])
unfolding find same_row
found = refl

-- a table's rows, each beside its term: every kind; then kind 12, operands of the other sort, and numbers of no earlier
-- row
abbrev decoded_rows : List (Row × Term)
decoded_rows =
    (row 0 0 0 0, of_path Void)
    ∷ (row 1 0 0 0, of_path Root)
    ∷ (row 2 3 0 7, of_path (AxisStep 3 0 7))
    ∷ (row 3 1 2 0, of_path (Union Root (AxisStep 3 0 7)))
    ∷ (row 4 2 1 0, of_path (Composition (AxisStep 3 0 7) Root))
    ∷ (row 6 0 0 0, of_qualifier True)
    ∷ (row 7 0 0 0, of_qualifier False)
    ∷ (row 5 2 5 0, of_path (Filter (AxisStep 3 0 7) True))
    ∷ (row 8 5 0 0, of_qualifier (Not True))
    ∷ (row 9 5 6 0, of_qualifier (And True False))
    ∷ (row 10 6 5 0, of_qualifier (Or False True))
    ∷ (row 11 1 2 0, of_qualifier (In Root (AxisStep 3 0 7)))
    ∷ (row 12 0 0 0, of_path Void)
    ∷ (row 8 1 0 0, of_qualifier (Not False))
    ∷ (row 3 5 1 0, of_path (Union Void Root))
    ∷ (row 5 16 99 0, of_path (Filter Void False))
    ∷ (row 5 1 2 0, of_path (Filter Root False))
    ∷ (row 9 17 5 0, of_qualifier (And False True))
    ∷ []

pub decoded : AllRight (terms (map (λ c. c.0) decoded_rows) is map (λ c. c.1) decoded_rows ∷ [])
unfolding terms entries_from term_by as_path as_qualifier
decoded = refl
