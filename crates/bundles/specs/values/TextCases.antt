-- The text of rows and steps, by computation.
use Rattle.std.specs.Prelude.{refl, [], ◌∷◌}
use Rattle.common.specs.values.Expected.{◌is◌, AllRight}
use Rattle.terms.specs.Row.{row}
use Rattle.lines.specs.Ascii.{ascii}
use Rattle.lines.specs.Written.{digits_of, decimal, line_text}
use Rattle.calls.specs.Book.{step}
use Rattle.bundles.specs.Bundle.{row_names, step_names, rows_text, steps_text, bundle_text}
use Rattle.bundles.specs.private.TablesPut.{byte_after, left_next, numbers_text, tables_text, first_tables_text}

-- the example of Specification, Bundles; no row and no step; rows of numbers of one to five digits, without steps; and
-- such steps, without rows
texts :
    AllRight
    (bundle_text (row 2 1 0 2 ∷ row 2 3 1 0 ∷ []) (step 8 0 1 0 0 ∷ []) is
    ascii "kind a b c\n2 1 0 2\n2 3 1 0\nrule left right first second\n8 0 1 0 0\n"
    ∷ bundle_text [] [] is ascii "kind a b c\nrule left right first second\n"
    ∷ bundle_text (row 0 9 10 99 ∷ row 100 999 1000 9999 ∷ row 10000 65535 101 20 ∷ []) [] is
    ascii "kind a b c\n0 9 10 99\n100 999 1000 9999\n10000 65535 101 20\nrule left right first second\n"
    ∷ bundle_text [] (step 10 100 1000 10000 65535 ∷ step 65535 9 99 999 9999 ∷ []) is
    ascii "kind a b c\nrule left right first second\n10 100 1000 10000 65535\n65535 9 99 999 9999\n"
    ∷ [])
unfolding bundle_text row_names step_names rows_text steps_text line_text decimal digits_of ascii
texts = refl

-- numbers of tables: whole rows and steps; an incomplete last row and an incomplete last step, which end with a space;
-- rows and steps past those counted
tables :
    AllRight
    (tables_text (2 ∷ 1 ∷ 0 ∷ 2 ∷ 2 ∷ 3 ∷ 1 ∷ 0 ∷ []) (8 ∷ 0 ∷ 1 ∷ 0 ∷ 0 ∷ []) is
    bundle_text (row 2 1 0 2 ∷ row 2 3 1 0 ∷ []) (step 8 0 1 0 0 ∷ [])
    ∷ tables_text (2 ∷ 1 ∷ 0 ∷ []) (8 ∷ 0 ∷ 1 ∷ []) is
    ascii "kind a b c\n2 1 0 rule left right first second\n8 0 1 "
    ∷ tables_text (2 ∷ 1 ∷ 0 ∷ 2 ∷ 65535 ∷ []) [] is
    ascii "kind a b c\n2 1 0 2\n65535 rule left right first second\n"
    ∷ first_tables_text 1 (2 ∷ 1 ∷ 0 ∷ 2 ∷ 2 ∷ 3 ∷ []) 0 (8 ∷ 0 ∷ 1 ∷ 0 ∷ 0 ∷ []) is
    ascii "kind a b c\n2 1 0 2\nrule left right first second\n"
    ∷ [])
unfolding bundle_text row_names step_names rows_text steps_text line_text decimal digits_of ascii tables_text
    numbers_text byte_after left_next
tables = refl
