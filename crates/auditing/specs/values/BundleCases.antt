-- What audit prints of bundles and what read makes of them, by computation.
use Prim.Native.String.{String, ◌++◌}
use Rattle.std.specs.Prelude.{refl, [], ◌∷◌}
use Rattle.std.proofs.Math.Bool.{decide}
use Rattle.std.proofs.Math.Option.{Option-elim}
use Rattle.common.specs.values.Expected.{◌is◌, AllRight}
use Rattle.terms.specs.Row.{table_of, entries_from, same_row, find}
use Rattle.terms.specs.Fields.{fields_of, is_path, is_qualifier, held_path, held_qualifier, field_ok, bad_place}
use Rattle.terms.specs.Nesting.{operand_nesting, nesting_by, nestings, nesting}
use Rattle.terms.specs.Terms.{as_path, as_qualifier, term_by, terms, term_at}
use Rattle.rules.specs.RuleTable.{rules}
use Rattle.rules.specs.Claim.{says}
use Rattle.rules.specs.Yields.{forms_in, forms_of, first_count, premise_count}
use Rattle.rules.specs.private.RuleFits.{rule_fits}
use Rattle.rules.specs.Decision.{yields_dec}
use Rattle.lines.specs.Ascii.{ascii}
use Rattle.lines.specs.Line.{in_first_line, lines, in_first_part, parts, same_bytes, is_line}
use Rattle.common.specs.Lists.{all_of}
use Rattle.lines.specs.Number.{is_digit, is_decimal, append_digits, numbers_up_to, numbers_of}
use Rattle.auditing.specs.declared.Report.{Report}
use Rattle.calls.specs.Book.{answer}
use Rattle.calls.specs.TermCall.{term_answer}
use Rattle.calls.specs.StepCall.{same_sort, bad_side_of, premise_ok, bad_premise_of, claim_of, premises_of}
use Rattle.calls.specs.StepCall.{step_answer_by, is_yielded}
use Rattle.calls.specs.StepCall.{step_answer}
use Rattle.calls.specs.represent.Tables.{steps_of}
use Rattle.session.specs.View.{view, fresh_session, with_row, with_step}
use Rattle.bundles.specs.Bundle.{row_names, step_names, row_of_line, step_of_line}
use Rattle.session.specs.Reading.{steps_read, rows_read, lines_read, reading}
use Rattle.auditing.specs.Audit.{report_by, report}

abbrev audited : String → Report
audited text = report (ascii text)

abbrev row_lines : String
row_lines = "kind a b c\n"

abbrev step_lines : String
step_lines = "rule left right first second\n"

abbrev rows : String
rows = row_lines ++ "2 1 0 2\n2 3 1 0\n"

abbrev example : String
example = rows ++ step_lines ++ "8 0 1 0 0\n"

-- child::mark/following-sibling::node(), then following-sibling::zero, beside child::mark/following-sibling::zero
abbrev through_comments : String
through_comments = row_lines ++ "2 1 0 2\n2 7 2 0\n2 7 0 3\n4 0 1 0\n4 3 2 0\n4 0 2 0\n" ++ step_lines
    ++ "2 2 2 0 0\n2 3 3 0 0\n"

reports :
    AllRight
    -- the example of Specification, Bundles, and the same without its step, without its rows
    (audited example is report_by 0 0 1 0 1
    ∷ audited (rows ++ step_lines) is report_by 0 0 0 0 0
    ∷ audited (row_lines ++ step_lines) is report_by 0 0 0 0 0
    -- a chain that passes through comments, and the same with its premises exchanged
    ∷ audited (through_comments ++ "10 4 5 1 2\n") is report_by 0 0 3 4 5
    ∷ audited (through_comments ++ "10 4 5 2 1\n") is report_by 7 11 0 0 0
    -- the first names line is missing: no bytes, another line, the second one
    ∷ audited "" is report_by 10 1 0 0 0
    ∷ audited "2 1 0 2\n" is report_by 10 1 0 0 0
    ∷ audited step_lines is report_by 10 1 0 0 0
    -- it is not quite right: a space more, a letter less, no newline, not the first
    ∷ audited "kind a b c \n" is report_by 10 1 0 0 0
    ∷ audited "kind a b\n" is report_by 10 1 0 0 0
    ∷ audited "kind a b c" is report_by 10 1 0 0 0
    ∷ audited ("x\n" ++ row_lines) is report_by 10 1 0 0 0
    -- the second one is missing after the last line, at a line that is neither, at a step line; it lacks its newline;
    -- it is there twice
    ∷ audited row_lines is report_by 10 2 0 0 0
    ∷ audited rows is report_by 10 4 0 0 0
    ∷ audited (row_lines ++ row_lines) is report_by 10 2 0 0 0
    ∷ audited (row_lines ++ "8 0 1 0 0\n") is report_by 10 2 0 0 0
    ∷ audited (rows ++ "8 0 1 0 0\n") is report_by 10 4 0 0 0
    ∷ audited (row_lines ++ "rule left right first second") is report_by 10 2 0 0 0
    ∷ audited (row_lines ++ step_lines ++ step_lines) is report_by 10 3 0 0 0
    ∷ audited (example ++ step_lines) is report_by 10 6 0 0 0
    -- term lines: a leading zero, 65536, two spaces, a space at the end, three numbers, five, a carriage return, a
    -- letter, an empty line, no newline
    ∷ audited (row_lines ++ "2 1 0 02\n") is report_by 10 2 0 0 0
    ∷ audited (row_lines ++ "2 1 0 65536\n") is report_by 10 2 0 0 0
    ∷ audited (row_lines ++ "2 1  0 2\n") is report_by 10 2 0 0 0
    ∷ audited (row_lines ++ "2 1 0 2 \n") is report_by 10 2 0 0 0
    ∷ audited (row_lines ++ "2 1 0\n") is report_by 10 2 0 0 0
    ∷ audited (row_lines ++ "2 1 0 2 0\n") is report_by 10 2 0 0 0
    ∷ audited (row_lines ++ "2 1 0 2\r\n") is report_by 10 2 0 0 0
    ∷ audited (row_lines ++ "2 1 x 2\n") is report_by 10 2 0 0 0
    ∷ audited (row_lines ++ "\n") is report_by 10 2 0 0 0
    ∷ audited (row_lines ++ "2 1 0 2") is report_by 10 2 0 0 0
    -- step lines: the same, and a term line
    ∷ audited (rows ++ step_lines ++ "08 0 1 0 0\n") is report_by 10 5 0 0 0
    ∷ audited (rows ++ step_lines ++ "8 0 1 0 65536\n") is report_by 10 5 0 0 0
    ∷ audited (rows ++ step_lines ++ "8 0  1 0 0\n") is report_by 10 5 0 0 0
    ∷ audited (rows ++ step_lines ++ "8 0 1 0 0 \n") is report_by 10 5 0 0 0
    ∷ audited (rows ++ step_lines ++ "8 0 1 0\n") is report_by 10 5 0 0 0
    ∷ audited (rows ++ step_lines ++ "8 0 1 0 0 0\n") is report_by 10 5 0 0 0
    ∷ audited (rows ++ step_lines ++ "8 0 1 0 0\r\n") is report_by 10 5 0 0 0
    ∷ audited (rows ++ step_lines ++ "8 0 x 0 0\n") is report_by 10 5 0 0 0
    ∷ audited (rows ++ step_lines ++ "\n") is report_by 10 5 0 0 0
    ∷ audited (rows ++ step_lines ++ "8 0 1 0 0") is report_by 10 5 0 0 0
    ∷ audited (example ++ "2 1 0 2\n") is report_by 10 6 0 0 0
    -- numbers 0 and 65535
    ∷ audited (row_lines ++ "0 0 0 0\n2 1 0 65535\n" ++ step_lines) is report_by 0 0 0 0 0
    -- a refused row gives its number and its line: kind 12, axis 12, a row that is held
    ∷ audited (rows ++ "12 0 0 0\n" ++ step_lines ++ "8 0 1 0 0\n") is report_by 1 4 0 0 0
    ∷ audited (rows ++ "2 12 0 2\n" ++ step_lines) is report_by 2 4 0 0 0
    ∷ audited (rows ++ "2 1 0 2\n") is report_by 12 4 0 0 0
    -- a refused step: rule 60, a row that is not held, a premise where there is none, what the rule does not yield
    ∷ audited (rows ++ step_lines ++ "60 0 1 0 0\n") is report_by 4 5 0 0 0
    ∷ audited (rows ++ step_lines ++ "8 0 2 0 0\n") is report_by 5 5 0 0 0
    ∷ audited (rows ++ step_lines ++ "8 0 1 1 0\n") is report_by 6 5 0 0 0
    ∷ audited (example ++ "8 1 0 0 0\n8 0 1 0 0\n") is report_by 7 6 0 0 0
    -- the first line that is refused counts, for its form or for its call
    ∷ audited (row_lines ++ "12 0 0 0\nx\n") is report_by 1 2 0 0 0
    ∷ audited (row_lines ++ "x\n12 0 0 0\n") is report_by 10 2 0 0 0
    ∷ audited (example ++ "8 1 0 0 0\nx\n") is report_by 7 6 0 0 0
    ∷ audited (example ++ "x\n8 1 0 0 0\n") is report_by 10 6 0 0 0
    ∷ audited (example ++ row_lines) is report_by 10 6 0 0 0
    -- the rows are those of the last step
    ∷ audited (example ++ "2 1 1 0 0\n") is report_by 0 0 2 1 1
    ∷ [])
unfolding ascii report reading lines_read rows_read steps_read row_names step_names row_of_line step_of_line lines
    in_first_line parts in_first_part same_bytes is_line numbers_of numbers_up_to is_decimal all_of is_digit
    append_digits Option-elim view table_of steps_of fresh_session with_row with_step term_answer bad_place fields_of
    field_ok held_path held_qualifier is_path is_qualifier nesting nestings entries_from nesting_by operand_nesting
    find same_row step_answer step_answer_by same_sort bad_side_of premise_ok bad_premise_of claim_of premises_of
    is_yielded
    says term_at terms term_by as_path as_qualifier premise_count first_count forms_of forms_in rules decide
    yields_dec rule_fits
reports = refl

-- what read answers is the number of steps, whatever the number of rows; a refused reading leaves a fresh session, also
-- where rows or steps were held before
readings :
    AllRight
    ((reading (ascii (rows ++ step_lines))).answer is answer 0 0
    ∷ (reading (ascii example)).answer is answer 0 1
    ∷ (reading (ascii (example ++ "2 1 1 0 0\n"))).answer is answer 0 2
    ∷ [])
    × AllRight
    ((reading (ascii (rows ++ "12 0 0 0\n"))).session is fresh_session
    ∷ (reading (ascii (example ++ "8 1 0 0 0\n"))).session is fresh_session
    ∷ (reading (ascii (example ++ "x\n"))).session is fresh_session
    ∷ (reading (ascii rows)).session is fresh_session
    ∷ [])
unfolding ascii reading lines_read rows_read steps_read row_names step_names row_of_line step_of_line lines
    in_first_line
    parts in_first_part same_bytes is_line numbers_of numbers_up_to is_decimal all_of is_digit append_digits
    Option-elim view table_of steps_of fresh_session with_row with_step term_answer bad_place fields_of field_ok
    held_path held_qualifier is_path is_qualifier nesting nestings entries_from nesting_by operand_nesting find
    same_row step_answer step_answer_by same_sort bad_side_of premise_ok bad_premise_of claim_of premises_of
    is_yielded says
    term_at terms term_by as_path as_qualifier premise_count first_count forms_of forms_in rules decide yields_dec
    rule_fits
readings = (refl, refl)
