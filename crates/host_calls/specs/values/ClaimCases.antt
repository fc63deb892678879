-- Claims, by computation.
use Rattle.std.specs.Prelude.{ℕ, refl, List, [], ◌∷◌}
use Prim.Native.String.{String, ◌++◌}
use Rattle.std.proofs.Math.Bool.{decide}
use Rattle.std.proofs.Math.Option.{Option-elim}
use Rattle.common.specs.Bounded.{first_below}
use Rattle.common.specs.Lists.{all_of, any_of, joined}
use Rattle.common.specs.values.Expected.{◌is◌, AllRight}
use Rattle.lines.specs.Ascii.{ascii}
use Rattle.lines.specs.Line.{in_first_line, lines, in_first_part, parts, same_bytes, is_line}
use Rattle.lines.specs.Number.{is_digit, is_decimal, append_digits, numbers_up_to, numbers_of}
use Rattle.terms.specs.Row.{table_of, entries_from, same_row, find, table_with}
use Rattle.terms.specs.Fields.{fields_of, is_path, is_qualifier, held_path, held_qualifier, field_ok, bad_place}
use Rattle.terms.specs.Nesting.{operand_nesting, nesting_by, nestings, nesting}
use Rattle.terms.specs.Terms.{as_path, as_qualifier, term_by, terms, term_at}
use Rattle.rules.specs.RuleTable.{rules}
use Rattle.rules.specs.Claim.{says}
use Rattle.rules.specs.Yields.{forms_in, forms_of, first_count, premise_count}
use Rattle.rules.specs.private.RuleFits.{rule_fits}
use Rattle.rules.specs.Decision.{yields_dec}
use Rattle.selector_grammar.specs.Bytes.{is_space, is_start, is_name, is_quote}
use Rattle.selector_grammar.specs.Words as words
use Rattle.selector_grammar.specs.Words.{next, axes, types, is_some, instruction_word, or_zero, bytes_of, numbered}
use Rattle.selector_grammar.specs.Words.{number_of}
use Rattle.selector_grammar.specs.Grammar.{spell_axis, spell_test, spell_bool, spell_step, spell_rel, spell_path}
use Rattle.selector_grammar.specs.Grammar.{spell_union}
use Rattle.selector_grammar.specs.Grammar.{spell_unary, spell_and, spell_or, takes_predicate}
use Rattle.selector_grammar.specs.private.Reader.{run, outcome, follow, step, finish, need_byte, after_byte, path_byte}
use Rattle.selector_grammar.specs.private.Reader.{union_byte, unary_byte, shut, group_byte, lead_byte, call_byte}
use Rattle.selector_grammar.specs.private.Reader.{paren_byte_next}
use Rattle.selector_grammar.specs.private.Reader.{colon_byte_next, keyword_byte, lead_end, at_top, room, room_of}
use Rattle.selector_grammar.specs.private.Reader.{prefix_of}
use Rattle.selector_grammar.specs.private.Reader.{join}
use Rattle.selector_grammar.specs.private.Reader.{with_prefix, join_alt, wrap, left_of, and_to}
use Rattle.selector_grammar.specs.Denotes.{unlisted, test_names, step_names, rel_names, path_names, union_names}
use Rattle.selector_grammar.specs.Denotes.{unary_names}
use Rattle.selector_grammar.specs.Denotes.{and_names, or_names, axis_of, constant_of, test_of, step_of, rel_of}
use Rattle.selector_grammar.specs.Denotes.{rel_after}
use Rattle.selector_grammar.specs.Denotes.{path_of, union_of, unary_of, and_of, or_of, put, put_path, put_qual}
use Rattle.selector_grammar.specs.Denotes.{nest_path}
use Rattle.selector_grammar.specs.Denotes.{nest_qual}
use Rattle.selector_grammar.specs.private.ReaderAnswer.{reply_to, reply_to_reading, reply_to_names, reply_to_term}
use Rattle.calls.specs.TermCall.{term_answer}
use Rattle.calls.specs.StepCall.{same_sort, bad_side_of, premise_ok, bad_premise_of, claim_of, premises_of}
use Rattle.calls.specs.StepCall.{step_answer_by}
use Rattle.calls.specs.StepCall.{is_yielded, step_answer}
use Rattle.calls.specs.TextCall.{text_reply, text_answer}
use Rattle.calls.specs.represent.Tables.{steps_of}
use Rattle.bundles.specs.Bundle as bundles
use Rattle.bundles.specs.Bundle.{row_names, row_of_line, step_of_line}
use Rattle.replacement.specs.Covered.{is_held_step, is_in, is_replaced, step_saying}
use Rattle.session.specs.View.{view, fresh_session, with_row, with_rows, with_step}
use Rattle.session.specs.Reading.{steps_read, rows_read, lines_read, reading}
use Rattle.host_calls.specs.ClaimCall.{Claimed, said_answer, new_claimed, old_claimed, claim_answer}

-- part, number and value, with the names a and b
unfoldable told : Claimed → List ℕ
told c = c.part ∷ c.answer.number ∷ c.answer.value ∷ []

abbrev claim : (bundle old new : String) → List ℕ
claim bundle old new = told (claim_answer (ascii bundle) (ascii "a\nb") (ascii old) (ascii new))

-- a is contained in *: step 1, or steps 2 and 3 after one that says that a is contained in a
abbrev row_lines : String
row_lines = "kind a b c\n2 1 0 1\n2 1 1 0\nrule left right first second\n"

abbrev one : String
one = row_lines ++ "8 0 1 0 0\n"

abbrev three : String
three = row_lines ++ "2 0 0 0 0\n8 0 1 0 0\n8 0 1 0 0\n"

abbrev deep : String
deep = "a/a/a/a/a/a/a/a/a/a/a/a/a/a/a/a/a/a/a/a/a/a/a/a/a/a/a/a/a/a/a/a/a"

claims :
    AllRight
    (claim one "a" "*" is (0 ∷ 0 ∷ 1 ∷ [])
    ∷ claim one "child::a" " child :: * " is (0 ∷ 0 ∷ 1 ∷ [])
    -- the first of two, and one that says something else
    ∷ claim three "a" "*" is (0 ∷ 0 ∷ 2 ∷ [])
    ∷ claim three "a" "a" is (0 ∷ 0 ∷ 1 ∷ [])
    -- no step says so: the sides exchanged, another name, a row that the bundle lacks, no steps
    ∷ claim one "*" "a" is (0 ∷ 26 ∷ 1 ∷ [])
    ∷ claim one "b" "*" is (0 ∷ 26 ∷ 1 ∷ [])
    ∷ claim one "a" "a|*" is (0 ∷ 26 ∷ 1 ∷ [])
    ∷ claim one "a" "a" is (0 ∷ 26 ∷ 1 ∷ [])
    ∷ claim row_lines "a" "*" is (0 ∷ 26 ∷ 1 ∷ [])
    -- the bundle is judged first, then the old selector, then the new one
    ∷ claim "x\n" "]" "c" is (1 ∷ 10 ∷ 1 ∷ [])
    ∷ claim (one ++ "8 1 0 0 0\n") "]" "c" is (1 ∷ 7 ∷ 6 ∷ [])
    ∷ claim one "a/c" "]" is (2 ∷ 19 ∷ 2 ∷ [])
    ∷ claim one "a]" "c" is (2 ∷ 18 ∷ 1 ∷ [])
    ∷ claim one "a" "a/c" is (3 ∷ 19 ∷ 2 ∷ [])
    ∷ claim one "a" "" is (3 ∷ 18 ∷ 0 ∷ [])
    -- a selector of 33 steps nests too deep
    ∷ claim one deep "*" is (2 ∷ 3 ∷ 0 ∷ [])
    ∷ claim one "a" deep is (3 ∷ 3 ∷ 0 ∷ [])
    ∷ [])
unfolding told claim_answer old_claimed new_claimed said_answer step_saying first_below is_replaced is_held_step is_in
    any_of
    with_rows table_with joined text_answer text_reply run outcome follow step finish need_byte after_byte
    path_byte
    union_byte unary_byte shut group_byte lead_byte call_byte paren_byte_next colon_byte_next keyword_byte lead_end
    at_top room room_of
    prefix_of join with_prefix join_alt wrap left_of and_to is_space is_start is_name is_quote words.find next axes
    types
    is_some instruction_word or_zero bytes_of numbered number_of spell_axis spell_test spell_bool spell_step spell_rel
    spell_path
    spell_union spell_unary spell_and spell_or takes_predicate unlisted test_names step_names rel_names path_names
    union_names
    unary_names and_names or_names axis_of constant_of test_of step_of rel_of rel_after path_of union_of unary_of
    and_of or_of put
    put_path put_qual nest_path nest_qual reply_to_term reply_to_names reply_to_reading reply_to
    ascii reading lines_read rows_read steps_read row_names bundles.step_names row_of_line step_of_line lines
    in_first_line parts in_first_part same_bytes is_line numbers_of numbers_up_to is_decimal all_of is_digit
    append_digits Option-elim view table_of steps_of fresh_session with_row with_step term_answer bad_place fields_of
    field_ok held_path held_qualifier is_path is_qualifier nesting nestings entries_from nesting_by operand_nesting
    find same_row step_answer step_answer_by same_sort bad_side_of premise_ok bad_premise_of claim_of premises_of
    is_yielded
    says term_at terms term_by as_path as_qualifier premise_count first_count forms_of forms_in rules decide
    yields_dec rule_fits
claims = refl
