-- Scripts filed, by computation.
use Rattle.std.specs.Prelude.{ℕ, true, List, [], ◌∷◌, ◌++◌, refl, replicate}
use Prim.Native.String.{String}
use Rattle.std.proofs.Math.Option.{some, Option-elim}
use Rattle.common.specs.Lists.{all_of, joined}
use Rattle.common.specs.values.Expected.{◌is◌, AllRight}
use Rattle.terms.specs.Fields.{fields_of, is_path, is_qualifier, held_path, held_qualifier, field_ok, bad_place}
use Rattle.terms.specs.Nesting.{operand_nesting, nesting_by, nestings, nesting}
use Rattle.terms.specs.Row.{row, table_of, entries_from, same_row, find, table_with}
use Rattle.terms.specs.Terms.{as_path, as_qualifier, term_by, terms, term_at}
use Rattle.lines.specs.Ascii.{ascii}
use Rattle.lines.specs.Line.{line, in_first_line, lines, in_first_part, parts, same_bytes}
use Rattle.lines.specs.Number.{is_digit, is_decimal, append_digits, numbers_up_to}
use Rattle.lines.specs.Written.{digits_of, decimal, line_text}
use Rattle.selector_grammar.specs.Bytes.{is_space, is_start, is_name, is_quote}
use Rattle.selector_grammar.specs.Denotes.{or_names, axis_of, constant_of, test_of, step_of, rel_of, rel_after}
use Rattle.selector_grammar.specs.Denotes.{nest_qual}
use Rattle.selector_grammar.specs.Denotes.{path_of, union_of, unary_of, and_of, or_of, put, put_path, put_qual}
use Rattle.selector_grammar.specs.Denotes.{nest_path}
use Rattle.selector_grammar.specs.Denotes.{unlisted}
use Rattle.selector_grammar.specs.Denotes.{test_names, step_names, rel_names, path_names, union_names, unary_names}
use Rattle.selector_grammar.specs.Denotes.{and_names}
use Rattle.selector_grammar.specs.Grammar.{spell_step, spell_rel, spell_path, spell_union}
use Rattle.selector_grammar.specs.Grammar.{spell_unary, spell_and, spell_or, takes_predicate, spell_axis, spell_test}
use Rattle.selector_grammar.specs.Grammar.{spell_bool}
use Rattle.selector_grammar.specs.private.Reader.{after_byte, path_byte, union_byte, unary_byte, shut, group_byte}
use Rattle.selector_grammar.specs.private.Reader.{lead_byte}
use Rattle.selector_grammar.specs.private.Reader.{call_byte}
use Rattle.selector_grammar.specs.private.Reader.{colon_byte_next, keyword_byte, lead_end, at_top, room, room_of}
use Rattle.selector_grammar.specs.private.Reader.{prefix_of}
use Rattle.selector_grammar.specs.private.Reader.{join}
use Rattle.selector_grammar.specs.private.Reader.{with_prefix}
use Rattle.selector_grammar.specs.private.Reader.{join_alt, wrap, left_of, and_to, run, outcome, follow, step, finish}
use Rattle.selector_grammar.specs.private.Reader.{need_byte}
use Rattle.selector_grammar.specs.private.Reader.{paren_byte_next}
use Rattle.selector_grammar.specs.private.ReaderAnswer.{reply_to, reply_to_reading, reply_to_names, reply_to_term}
use Rattle.selector_grammar.specs.Words as words
use Rattle.selector_grammar.specs.Words.{number_of, next, axes, types, is_some, instruction_word, or_zero, bytes_of}
use Rattle.selector_grammar.specs.Words.{numbered}
use Rattle.calls.specs.Book as book
use Rattle.calls.specs.Calls.{Call}
use Rattle.calls.specs.PointCall.{place_of, point_answer, return_answer}
use Rattle.calls.specs.TermCall.{term_answer}
use Rattle.calls.specs.TextCall.{text_reply, text_answer}
use Rattle.calls.specs.represent.Points.{counts_of}
use Rattle.calls.specs.represent.Tables.{steps_of}
use Rattle.bundles.specs.Bundle as bundles
use Rattle.bundles.specs.Bundle.{row_names, rows_text, steps_text, bundle_text}
use Rattle.session.specs.View.{view, fresh_session, with_row, with_rows, with_point, at_point}
use Rattle.script.specs.Words as script
use Rattle.script.specs.Command.{at_most, named, word_for, command_by}
use Rattle.script.specs.Words.{shape_of}
use Rattle.script.specs.Rest.{rest_of, names_of}
use Rattle.script_bundle.specs.Filing.{lends, makes, lending, line_action, lines_filed, filed, file_answer, file_buffer}

-- number and value, with a buffer of so many bytes
abbrev answered_in : (room : ℕ) (script : String) → List ℕ
answered_in room script =
    let a = file_answer (ascii script) room in a.number ∷ a.value ∷ []

answers :
    AllRight
    (answered_in 65536 "" is (0 ∷ 40 ∷ [])
    ∷ answered_in 65536 "term 2 1 0 1\n" is (0 ∷ 48 ∷ [])
    -- a text that is no selector, in line 2; a name that is no longer listed
    ∷ answered_in 65536 "names a\ntext a]\n" is (18 ∷ 2 ∷ [])
    ∷ answered_in 65536 "names a\nnames b\ntext a\n" is (19 ∷ 3 ∷ [])
    -- a return that drops a row, and one to no point
    ∷ answered_in 65536 "point 1\nterm 2 1 0 1\nreturn 1\n" is (0 ∷ 40 ∷ [])
    ∷ answered_in 65536 "point 1\nreturn 2\n" is (20 ∷ 2 ∷ [])
    -- a line that is not taken, and one without newline
    ∷ answered_in 65536 "term 2 1 0 1\nselect 0 0 1 1\n" is (10 ∷ 2 ∷ [])
    ∷ answered_in 65536 "term 2 1 0 1" is (10 ∷ 1 ∷ [])
    ∷ answered_in 65536 "term 2 1 0 1\n\n" is (10 ∷ 2 ∷ [])
    -- none are lent before the first line; they are lent until others are, and points don't keep them
    ∷ answered_in 65536 "text a\n" is (19 ∷ 1 ∷ [])
    ∷ answered_in 65536 "names a b\ntext a\ntext b\n" is (0 ∷ 56 ∷ [])
    ∷ answered_in 65536 "jump\nterm 12 0 0 0\n" is (10 ∷ 1 ∷ [])
    ∷ answered_in 65536 "names a\nnames\ntext a\n" is (19 ∷ 3 ∷ [])
    ∷ answered_in 65536 "names a\npoint 1\nnames b\nreturn 1\ntext b\n" is (0 ∷ 48 ∷ [])
    ∷ answered_in 65536 "names\n" is (0 ∷ 40 ∷ [])
    -- a text has all that stands after its first space; none is a text that ends too soon
    ∷ answered_in 65536 "names a b\ntext a | b\n" is (0 ∷ 64 ∷ [])
    ∷ answered_in 65536 "text\n" is (18 ∷ 1 ∷ [])
    -- the value is the line, not the call's own; a refused call is not passed over
    ∷ answered_in 65536 "term 2 1 0 2\nterm 2 1 0 2\n" is (12 ∷ 2 ∷ [])
    ∷ answered_in 65536 "term 12 0 0 0\nterm 1 0 0 0\n" is (1 ∷ 1 ∷ [])
    ∷ answered_in 65536 "term 2 1 0 1\nwrite 65536\n" is (10 ∷ 2 ∷ [])
    -- the first of two refused lines
    ∷ answered_in 65536 "term 12 0 0 0\njump\n" is (1 ∷ 1 ∷ [])
    -- a buffer that is just long enough, and a byte shorter, after all lines are taken
    ∷ answered_in 48 "term 2 1 0 1\n" is (0 ∷ 48 ∷ [])
    ∷ answered_in 47 "term 2 1 0 1\n" is (16 ∷ 48 ∷ [])
    ∷ answered_in 39 "" is (16 ∷ 40 ∷ [])
    ∷ answered_in 0 "term 2 1 0 0\n" is (2 ∷ 1 ∷ [])
    ∷ [])
unfolding with_rows table_with joined text_answer text_reply run outcome follow step finish need_byte
    after_byte
    path_byte union_byte unary_byte shut group_byte lead_byte call_byte paren_byte_next colon_byte_next keyword_byte
    lead_end at_top room
    room_of prefix_of join with_prefix join_alt wrap left_of and_to is_space is_start is_name is_quote words.find next
    axes types is_some instruction_word or_zero bytes_of numbered number_of spell_axis spell_test spell_bool spell_step
    spell_rel spell_path spell_union spell_unary spell_and spell_or takes_predicate unlisted test_names step_names
    rel_names
    path_names union_names unary_names and_names or_names axis_of constant_of test_of step_of rel_of rel_after path_of
    union_of
    unary_of and_of or_of put put_path put_qual nest_path nest_qual reply_to_term reply_to_names reply_to_reading
    reply_to ascii row_names bundles.step_names lines in_first_line parts in_first_part same_bytes numbers_up_to
    is_decimal all_of is_digit append_digits Option-elim view table_of steps_of fresh_session with_row term_answer
    bad_place fields_of field_ok held_path held_qualifier is_path is_qualifier nesting nestings entries_from nesting_by
    operand_nesting find same_row term_at terms term_by as_path as_qualifier file_answer file_buffer filed lines_filed
    line_action lending rest_of names_of script.words shape_of word_for command_by named at_most rows_text steps_text
    bundle_text line_text decimal digits_of with_point at_point place_of
    point_answer return_answer counts_of
answers = refl

-- the bundle, and a byte that stays; a refused line leaves all
bytes :
    AllRight
    (file_buffer (ascii "names a b\ntext b\n") (replicate 49 7)
    is (ascii "kind a b c\n2 1 0 2\nrule left right first second\n" ++ 7 ∷ [])
    ∷ file_buffer (ascii "term 2 1 0 1\npoint 0\n") (replicate 3 7) is (7 ∷ 7 ∷ 7 ∷ [])
    ∷ file_buffer (ascii "term 2 1 0 1\njump\n") (replicate 48 7) is replicate 48 7
    ∷ file_buffer (ascii "term 2 1 0 1\n") (replicate 47 7) is replicate 47 7
    ∷ [])
unfolding with_rows table_with joined text_answer text_reply run outcome follow step finish need_byte
    after_byte
    path_byte union_byte unary_byte shut group_byte lead_byte call_byte paren_byte_next colon_byte_next keyword_byte
    lead_end at_top room
    room_of prefix_of join with_prefix join_alt wrap left_of and_to is_space is_start is_name is_quote words.find next
    axes types is_some instruction_word or_zero bytes_of numbered number_of spell_axis spell_test spell_bool spell_step
    spell_rel spell_path spell_union spell_unary spell_and spell_or takes_predicate unlisted test_names step_names
    rel_names
    path_names union_names unary_names and_names or_names axis_of constant_of test_of step_of rel_of rel_after path_of
    union_of
    unary_of and_of or_of put put_path put_qual nest_path nest_qual reply_to_term reply_to_names reply_to_reading
    reply_to ascii row_names bundles.step_names lines in_first_line parts in_first_part same_bytes numbers_up_to
    is_decimal all_of is_digit append_digits Option-elim view table_of steps_of fresh_session with_row term_answer
    bad_place fields_of field_ok held_path held_qualifier is_path is_qualifier nesting nestings entries_from nesting_by
    operand_nesting find same_row term_at terms term_by as_path as_qualifier file_answer file_buffer filed lines_filed
    line_action lending rest_of names_of script.words shape_of word_for command_by named at_most rows_text steps_text
    bundle_text line_text decimal digits_of with_point at_point place_of
    point_answer return_answer counts_of
bytes = refl

-- the fields of a row and of a step, in the line's order; each space but the first is a newline
actions :
    AllRight
    (line_action [] (line (ascii "term 1 2 3 4") true) is some (makes (Call.term (row 1 2 3 4)))
    ∷ line_action [] (line (ascii "step 3 0 2 1 4") true) is some (makes (Call.step (book.step 3 0 2 1 4)))
    ∷ line_action [] (line (ascii "names  a b ") true) is some (lends (10 ∷ 97 ∷ 10 ∷ 98 ∷ 10 ∷ []))
    ∷ [])
unfolding line_action lending rest_of names_of script.words shape_of word_for command_by named at_most numbers_up_to
    parts
    in_first_part same_bytes Option-elim is_decimal all_of is_digit append_digits ascii
actions = refl
