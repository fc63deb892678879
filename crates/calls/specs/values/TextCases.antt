-- Text calls among others on the plain book, by computation.
use Rattle.std.specs.Prelude.{ℕ, ◌≡◌, refl, List, [], ◌∷◌, map, length}
use Prim.Native.String.{String}
use Rattle.lines.specs.Ascii.{ascii}
use Rattle.lines.specs.Line.{in_first_line, lines, same_bytes}
use Rattle.terms.specs.Row.{row, entries_from, same_row, find}
use Rattle.terms.specs.Fields.{fields_of, is_path, is_qualifier, held_path, held_qualifier, field_ok, bad_place}
use Rattle.terms.specs.Nesting.{operand_nesting, nesting_by, nestings, nesting}
use Rattle.selector_grammar.specs.Bytes.{is_space, is_start, is_name, is_quote}
use Rattle.selector_grammar.specs.Words as words
use Rattle.selector_grammar.specs.Words.{next, axes, types, is_some, instruction_word, or_zero, bytes_of, numbered}
use Rattle.selector_grammar.specs.Words.{number_of}
use Rattle.selector_grammar.specs.Grammar.{spell_axis, spell_test, spell_bool, spell_step, spell_rel, spell_path}
use Rattle.selector_grammar.specs.Grammar.{spell_union}
use Rattle.selector_grammar.specs.Grammar.{spell_unary, spell_and, spell_or, takes_predicate}
use Rattle.selector_grammar.specs.private.Reader.{run, outcome, follow, step, finish, need_byte, after_byte, path_byte}
use Rattle.selector_grammar.specs.private.Reader.{union_byte, unary_byte, shut, group_byte, lead_byte, call_byte}
use Rattle.selector_grammar.specs.private.Reader.{paren_byte_next}
use Rattle.selector_grammar.specs.private.Reader.{colon_byte_next, keyword_byte, lead_end, at_top, room, room_of}
use Rattle.selector_grammar.specs.private.Reader.{prefix_of}
use Rattle.selector_grammar.specs.private.Reader.{join}
use Rattle.selector_grammar.specs.private.Reader.{with_prefix, join_alt, wrap, left_of, and_to}
use Rattle.selector_grammar.specs.Denotes.{unlisted, test_names, step_names, rel_names, path_names, union_names}
use Rattle.selector_grammar.specs.Denotes.{unary_names}
use Rattle.selector_grammar.specs.Denotes.{and_names, or_names, axis_of, constant_of, test_of, step_of, rel_of}
use Rattle.selector_grammar.specs.Denotes.{rel_after}
use Rattle.selector_grammar.specs.Denotes.{path_of, union_of, unary_of, and_of, or_of, put, put_path, put_qual}
use Rattle.selector_grammar.specs.Denotes.{nest_path}
use Rattle.selector_grammar.specs.Denotes.{nest_qual}
use Rattle.selector_grammar.specs.private.ReaderAnswer.{reply_to, reply_to_reading, reply_to_names, reply_to_term}
use Rattle.calls.specs.Book.{empty_book}
use Rattle.calls.specs.TermCall.{term_answer}
use Rattle.calls.specs.PointCall.{place_of, point_answer, return_answer}
use Rattle.calls.specs.TextCall.{text_reply, text_answer}
use Rattle.calls.specs.Runs.{shown}
use Rattle.calls.specs.Calls.{Call, CallSeen, plain_book}
use Rattle.calls.specs.values.CallCases.{CallCase, ◌gets◌, calls_in}

-- a call's number, its value and how many rows are held after it
unfoldable told : CallSeen → List ℕ
told o = o.answer.number ∷ o.answer.value ∷ length o.held.rows ∷ []

-- with the names a and b
abbrev text : String → Call
text t = Call.text (ascii "a\nb") (ascii t)

abbrev calls_made : List (CallCase (List ℕ))
calls_made =
    text "a" gets (0 ∷ 0 ∷ 1 ∷ [])
    ∷ text "a/b" gets (0 ∷ 2 ∷ 3 ∷ [])
    -- a refused text adds nothing, whatever was read before the refused place
    ∷ text "b/a/c" gets (19 ∷ 4 ∷ 3 ∷ [])
    ∷ text "b/a/" gets (18 ∷ 4 ∷ 3 ∷ [])
    -- rows that a text holds are held for term calls, and the other way round
    ∷ Call.term (row 2 1 0 2) gets (12 ∷ 1 ∷ 3 ∷ [])
    ∷ Call.term (row 3 1 0 0) gets (0 ∷ 3 ∷ 4 ∷ [])
    ∷ text "b|a" gets (0 ∷ 3 ∷ 4 ∷ [])
    -- the list comes first, the selector second
    ∷ Call.text (ascii "a") (ascii "b") gets (19 ∷ 0 ∷ 4 ∷ [])
    -- a return drops what a text held since, which can then be held again
    ∷ Call.point 5 gets (0 ∷ 0 ∷ 4 ∷ [])
    ∷ text "a/b/a" gets (0 ∷ 4 ∷ 5 ∷ [])
    ∷ Call.return 5 gets (0 ∷ 0 ∷ 4 ∷ [])
    ∷ text "a/b/a" gets (0 ∷ 4 ∷ 5 ∷ [])
    ∷ []

calls_told : map told (shown plain_book empty_book (calls_in calls_made)) ≡ map (λ c. c.expected) calls_made
unfolding told shown point_answer return_answer place_of text_answer text_reply term_answer bad_place fields_of
    field_ok held_path held_qualifier is_path is_qualifier nesting nestings entries_from nesting_by operand_nesting
    ascii lines in_first_line same_row find run outcome follow step finish need_byte after_byte path_byte union_byte
    unary_byte shut group_byte lead_byte call_byte paren_byte_next colon_byte_next keyword_byte lead_end at_top room
    room_of prefix_of join with_prefix join_alt wrap left_of and_to is_space is_start is_name is_quote same_bytes
    words.find next axes types is_some instruction_word or_zero bytes_of numbered number_of spell_axis spell_test
    spell_bool spell_step spell_rel spell_path spell_union spell_unary spell_and spell_or takes_predicate unlisted
    test_names step_names rel_names path_names union_names unary_names and_names or_names axis_of constant_of test_of
    step_of rel_of rel_after path_of union_of unary_of and_of or_of put put_path put_qual nest_path nest_qual
    reply_to_term reply_to_names reply_to_reading reply_to
calls_told = refl
