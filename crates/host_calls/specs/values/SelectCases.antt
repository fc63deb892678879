-- Selects by a selector as text, by computation.
use Rattle.std.specs.Prelude.{ℕ, refl, List, [], ◌∷◌, length}
use Prim.Native.String.{String}
use Rattle.std.proofs.Math.Option.{Option-elim}
use Rattle.common.specs.Bounded.{first_below}
use Rattle.common.specs.Lists.{joined}
use Rattle.common.specs.values.Expected.{◌is◌, AllRight}
use Rattle.xpath.specs.Document.{kind_at, parent_at, name_at, is_child, climb_meets, is_ancestor, kind_and_name_ok}
use Rattle.xpath.specs.Document.{row_ok}
use Rattle.xpath.specs.Document.{document_of, lent_rows, bad_row, document_refusal}
use Rattle.xpath.specs.Axis.{on_axis, passes}
use Rattle.xpath.specs.Meaning.{selects}
use Rattle.xpath.specs.Visits.{visits}
use Rattle.lines.specs.Ascii.{ascii}
use Rattle.lines.specs.Line.{in_first_line, lines, same_bytes}
use Rattle.terms.specs.Row.{table_of, entries_from, same_row, find, table_with}
use Rattle.terms.specs.Fields.{is_path, held_path}
use Rattle.terms.specs.Terms.{as_path, term_by, terms, term_at}
use Rattle.selection.specs.Marks.{written}
use Rattle.selector_grammar.specs.Bytes.{is_space, is_start, is_name, is_quote}
use Rattle.selector_grammar.specs.Words as words
use Rattle.selector_grammar.specs.Words.{next, axes, types, is_some, instruction_word, or_zero, bytes_of, numbered}
use Rattle.selector_grammar.specs.Words.{number_of}
use Rattle.selector_grammar.specs.Grammar.{spell_axis, spell_test, spell_bool, spell_step, spell_rel, spell_path}
use Rattle.selector_grammar.specs.Grammar.{spell_union}
use Rattle.selector_grammar.specs.Grammar.{spell_unary, spell_and, spell_or, takes_predicate}
use Rattle.selector_grammar.specs.private.Reader.{run, outcome, follow, step, finish, need_byte, after_byte, path_byte}
use Rattle.selector_grammar.specs.private.Reader.{union_byte, unary_byte, shut, group_byte, lead_byte, call_byte}
use Rattle.selector_grammar.specs.private.Reader.{paren_byte_next}
use Rattle.selector_grammar.specs.private.Reader.{colon_byte_next, keyword_byte, lead_end, at_top, room, room_of}
use Rattle.selector_grammar.specs.private.Reader.{prefix_of}
use Rattle.selector_grammar.specs.private.Reader.{join}
use Rattle.selector_grammar.specs.private.Reader.{with_prefix, join_alt, wrap, left_of, and_to}
use Rattle.selector_grammar.specs.Denotes.{unlisted, test_names, step_names, rel_names, path_names, union_names}
use Rattle.selector_grammar.specs.Denotes.{unary_names}
use Rattle.selector_grammar.specs.Denotes.{and_names, or_names, axis_of, constant_of, test_of, step_of, rel_of}
use Rattle.selector_grammar.specs.Denotes.{rel_after}
use Rattle.selector_grammar.specs.Denotes.{path_of, union_of, unary_of, and_of, or_of, put, put_path, put_qual}
use Rattle.selector_grammar.specs.Denotes.{nest_path}
use Rattle.selector_grammar.specs.Denotes.{nest_qual}
use Rattle.selector_grammar.specs.private.ReaderAnswer.{reply_to, reply_to_reading, reply_to_names, reply_to_term}
use Rattle.calls.specs.SelectCall.{select_answer, select_buffer}
use Rattle.calls.specs.TextCall.{text_reply, text_answer}
use Rattle.session.specs.View.{view, fresh_session, with_rows}
use Rattle.session.specs.TextRead as text-read
use Rattle.session.specs.TextRead.{read_rows}
use Rattle.host_calls.specs.TextSelect.{text_select_answer, text_select_buffer}

-- number and value, and then the bytes left, with the names a and b
abbrev selected : (t : String) → List ℕ → (x limit : ℕ) → List ℕ → List ℕ
selected t xs x limit buffer =
    let a = text_select_answer (ascii "a\nb") (ascii t) xs x limit (length buffer) in
    a.number ∷ a.value ∷ text_select_buffer (ascii "a\nb") (ascii t) xs x limit buffer

-- a root with an element a
abbrev log : List ℕ
log = 0 ∷ 0 ∷ 0 ∷ 1 ∷ 0 ∷ 1 ∷ []

abbrev buffer : List ℕ
buffer = 7 ∷ 7 ∷ 7 ∷ []

selects_made :
    AllRight
    (selected "a" log 0 1 buffer is (0 ∷ 1 ∷ 0 ∷ 1 ∷ 7 ∷ [])
    ∷ selected "b" log 0 1 buffer is (0 ∷ 1 ∷ 0 ∷ 0 ∷ 7 ∷ [])
    ∷ selected ".." log 1 1 buffer is (0 ∷ 1 ∷ 1 ∷ 0 ∷ 7 ∷ [])
    -- a limit passed, a node that is not there, a short buffer, no document
    ∷ selected "a" log 0 0 buffer is (15 ∷ 0 ∷ 7 ∷ 7 ∷ 7 ∷ [])
    ∷ selected "a" log 2 1 buffer is (9 ∷ 1 ∷ 7 ∷ 7 ∷ 7 ∷ [])
    ∷ selected "a" log 0 1 (7 ∷ []) is (14 ∷ 0 ∷ 7 ∷ [])
    ∷ selected "a" [] 0 1 buffer is (8 ∷ 0 ∷ 7 ∷ 7 ∷ 7 ∷ [])
    -- a name that isn't listed, a text that is no selector: the text is judged before the document
    ∷ selected "c" log 0 1 buffer is (19 ∷ 0 ∷ 7 ∷ 7 ∷ 7 ∷ [])
    ∷ selected "a]" [] 0 1 buffer is (18 ∷ 1 ∷ 7 ∷ 7 ∷ 7 ∷ [])
    ∷ [])
unfolding
    text_select_answer text_select_buffer text-read.read_answer read_rows with_rows table_with joined text_answer
    text_reply run outcome follow step finish need_byte after_byte path_byte union_byte unary_byte shut group_byte
    lead_byte
    call_byte paren_byte_next colon_byte_next keyword_byte lead_end at_top room room_of prefix_of join with_prefix
    join_alt wrap left_of
    and_to is_space is_start is_name is_quote same_bytes words.find next axes types is_some instruction_word or_zero
    bytes_of
    numbered number_of spell_axis spell_test spell_bool spell_step spell_rel spell_path spell_union spell_unary
    spell_and spell_or
    takes_predicate unlisted test_names step_names rel_names path_names union_names unary_names and_names or_names
    axis_of
    constant_of test_of step_of rel_of rel_after path_of union_of unary_of and_of or_of put put_path put_qual
    nest_path nest_qual
    reply_to_term reply_to_names reply_to_reading reply_to ascii lines in_first_line view table_of
    fresh_session
    find same_row select_answer Option-elim document_refusal lent_rows bad_row first_below document_of row_ok
    kind_and_name_ok
    kind_at parent_at name_at is_child climb_meets is_ancestor held_path is_path term_at terms entries_from term_by
    as_path visits
    select_buffer written selects on_axis passes
selects_made = refl
