-- Answers to texts, by computation: number, value and the rows held afterwards.
use Rattle.std.specs.Prelude.{ℕ, zero, suc, refl, List, [], ◌∷◌, ◌++◌, length, replicate}
use Prim.Native.String.{String}
use Rattle.std.proofs.Math.Option.{none, some}
use Rattle.common.specs.values.Expected.{Case, ◌is◌, AllRight}
use Rattle.lines.specs.Ascii.{ascii}
use Rattle.lines.specs.Line.{in_first_line, lines, same_bytes}
use Rattle.terms.specs.Row.{Row, row, same_row, find}
use Rattle.selector_grammar.specs.Bytes.{Bytes, is_space, is_start, is_name, is_quote}
use Rattle.selector_grammar.specs.Words as words
use Rattle.selector_grammar.specs.Words.{next, axes, types, is_some, instruction_word, or_zero, bytes_of, numbered}
use Rattle.selector_grammar.specs.Words.{number_of}
use Rattle.selector_grammar.specs.Grammar.{takes_predicate, spell_axis, spell_test, spell_bool, spell_step, spell_rel}
use Rattle.selector_grammar.specs.Grammar.{spell_path, spell_union, spell_unary, spell_and, spell_or}
use Rattle.selector_grammar.specs.private.Reader.{run, outcome, follow, step, finish, need_byte, after_byte, path_byte}
use Rattle.selector_grammar.specs.private.Reader.{union_byte, unary_byte, shut, group_byte, lead_byte, call_byte}
use Rattle.selector_grammar.specs.private.Reader.{paren_byte_next}
use Rattle.selector_grammar.specs.private.Reader.{colon_byte_next, keyword_byte, lead_end, at_top, room, room_of}
use Rattle.selector_grammar.specs.private.Reader.{prefix_of}
use Rattle.selector_grammar.specs.private.Reader.{join}
use Rattle.selector_grammar.specs.private.Reader.{with_prefix, join_alt, wrap, left_of, and_to}
use Rattle.selector_grammar.specs.Denotes.{unlisted, test_names, step_names, rel_names, path_names, union_names}
use Rattle.selector_grammar.specs.Denotes.{unary_names}
use Rattle.selector_grammar.specs.Denotes.{and_names, or_names, axis_of, constant_of, test_of, step_of, rel_of}
use Rattle.selector_grammar.specs.Denotes.{rel_after}
use Rattle.selector_grammar.specs.Denotes.{path_of, union_of, unary_of, and_of, or_of, put, put_path, put_qual}
use Rattle.selector_grammar.specs.Denotes.{nest_path}
use Rattle.selector_grammar.specs.Denotes.{nest_qual}
use Rattle.selector_grammar.specs.Answer.{Reply, reply}
use Rattle.selector_grammar.specs.private.ReaderAnswer.{reply_to_term, reply_to_names, reply_to_reading, reply_to}

-- the answer; to unfold it is to unfold all that it computes with
unfoldable told : Bytes → Bytes → List Row → Reply
unfolding
    ascii lines in_first_line same_row find run outcome follow step finish need_byte after_byte path_byte union_byte
    unary_byte
    shut group_byte lead_byte call_byte paren_byte_next colon_byte_next keyword_byte lead_end at_top room room_of
    prefix_of join with_prefix
    join_alt wrap left_of and_to is_space is_start is_name is_quote same_bytes words.find next axes types is_some
    instruction_word
    or_zero bytes_of numbered number_of takes_predicate spell_axis spell_test spell_bool spell_step spell_rel spell_path
    spell_union spell_unary spell_and spell_or unlisted test_names step_names rel_names path_names union_names
    unary_names
    and_names or_names axis_of constant_of test_of step_of rel_of rel_after path_of union_of unary_of and_of or_of put
    put_path
    put_qual nest_path nest_qual reply_to_term reply_to_names reply_to_reading reply_to
told list t rs = reply_to list t rs

-- with the names a, b, c and d, where no row is held
abbrev text : String → Reply
text t = told (ascii "a\nb\nc\nd") (ascii t) []

abbrev held : ℕ → List Row → Reply
held n rs = reply 0 n rs

-- axes by their names, and child where none stands
abbrev axes_read : List (Case Reply)
axes_read =
    text "a" is held 0 (row 2 1 0 1 ∷ [])
    ∷ text "self::a" is held 0 (row 2 0 0 1 ∷ [])
    ∷ text "child::b" is held 0 (row 2 1 0 2 ∷ [])
    ∷ text "parent::c" is held 0 (row 2 2 0 3 ∷ [])
    ∷ text "descendant::d" is held 0 (row 2 3 0 4 ∷ [])
    ∷ text "ancestor::a" is held 0 (row 2 4 0 1 ∷ [])
    ∷ text "descendant-or-self::a" is held 0 (row 2 5 0 1 ∷ [])
    ∷ text "ancestor-or-self::a" is held 0 (row 2 6 0 1 ∷ [])
    ∷ text "following-sibling::a" is held 0 (row 2 7 0 1 ∷ [])
    ∷ text "preceding-sibling::a" is held 0 (row 2 8 0 1 ∷ [])
    ∷ text "following::a" is held 0 (row 2 9 0 1 ∷ [])
    ∷ text "preceding::a" is held 0 (row 2 10 0 1 ∷ [])
    ∷ text "attribute::a" is held 0 (row 2 11 0 1 ∷ [])
    ∷ text "@a" is held 0 (row 2 11 0 1 ∷ [])
    ∷ []

are_axes : AllRight axes_read
unfolding told
are_axes = refl

-- tests, `.` and `..`
abbrev tests_read : List (Case Reply)
tests_read =
    text "*" is held 0 (row 2 1 1 0 ∷ [])
    ∷ text "@*" is held 0 (row 2 11 1 0 ∷ [])
    ∷ text "node()" is held 0 (row 2 1 2 0 ∷ [])
    ∷ text "self::text()" is held 0 (row 2 0 3 0 ∷ [])
    ∷ text "comment()" is held 0 (row 2 1 4 0 ∷ [])
    ∷ text "processing-instruction()" is held 0 (row 2 1 5 0 ∷ [])
    ∷ text "processing-instruction('b')" is held 0 (row 2 1 6 2 ∷ [])
    ∷ text "preceding::processing-instruction ( \"c\" )" is held 0 (row 2 10 6 3 ∷ [])
    ∷ text "." is held 0 (row 2 0 2 0 ∷ [])
    ∷ text ".." is held 0 (row 2 2 2 0 ∷ [])
    ∷ []

are_tests : AllRight tests_read
unfolding told
are_tests = refl

-- chains group from the left; `//` is a composition with descendant-or-self::node(); after a leading `/` they start at
-- the root
abbrev paths_read : List (Case Reply)
paths_read =
    text "/" is held 0 (row 1 0 0 0 ∷ [])
    ∷ text "a/b" is held 2 (row 2 1 0 1 ∷ row 2 1 0 2 ∷ row 4 0 1 0 ∷ [])
    ∷ text "a/b/c" is held 4 (row 2 1 0 1 ∷ row 2 1 0 2 ∷ row 4 0 1 0 ∷ row 2 1 0 3 ∷ row 4 2 3 0 ∷ [])
    ∷ text "/a" is held 2 (row 1 0 0 0 ∷ row 2 1 0 1 ∷ row 4 0 1 0 ∷ [])
    ∷ text "/a/b" is held 4 (row 1 0 0 0 ∷ row 2 1 0 1 ∷ row 4 0 1 0 ∷ row 2 1 0 2 ∷ row 4 2 3 0 ∷ [])
    ∷ text "//a" is held 4 (row 1 0 0 0 ∷ row 2 5 2 0 ∷ row 4 0 1 0 ∷ row 2 1 0 1 ∷ row 4 2 3 0 ∷ [])
    ∷ text "a//b" is held 4 (row 2 1 0 1 ∷ row 2 5 2 0 ∷ row 4 0 1 0 ∷ row 2 1 0 2 ∷ row 4 2 3 0 ∷ [])
    ∷ text "/a//b" is held 6 (row 1 0 0 0 ∷ row 2 1 0 1 ∷ row 4 0 1 0 ∷ row 2 5 2 0 ∷ row 4 2 3 0 ∷ row 2 1 0 2
    ∷ row 4 4 5 0 ∷ [])
    ∷ text ".//a" is held 4 (row 2 0 2 0 ∷ row 2 5 2 0 ∷ row 4 0 1 0 ∷ row 2 1 0 1 ∷ row 4 2 3 0 ∷ [])
    ∷ text "a|b" is held 2 (row 2 1 0 1 ∷ row 2 1 0 2 ∷ row 3 0 1 0 ∷ [])
    ∷ text "a|b|c" is held 4 (row 2 1 0 1 ∷ row 2 1 0 2 ∷ row 3 0 1 0 ∷ row 2 1 0 3 ∷ row 3 2 3 0 ∷ [])
    ∷ text "b|a" is held 2 (row 2 1 0 2 ∷ row 2 1 0 1 ∷ row 3 0 1 0 ∷ [])
    ∷ text "a/b|c" is held 4 (row 2 1 0 1 ∷ row 2 1 0 2 ∷ row 4 0 1 0 ∷ row 2 1 0 3 ∷ row 3 2 3 0 ∷ [])
    -- a row that the text itself has added is used again
    ∷ text "a/a" is held 1 (row 2 1 0 1 ∷ row 4 0 0 0 ∷ [])
    ∷ text "a|a|a" is held 2 (row 2 1 0 1 ∷ row 3 0 0 0 ∷ row 3 1 0 0 ∷ [])
    ∷ []

are_paths : AllRight paths_read
unfolding told
are_paths = refl

-- a path in a predicate means "some": its rows, then void, then in, then not; a filter binds tightest, `and` before
-- `or`, and nothing is simplified
abbrev predicates_read : List (Case Reply)
predicates_read =
    text "a[b]"
    is held 5 (row 2 1 0 1 ∷ row 2 1 0 2 ∷ row 0 0 0 0 ∷ row 11 1 2 0 ∷ row 8 3 0 0 ∷ row 5 0 4 0 ∷ [])
    ∷ text "a/b[c]"
    is held 7 (row 2 1 0 1 ∷ row 2 1 0 2 ∷ row 2 1 0 3 ∷ row 0 0 0 0 ∷ row 11 2 3 0 ∷ row 8 4 0 0 ∷ row 5 1 5 0
    ∷ row 4 0 6 0 ∷ [])
    ∷ text "a[true()][false()]"
    is held 4 (row 2 1 0 1 ∷ row 6 0 0 0 ∷ row 5 0 1 0 ∷ row 7 0 0 0 ∷ row 5 2 3 0 ∷ [])
    ∷ text "a[not(true())]" is held 3 (row 2 1 0 1 ∷ row 6 0 0 0 ∷ row 8 1 0 0 ∷ row 5 0 2 0 ∷ [])
    ∷ text "a[not(a)]"
    is held 5 (row 2 1 0 1 ∷ row 0 0 0 0 ∷ row 11 0 1 0 ∷ row 8 2 0 0 ∷ row 8 3 0 0 ∷ row 5 0 4 0 ∷ [])
    ∷ text "a[(true())]" is held 2 (row 2 1 0 1 ∷ row 6 0 0 0 ∷ row 5 0 1 0 ∷ [])
    ∷ text "a[true() and false() and true()]"
    is held 5 (row 2 1 0 1 ∷ row 6 0 0 0 ∷ row 7 0 0 0 ∷ row 9 1 2 0 ∷ row 9 3 1 0 ∷ row 5 0 4 0 ∷ [])
    ∷ text "a[true() or false() or true()]"
    is held 5 (row 2 1 0 1 ∷ row 6 0 0 0 ∷ row 7 0 0 0 ∷ row 10 1 2 0 ∷ row 10 3 1 0 ∷ row 5 0 4 0 ∷ [])
    ∷ text "a[true() or true() and false()]"
    is held 5 (row 2 1 0 1 ∷ row 6 0 0 0 ∷ row 7 0 0 0 ∷ row 9 1 2 0 ∷ row 10 1 3 0 ∷ row 5 0 4 0 ∷ [])
    ∷ text "a[true() and false() or true()]"
    is held 5 (row 2 1 0 1 ∷ row 6 0 0 0 ∷ row 7 0 0 0 ∷ row 9 1 2 0 ∷ row 10 3 1 0 ∷ row 5 0 4 0 ∷ [])
    ∷ text "a[true() and (false() or true())]"
    is held 5 (row 2 1 0 1 ∷ row 6 0 0 0 ∷ row 7 0 0 0 ∷ row 10 2 1 0 ∷ row 9 1 3 0 ∷ row 5 0 4 0 ∷ [])
    ∷ text "a[b|a]"
    is held 6 (row 2 1 0 1 ∷ row 2 1 0 2 ∷ row 3 1 0 0 ∷ row 0 0 0 0 ∷ row 11 2 3 0 ∷ row 8 4 0 0 ∷ row 5 0 5 0 ∷ [])
    ∷ []

are_predicates : AllRight predicates_read
unfolding told
are_predicates = refl

-- the lent list: the first of two equal lines counts, a line that is no name takes up its number, the last line may
-- lack its newline, and only a whole line is the name
abbrev names_read : List (Case ℕ)
names_read =
    number_of (ascii "a\nb\na\n") (ascii "a") is 1
    ∷ number_of (ascii "b\na\na\n") (ascii "a") is 2
    ∷ number_of (ascii "b\n\n1x\n a\na \na") (ascii "a") is 6
    ∷ number_of (ascii "b\na") (ascii "a") is 2
    ∷ number_of (ascii "ab\nba") (ascii "a") is 0
    ∷ number_of (ascii "a\n") (ascii "ab") is 0
    ∷ number_of (ascii "A\na") (ascii "a") is 2
    ∷ number_of (97 ∷ 13 ∷ 10 ∷ 97 ∷ []) (ascii "a") is 2
    ∷ number_of [] (ascii "a") is 0
    -- lines count from 0 here: line 65534 is the last that gives a number
    ∷ numbered (some 0) is 1
    ∷ numbered (some 65534) is 65535
    ∷ numbered (some 65535) is 0
    ∷ numbered none is 0
    ∷ []

are_names : AllRight names_read
unfolding told
are_names = refl

-- refusal 19 at the first byte of the first such name, in predicates and quotes too; 18 comes before it, wherever it is
abbrev unlisted_names : List (Case Reply)
unlisted_names =
    text "x" is reply 19 0 []
    ∷ text "a/ xy/zz" is reply 19 3 []
    ∷ text "a[b and not( x)]|y" is reply 19 13 []
    ∷ text "child :: x" is reply 19 9 []
    ∷ text "@ x" is reply 19 2 []
    ∷ text "/x" is reply 19 1 []
    ∷ text "//x" is reply 19 2 []
    ∷ text "a//x" is reply 19 3 []
    ∷ text "a|x" is reply 19 2 []
    ∷ text "a[b or x]" is reply 19 7 []
    ∷ text "a[(x)]" is reply 19 3 []
    ∷ text "processing-instruction('x')" is reply 19 24 []
    ∷ text "child::processing-instruction ( 'x')" is reply 19 33 []
    ∷ text "x/y" is reply 19 0 []
    ∷ text "x//y" is reply 19 0 []
    ∷ text "x[y]" is reply 19 0 []
    ∷ text "a[x or y]" is reply 19 2 []
    ∷ text "a[x and y]" is reply 19 2 []
    ∷ text "a [ x ]" is reply 19 4 []
    ∷ text "a | x" is reply 19 4 []
    ∷ text "a[not ( x)]" is reply 19 8 []
    ∷ text "x[" is reply 18 2 []
    ∷ text "x/y/" is reply 18 4 []
    ∷ told [] (ascii "a") [] is reply 19 0 []
    -- words of the grammar are names where they stand as names
    ∷ told (ascii "and\nnot") (ascii "and[not]/and") []
    is held 6 (row 2 1 0 1 ∷ row 2 1 0 2 ∷ row 0 0 0 0 ∷ row 11 1 2 0 ∷ row 8 3 0 0 ∷ row 5 0 4 0 ∷ row 4 5 0 0 ∷ [])
    ∷ []

are_unlisted : AllRight unlisted_names
unfolding told
are_unlisted = refl

-- what is held already is used again, whatever stands between; new rows go to the end
abbrev some_rows : List Row
some_rows = row 2 1 0 2 ∷ row 6 0 0 0 ∷ row 2 1 0 1 ∷ []

abbrev text_after : String → Reply
text_after t = told (ascii "a\nb") (ascii t) some_rows

abbrev held_rows : List (Case Reply)
held_rows =
    text_after "a" is held 2 some_rows
    ∷ text_after "b" is held 0 some_rows
    ∷ text_after "a/b" is held 3 (some_rows ++ (row 4 2 0 0 ∷ []))
    ∷ text_after "b[true()]/c" is reply 19 10 some_rows
    ∷ text_after "b[true()]/" is reply 18 10 some_rows
    ∷ text_after "b[true()]" is held 3 (some_rows ++ (row 5 0 1 0 ∷ []))
    ∷ []

are_held : AllRight held_rows
unfolding told
are_held = refl

-- a/a/.. of n + 1 steps: nesting n + 1, and n + 1 rows
unfoldable chain : ℕ → Bytes
chain zero = 97 ∷ []
chain (suc n) = 97 ∷ 47 ∷ chain n

-- the text with another one behind it, n times
unfoldable behind : ℕ → Bytes → Bytes → Bytes
behind zero t u = t
behind (suc n) t u = behind n (t ++ u) u

-- rows of no use here, as many as said
abbrev others : ℕ → List Row
others n = replicate n (row 12 0 0 0)

-- number and value; refusals are told in the order 18, 19, 3, 11
unfoldable told_short : Bytes → List Row → List ℕ
unfolding told
told_short t rs = let r = told (ascii "a\nb") t rs in r.number ∷ r.value ∷ length r.rows ∷ []

abbrev limits : List (Case (List ℕ))
limits =
    told_short (chain 31) [] is (0 ∷ 31 ∷ 32 ∷ [])
    ∷ told_short (chain 32) [] is (3 ∷ 0 ∷ 0 ∷ [])
    ∷ told_short (chain 40) [] is (3 ∷ 0 ∷ 0 ∷ [])
    ∷ told_short (chain 32 ++ ascii "|c") [] is (19 ∷ 66 ∷ 0 ∷ [])
    ∷ told_short (chain 32 ++ ascii "|") [] is (18 ∷ 66 ∷ 0 ∷ [])
    -- nesting of predicates: some p is two more than p, and the filter one more
    ∷ told_short (ascii "a[" ++ (chain 28 ++ ascii "]")) [] is (0 ∷ 32 ∷ 33 ∷ [])
    ∷ told_short (ascii "a[" ++ (chain 29 ++ ascii "]")) [] is (3 ∷ 0 ∷ 0 ∷ [])
    -- nesting of unions, of predicates in a row, of `and` and of `or`, and below a leading `/`
    ∷ told_short (behind 31 (ascii "a") (ascii "|a")) [] is (0 ∷ 31 ∷ 32 ∷ [])
    ∷ told_short (behind 32 (ascii "a") (ascii "|a")) [] is (3 ∷ 0 ∷ 0 ∷ [])
    ∷ told_short (behind 31 (ascii "a") (ascii "[true()]")) [] is (0 ∷ 32 ∷ 33 ∷ [])
    ∷ told_short (behind 32 (ascii "a") (ascii "[true()]")) [] is (3 ∷ 0 ∷ 0 ∷ [])
    ∷ told_short (behind 30 (ascii "a[true()") (ascii " and true()") ++ ascii "]") [] is (0 ∷ 32 ∷ 33 ∷ [])
    ∷ told_short (behind 31 (ascii "a[true()") (ascii " and true()") ++ ascii "]") [] is (3 ∷ 0 ∷ 0 ∷ [])
    ∷ told_short (behind 30 (ascii "a[true()") (ascii " or true()") ++ ascii "]") [] is (0 ∷ 32 ∷ 33 ∷ [])
    ∷ told_short (behind 31 (ascii "a[true()") (ascii " or true()") ++ ascii "]") [] is (3 ∷ 0 ∷ 0 ∷ [])
    ∷ told_short (ascii "/" ++ chain 30) [] is (0 ∷ 32 ∷ 33 ∷ [])
    ∷ told_short (ascii "/" ++ chain 31) [] is (3 ∷ 0 ∷ 0 ∷ [])
    ∷ told_short (ascii "a") (others 1023) is (0 ∷ 1023 ∷ 1024 ∷ [])
    ∷ told_short (ascii "a") (others 1024) is (11 ∷ 0 ∷ 1024 ∷ [])
    ∷ told_short (ascii "a/a") (others 1022) is (0 ∷ 1023 ∷ 1024 ∷ [])
    ∷ told_short (ascii "a/a") (others 1023) is (11 ∷ 0 ∷ 1023 ∷ [])
    -- a text of held rows is no refusal, however many rows are held; one new row among them is
    ∷ told_short (ascii "a") (others 1023 ++ (row 2 1 0 1 ∷ [])) is (0 ∷ 1023 ∷ 1024 ∷ [])
    ∷ told_short (ascii "a|b") (others 1023 ++ (row 2 1 0 1 ∷ [])) is (11 ∷ 0 ∷ 1024 ∷ [])
    ∷ told_short (chain 32) (others 1024) is (3 ∷ 0 ∷ 1024 ∷ [])
    ∷ told_short (ascii "a|c") (others 1024) is (19 ∷ 2 ∷ 1024 ∷ [])
    ∷ []

are_limits : AllRight limits
unfolding told_short chain behind
are_limits = refl
