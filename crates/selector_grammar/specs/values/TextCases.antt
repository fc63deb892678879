-- Texts of the grammar, and texts outside it with their places, by computation: the reader decides the grammar
-- (`given` and `only` in selector_grammar/proofs/Answered.antt).
use Rattle.std.specs.Prelude.{ℕ, zero, suc, ◌-◌, refl, List, [], ◌∷◌, ◌++◌, map, length}
use Prim.Native.String.{String}
use Rattle.std.proofs.Math.Option.{Option, none, some}
use Rattle.common.specs.values.Expected.{Case, ◌is◌, AllRight}
use Rattle.lines.specs.Ascii.{ascii}
use Rattle.lines.specs.Line.{same_bytes}
use Rattle.selector_grammar.specs.Bytes.{Bytes, is_space, is_start, is_name, is_quote}
use Rattle.selector_grammar.specs.Bytes.{quote_byte, open_byte, close_byte, star_byte, hyphen_byte, dot_byte}
use Rattle.selector_grammar.specs.Bytes.{slash_byte}
use Rattle.selector_grammar.specs.Bytes.{colon_byte, at_byte, capital_a, capital_z, open_bracket, close_bracket}
use Rattle.selector_grammar.specs.Bytes.{bar_byte}
use Rattle.selector_grammar.specs.Bytes.{underscore_byte, letter_a, letter_d, letter_n, letter_o, letter_r, letter_z}
use Rattle.selector_grammar.specs.Words.{find, next, axes, types, is_some, instruction_word}
use Rattle.selector_grammar.specs.Grammar.{takes_predicate}
use Rattle.selector_grammar.specs.private.Reader.{Outcome, good, bad, run, initial, outcome, follow, step, finish}
use Rattle.selector_grammar.specs.private.Reader.{need_byte}
use Rattle.selector_grammar.specs.private.Reader.{after_byte, path_byte, union_byte, unary_byte, shut, group_byte}
use Rattle.selector_grammar.specs.private.Reader.{lead_byte}
use Rattle.selector_grammar.specs.private.Reader.{call_byte, paren_byte_next, colon_byte_next, keyword_byte, lead_end}
use Rattle.selector_grammar.specs.private.Reader.{at_top}
use Rattle.selector_grammar.specs.private.Reader.{room, room_of}
use Rattle.selector_grammar.specs.private.Reader.{prefix_of, join, with_prefix, join_alt, wrap, left_of, and_to}

abbrev bytes : Bytes
bytes =
    quote_byte ∷ open_byte ∷ close_byte ∷ star_byte ∷ hyphen_byte ∷ dot_byte ∷ slash_byte ∷ colon_byte ∷ at_byte
    ∷ capital_a ∷ capital_z ∷ open_bracket ∷ close_bracket ∷ underscore_byte ∷ letter_a ∷ letter_d ∷ letter_n ∷ letter_o
    ∷ letter_r ∷ letter_z ∷ bar_byte
    ∷ []

are_named : AllRight (bytes is ascii "'()*-./:@AZ[]_adnorz|" ∷ [])
unfolding ascii
are_named = refl

unfoldable place : Outcome → ℕ → Option ℕ
place (good x) n = none
place (bad k) n = some (n - k)

-- the place of refusal 18; none of a text of the grammar. To unfold it is to unfold all that it computes with
unfoldable refused_at : Bytes → Option ℕ
unfolding
    run outcome follow step finish need_byte after_byte path_byte union_byte unary_byte shut group_byte lead_byte
    call_byte
    paren_byte_next colon_byte_next keyword_byte lead_end at_top room room_of prefix_of join with_prefix join_alt wrap
    left_of and_to is_space
    is_start is_name is_quote same_bytes find next axes types is_some instruction_word takes_predicate place
refused_at t = place (run t initial) (length t)

-- the text is of the grammar
abbrev is_text : String → Case (Option ℕ)
is_text t = refused_at (ascii t) is none

infix 70 ◌at◌
-- the text is outside the grammar, and this is its place
abbrev ◌at◌ : String → ℕ → Case (Option ℕ)
t at n = refused_at (ascii t) is some n

abbrev texts : List String
texts =
    "a" ∷ "/" ∷ "//a" ∷ "/ a" ∷ "a//b" ∷ " a " ∷ "child::a" ∷ "child :: a" ∷ "child" ∷ "@a" ∷ "@*"
    ∷ "@ node ( )" ∷ "attribute::a" ∷ "." ∷ ".." ∷ "./a" ∷ "a.." ∷ "a/.." ∷ ".//a" ∷ "text()" ∷ "text ( )"
    ∷ "text" ∷ "node" ∷ "div" ∷ "and" ∷ "comment()[a]" ∷ "processing-instruction()" ∷ "a[b]" ∷ "a[not(b)]"
    ∷ "a[not (b)]" ∷ "a[not]" ∷ "a[not and not]" ∷ "a[not(tru)]" ∷ "a[true()]" ∷ "a[true]"
    ∷ "a[true() and false()]" ∷ "a[and and and]" ∷ "a[b or c]" ∷ "a[*and*]" ∷ "a[b and(c)]" ∷ "a[b and .]"
    ∷ "a[.and b]" ∷ "a[b[c]and d]" ∷ "a[/]" ∷ "a[/ and/b]" ∷ "a[/|b]" ∷ "a[/ | b and c]" ∷ "a[(b)]"
    ∷ "a[(b|c) and d]" ∷ "a[child::text()]" ∷ "a|b" ∷ "a|b|/" ∷ "*" ∷ "*/*" ∷ "a-b" ∷ "_x"
    ∷ "self::node()[self::text()]" ∷ "following-sibling::b/preceding::*" ∷ "descendant-or-self::node()/a"
    ∷ []

are_texts : AllRight (map is_text texts)
unfolding refused_at ascii
are_texts = refl

-- names that are also words of the grammar, whitespace in every place, operators next to tokens that end by themselves
abbrev more_texts : List String
more_texts =
    "a[.or b]" ∷ "a[*or*]" ∷ "a[(b)or(c)]" ∷ "a[/ or and b]" ∷ "a[or or or]" ∷ "not/true" ∷ "text/node"
    ∷ "a[not/true]" ∷ "a[text]" ∷ "true" ∷ "false | not" ∷ "a[false ( )]" ∷ "a[true ( )or b]" ∷ "child::child"
    ∷ "@attribute" ∷ "a[@b]" ∷ "a[..]" ∷ "a[../b]" ∷ "a[not(not(b))]" ∷ "a[b][c]" ∷ "a[ ( b ) ]" ∷ "/*" ∷ "/."
    ∷ "//." ∷ "//@a" ∷ "/ | /" ∷ "a[/][b]" ∷ "a [ b ] / c" ∷ "self :: node ( )" ∷ "@ a" ∷ "a / b" ∷ "a // b"
    ∷ "A" ∷ "Z" ∷ "a0" ∷ "a9" ∷ "a[text()and b]" ∷ "a[processing-instruction('x')or b]" ∷ "a[..or b]"
    ∷ "a[not(b)or c]" ∷ "a[//b or c]"
    ∷ "a | b" ∷ "a[not ( b )]" ∷ "a[b and or]" ∷ "a[b or and]" ∷ "a[b and c and d or e]" ∷ "processing-instruction"
    ∷ []

are_more_texts : AllRight (map is_text more_texts)
unfolding refused_at ascii
are_more_texts = refl

abbrev outside : List (Case (Option ℕ))
outside =
    "//" at 2 ∷ "/ /a" at 2 ∷ "a///b" at 3 ∷ "a/" at 2 ∷ "" at 0 ∷ "  " at 2 ∷ "chold::a" at 5
    ∷ "child: :a" at 6 ∷ "child:a" at 6 ∷ "a:b" at 1 ∷ "child::" at 7 ∷ "chold ::a" at 6 ∷ "@@a" at 1
    ∷ "@." at 1 ∷ "namespace::a" at 9 ∷ "..." at 2 ∷ ". ." at 2 ∷ ".[a]" at 1 ∷ "..[a]" at 2 ∷ ".5" at 1
    ∷ ".a" at 1 ∷ "text(a)" at 5 ∷ "node::a" at 4 ∷ "a and b" at 2 ∷ "not(a)" at 3 ∷ "true()" at 4 ∷ "(a)" at 0
    ∷ "a[not(tru())]" at 9 ∷ "a[true(]" at 7 ∷ "a[b and]" at 7 ∷ "a[b andc]" at 7 ∷ "a[b an c]" at 6
    ∷ "a[b o c]" at 5 ∷ "a[and (c)]" at 6 ∷ "a[b and.]" at 7 ∷ "a[b]and c" at 4 ∷ "a[/ and b]" at 8
    ∷ "a[b|/ or c]" at 9 ∷ "a[(b)/c]" at 5 ∷ "a[(b)|c]" at 5 ∷ "a[(b)[c]]" at 5 ∷ "a[b|(c)]" at 4
    ∷ "a[b|not(c)]" at 7 ∷ "a[not(b)|c]" at 8 ∷ "a[/not(b)]" at 6 ∷ "a[child::not(b)]" at 12 ∷ "a|" at 2
    ∷ "a||b" at 2 ∷ "a]" at 1 ∷ "a[b" at 3 ∷ "a[]" at 2 ∷ "a[1]" at 2 ∷ "a=\"x\"" at 1 ∷ "a b" at 2 ∷ "$x" at 0
    ∷ "**" at 1 ∷ "a*" at 1 ∷ "a[b*c]" at 3 ∷ "a[b -c]" at 4 ∷ "-a" at 0 ∷ "1a" at 0 ∷ "a[not(" at 6
    ∷ "a[not()]" at 6
    ∷ []

are_outside : AllRight outside
unfolding refused_at ascii
are_outside = refl

-- what the grammar leaves out of XPath 1.0, and where a token can't stand
abbrev more_outside : List (Case (Option ℕ))
more_outside =
    "`" at 0 ∷ "{" at 0 ∷ "a{" at 1 ∷ "a`" at 1 ∷ "a[band c]" at 7 ∷ "a[bor c]" at 6
    ∷ "a[b orb]" at 6 ∷ "a[.or.]" at 5 ∷ "a[/ or b]" at 7 ∷ "foo:b" at 3 ∷ "child:b" at 6 ∷ "/[a]" at 1
    ∷ "///a" at 2 ∷ "processing-instruction::a" at 22 ∷ "a[count(b)]" at 7 ∷ "last()" at 4
    ∷ "a[position()]" at 10 ∷ "a[b=c]" at 3 ∷ "a[b<c]" at 3 ∷ "a[b!=c]" at 3 ∷ "a[b+c]" at 3 ∷ "a['x']" at 2
    ∷ "a[\"x\"]" at 2 ∷ "a[$b]" at 2 ∷ "id('x')" at 2 ∷ "a/(b)" at 2 ∷ "a[b]]" at 4 ∷ "a(b)" at 1 ∷ "//a:b" at 3
    ∷ "a:*" at 1 ∷ "..a" at 2 ∷ "...a" at 2 ∷ "@a:b" at 2 ∷ "a[b div c]" at 4 ∷ "a[b mod c]" at 4
    ∷ "a[text(]" at 7 ∷ "a[.]b" at 4 ∷ "a/.[b]" at 3 ∷ "a/..[b]" at 4
    ∷ "a[not b]" at 6 ∷ "a[true]()" at 7 ∷ "a[true()()]" at 8 ∷ "a[true()/b]" at 8
    ∷ "a[not(b)/c]" at 8 ∷ "a[true ()c]" at 9 ∷ "a[(b)c]" at 5 ∷ "comment(a)" at 8 ∷ "node('x')" at 5
    ∷ "text(\"x\")" at 5
    ∷ []

are_more_outside : AllRight more_outside
unfolding refused_at ascii
are_more_outside = refl

-- targets in quotes
abbrev targets : List String
targets =
    "processing-instruction(\"x\")" ∷ "processing-instruction('x')" ∷ "processing-instruction ( 'x-1.y' )"
    ∷ "a[processing-instruction('x')]" ∷ "processing-instruction('x')[a]"
    ∷ "self::processing-instruction('and')" ∷ "@processing-instruction('x')"
    ∷ []

are_targets : AllRight (map is_text targets)
unfolding refused_at ascii
are_targets = refl

abbrev no_targets : List (Case (Option ℕ))
no_targets =
    "processing-instruction(x)" at 23 ∷ "processing-instruction('')" at 24
    ∷ "processing-instruction('x\")" at 25 ∷ "processing-instruction(' x')" at 24
    ∷ "processing-instruction('x ')" at 25 ∷ "processing-instruction('1')" at 24
    ∷ "processing-instruction('x''y')" at 26 ∷ "processing-instruction('x'" at 26
    ∷ "processing-instruction('x" at 25 ∷ "processing-instruction(' " at 24
    ∷ "processing-instruction('a:b')" at 25 ∷ "processing-instruction('x')(" at 27 ∷ "comment('x')" at 8
    ∷ []

are_no_targets : AllRight no_targets
unfolding refused_at ascii
are_no_targets = refl

-- the same bytes n times
unfoldable times : ℕ → Bytes → Bytes
times zero bs = []
times (suc n) bs = bs ++ times n bs

-- 32 levels and a 33rd: `[`, groups and `not`, each counted, at its own byte; and bytes that are no ASCII letters
abbrev levels : List (Case (Option ℕ))
levels =
    refused_at (ascii "a" ++ (times 32 (ascii "[b") ++ times 32 (ascii "]"))) is none
    ∷ refused_at (ascii "a" ++ (times 33 (ascii "[b") ++ times 33 (ascii "]"))) is some 65
    ∷ refused_at (ascii "a[" ++ (times 31 (ascii "(") ++ (ascii "b" ++ (times 31 (ascii ")") ++ ascii "]")))) is none
    ∷ refused_at (ascii "a[" ++ (times 32 (ascii "(") ++ (ascii "b" ++ (times 32 (ascii ")") ++ ascii "]")))) is some 33
    ∷ refused_at (ascii "a[" ++ (times 31 (ascii "not(") ++ (ascii "b" ++ (times 31 (ascii ")") ++ ascii "]")))) is none
    ∷ refused_at (ascii "a[" ++ (times 32 (ascii "not(") ++ ascii "b")) is some 129
    ∷ refused_at (ascii "a[(" ++ (times 30 (ascii "b[") ++ (ascii "b" ++ (times 30 (ascii "]") ++ ascii ")]")))) is none
    ∷ refused_at (ascii "a[(" ++ (times 31 (ascii "b[") ++ ascii "b")) is some 64
    -- `true()` and node types count none; a level that is closed is free again
    ∷ refused_at (ascii "a" ++ (times 31 (ascii "[b") ++ (ascii "[true()" ++ times 32 (ascii "]")))) is none
    ∷ refused_at (ascii "a" ++ (times 31 (ascii "[b") ++ (ascii "[text()" ++ times 32 (ascii "]")))) is none
    ∷ refused_at (ascii "a[b]" ++ times 39 (ascii "/a[b]")) is none
    ∷ refused_at (ascii "a[(b)" ++ (times 39 (ascii " or (b)") ++ ascii "]")) is none
    ∷ refused_at (times 40 (ascii "a[b]")) is some 4
    ∷ refused_at (ascii "a" ++ times 40 (ascii "[b]")) is none
    ∷ refused_at (ascii "a" ++ 9 ∷ (ascii "[" ++ 10 ∷ (ascii "b" ++ 13 ∷ ascii "]"))) is none
    ∷ refused_at (ascii "a" ++ 0 ∷ []) is some 1
    ∷ refused_at (ascii "a" ++ 11 ∷ []) is some 1
    ∷ refused_at (ascii "a" ++ 160 ∷ []) is some 1
    ∷ refused_at (195 ∷ 169 ∷ []) is some 0
    ∷ []

are_levels : AllRight levels
unfolding refused_at ascii times
are_levels = refl
