-- Words of the grammar with their numbers, and the numbers of a lent list of names.
use Rattle.std.specs.Prelude.{ℕ, suc, ◌+◌, Bool, true, false, cond, List, [], ◌∷◌, leb}
use Rattle.std.proofs.Math.Option.{Option, none, some}
use Rattle.common.specs.NodeTests.{node_test}
use Rattle.lines.specs.Ascii.{ascii}
use Rattle.lines.specs.Line.{Line, lines, same_bytes}
use Rattle.lines.specs.Number.{max_number}
use Rattle.selector_grammar.specs.Bytes.{Bytes}

unfoldable pub next : Option ℕ → Option ℕ
next none = none
next (some i) = some (suc i)

-- the place of a word in a list, from 0
unfoldable pub find : Bytes → List Bytes → Option ℕ
find n [] = none
find n (m ∷ ms) = cond (same_bytes n m) (some 0) (next (find n ms))

-- `processing-instruction`, which may have a target
unfoldable pub instruction_word : Bytes
unfolding ascii
instruction_word = ascii "processing-instruction"

-- axes 0 to 11; `namespace` is none of them
unfoldable pub axes : List Bytes
unfolding ascii
axes =
    ascii "self"
    ∷ ascii "child"
    ∷ ascii "parent"
    ∷ ascii "descendant"
    ∷ ascii "ancestor"
    ∷ ascii "descendant-or-self"
    ∷ ascii "ancestor-or-self"
    ∷ ascii "following-sibling"
    ∷ ascii "preceding-sibling"
    ∷ ascii "following"
    ∷ ascii "preceding"
    ∷ ascii "attribute"
    ∷ []

-- node types: their place from 0; tests 2 to 5
unfoldable pub types : List Bytes
unfolding ascii instruction_word
types = ascii "node" ∷ ascii "text" ∷ ascii "comment" ∷ instruction_word ∷ []

unfoldable pub is_some : Option ℕ → Bool
is_some none = false
is_some (some i) = true

unfoldable pub or_zero : Option ℕ → ℕ
or_zero none = 0
or_zero (some i) = i

abbrev pub is_axis : Bytes → Bool
is_axis n = is_some (find n axes)

abbrev pub is_type : Bytes → Bool
is_type n = is_some (find n types)

abbrev pub axis_code : Bytes → ℕ
axis_code n = or_zero (find n axes)

abbrev pub type_code : Bytes → ℕ
type_code n = node_test + or_zero (find n types)

-- the bytes of the lines
unfoldable pub bytes_of : List Line → List Bytes
bytes_of [] = []
bytes_of (l ∷ ls) = l.bytes ∷ bytes_of ls

unfoldable pub numbered : Option ℕ → ℕ
numbered none = 0
numbered (some i) = cond (leb (suc i) max_number) (suc i) 0

-- the number of a name, 1 to 65535, or 0 if it is not in the list: the first line that equals it counts
unfoldable pub number_of : Bytes → Bytes → ℕ
number_of list n = numbered (find n (bytes_of (lines list)))
