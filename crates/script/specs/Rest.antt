-- What stands behind the word of a line.
use Rattle.std.specs.Prelude.{ℕ, cond, List, [], ◌∷◌, map, eqb}
use Rattle.lines.specs.Line.{newline, space, Line}

-- the bytes behind a line's first space; none where it has no space
unfoldable pub rest_of : List ℕ → List ℕ
rest_of [] = []
rest_of (x ∷ xs) = cond (eqb x space) xs (rest_of xs)

-- the list of names that they write, a newline for each space
abbrev pub newline_for_space : ℕ → ℕ
newline_for_space x = cond (eqb x space) newline x

unfoldable pub names_of : List ℕ → List ℕ
names_of xs = map newline_for_space xs

-- the bytes of the first line
unfoldable pub first_bytes : List Line → List ℕ
first_bytes [] = []
first_bytes (l ∷ ls) = l.bytes
