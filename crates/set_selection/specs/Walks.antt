-- How two nodes stand to each other, by the columns of parents and of ends.
use Rattle.std.specs.Prelude.{ℕ, Bool, not, ◌&&◌, List, leb, ltb, eqb, get_or}

-- y is under x, its parent
abbrev pub is_under : List ℕ → (x y : ℕ) → Bool
is_under ps x y = not (eqb y 0) && eqb (get_or ps y 0) x

abbrev pub is_over : List ℕ → (x y : ℕ) → Bool
is_over ps x y = is_under ps y x

-- y is in the subtree of x, below it
abbrev pub is_below : List ℕ → (x y : ℕ) → Bool
is_below es x y = ltb x y && ltb y (get_or es x 0)

abbrev pub is_above : List ℕ → (x y : ℕ) → Bool
is_above es x y = is_below es y x

-- y is after the subtree of x
abbrev pub is_after : List ℕ → (x y : ℕ) → Bool
is_after es x y = leb (get_or es x 0) y

abbrev pub is_before : List ℕ → (x y : ℕ) → Bool
is_before es x y = is_after es y x

-- y is after x and has the same parent; x is not row 0
abbrev pub is_later : List ℕ → (x y : ℕ) → Bool
is_later ps x y = not (eqb x 0) && (ltb x y && eqb (get_or ps x 0) (get_or ps y 0))

abbrev pub is_earlier : List ℕ → (x y : ℕ) → Bool
is_earlier ps x y = is_later ps y x
