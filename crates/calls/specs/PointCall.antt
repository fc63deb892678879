-- The calls point and return on the plain book.
use Rattle.std.specs.Prelude.{ℕ, ◌+◌, cond, ◌||◌, List, [], ◌∷◌, ◌++◌, map, leb, ltb, eqb, length, get_or, take}
use Rattle.calls.specs.Book.{Point, point, no_point, max_points, Book, pointed_book, Answer, answer}
use Rattle.common.specs.Refusals.{bad_point, points_full}

abbrev pub point_names : List Point → List ℕ
point_names ps = map (λ p. p.name) ps

-- the place of a name among names, counted from 0; where it is none of them, how many there are
unfoldable pub place_of : List ℕ → ℕ → ℕ
place_of [] n = 0
place_of (x ∷ xs) n = cond (eqb x n) 0 (place_of xs n + 1)

-- setting a point of the name n, where points of these names are held: the first refusal that applies, in the order
-- 20, 21; else 0
unfoldable pub point_answer : (names : List ℕ) → (n : ℕ) → Answer
point_answer names n =
    cond (eqb n 0 || ltb (place_of names n) (length names)) (answer bad_point n)
    (cond (leb max_points (length names)) (answer points_full 0)
    (answer 0 0))

-- returning to the point of the name n: 20, or 0
unfoldable pub return_answer : (names : List ℕ) → (n : ℕ) → Answer
return_answer names n = cond (leb (length names) (place_of names n)) (answer bad_point n) (answer 0 0)

-- where no refusal applies, the point goes to the end of its list, with the rows and steps held
abbrev pub point_book : Book → ℕ → Book
point_book b n = pointed_book b.rows b.steps (b.points ++ (point n b.rows b.steps ∷ []))

-- where no refusal applies, just the rows and steps of the point are left, and later points are forgotten
abbrev pub return_book : Book → ℕ → Book
return_book b n =
    let i = place_of (point_names b.points) n in
    let p = get_or b.points i no_point in
    pointed_book p.rows p.steps (take (i + 1) b.points)
