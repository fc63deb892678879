-- Points and returns, by computation: what is left, which names are free, and each refusal.
use Rattle.std.specs.Prelude.{ℕ, refl, List, [], ◌∷◌, ◌++◌}
use Rattle.std.proofs.Common.{arith}
use Rattle.common.specs.Lists.{Every}
use Rattle.common.specs.values.Expected.{◌is◌, AllRight}
use Rattle.terms.specs.Row.{Row, row}
use Rattle.calls.specs.Book as books
use Rattle.calls.specs.Book.{Point, Book, pointed_book, empty_book, answer}
use Rattle.calls.specs.Calls.{point, return}
use Rattle.calls.specs.represent.Points.{counts, counts_of, counts_names, point_named, first_points, cleared}
use Rattle.calls.specs.PointCall.{place_of}
use Rattle.calls.specs.PointLaws.{KeepsPoints}
use Rattle.calls.specs.values.CallCases.{term, step, ◌leaving◌, seen_from, ◌gets◌, AllSeen, Answered, Refused}

-- child::2, descendant::*, and then true
abbrev two_rows : List Row
two_rows = row 2 1 0 2 ∷ row 2 3 1 0 ∷ []

abbrev three_rows : List Row
three_rows = two_rows ++ row 6 0 0 0 ∷ []

abbrev one_step : List books.Step
one_step = books.step 8 0 1 0 0 ∷ []

abbrev two_steps : List books.Step
two_steps = one_step ++ books.step 2 0 0 0 0 ∷ []

-- point 5 is set on an empty book, 6 and 7 with the same rows and steps
abbrev five : Point
five = books.point 5 [] []

abbrev six : Point
six = books.point 6 two_rows one_step

abbrev seven : Point
seven = books.point 7 two_rows one_step

abbrev with_three : Book
with_three = pointed_book two_rows one_step (five ∷ six ∷ seven ∷ [])

points_set :
    AllSeen empty_book
    (point 5 gets answer 0 0 leaving pointed_book [] [] (five ∷ [])
    ∷ term 2 1 0 2 gets answer 0 0 leaving pointed_book (row 2 1 0 2 ∷ []) [] (five ∷ [])
    ∷ term 2 3 1 0 gets answer 0 1 leaving pointed_book two_rows [] (five ∷ [])
    ∷ step 8 0 1 0 0 gets answer 0 1 leaving pointed_book two_rows one_step (five ∷ [])
    ∷ point 6 gets answer 0 0 leaving pointed_book two_rows one_step (five ∷ six ∷ [])
    ∷ point 7 gets answer 0 0 leaving with_three
    ∷ term 6 0 0 0 gets answer 0 2 leaving pointed_book three_rows one_step (five ∷ six ∷ seven ∷ [])
    ∷ step 2 0 0 0 0 gets answer 0 2 leaving pointed_book three_rows two_steps (five ∷ six ∷ seven ∷ [])
    ∷ [])
unfolding seen_from
points_set = refl

-- a return leaves just what was held, keeps the point and the earlier ones, and frees the later names; steps on the row
-- and the step that are gone are refused, and both can be held again
returns_made :
    AllSeen (pointed_book three_rows two_steps (five ∷ six ∷ seven ∷ []))
    (return 6 gets answer 0 0 leaving pointed_book two_rows one_step (five ∷ six ∷ [])
    ∷ step 2 2 2 0 0 gets answer 5 1 leaving pointed_book two_rows one_step (five ∷ six ∷ [])
    ∷ step 3 0 1 1 2 gets answer 6 2 leaving pointed_book two_rows one_step (five ∷ six ∷ [])
    ∷ return 7 gets answer 20 7 leaving pointed_book two_rows one_step (five ∷ six ∷ [])
    ∷ point 7 gets answer 0 0 leaving with_three
    ∷ term 6 0 0 0 gets answer 0 2 leaving pointed_book three_rows one_step (five ∷ six ∷ seven ∷ [])
    ∷ step 2 0 0 0 0 gets answer 0 2 leaving pointed_book three_rows two_steps (five ∷ six ∷ seven ∷ [])
    ∷ return 7 gets answer 0 0 leaving with_three
    ∷ return 6 gets answer 0 0 leaving pointed_book two_rows one_step (five ∷ six ∷ [])
    ∷ return 6 gets answer 0 0 leaving pointed_book two_rows one_step (five ∷ six ∷ [])
    ∷ [])
unfolding seen_from
returns_made = refl

-- a return to the first point forgets two, and their names are free
two_forgotten :
    AllSeen with_three
    (return 5 gets answer 0 0 leaving pointed_book [] [] (five ∷ [])
    ∷ return 6 gets answer 20 6 leaving pointed_book [] [] (five ∷ [])
    ∷ return 7 gets answer 20 7 leaving pointed_book [] [] (five ∷ [])
    ∷ point 7 gets answer 0 0 leaving pointed_book [] [] (five ∷ books.point 7 [] [] ∷ [])
    ∷ point 6 gets answer 0 0 leaving pointed_book [] [] (five ∷ books.point 7 [] [] ∷ books.point 6 [] [] ∷ [])
    ∷ [])
unfolding seen_from
two_forgotten = refl

-- names 0 and in use; no such point
names_refused :
    Refused with_three
    (point 0 gets answer 20 0 ∷ point 5 gets answer 20 5 ∷ point 6 gets answer 20 6 ∷ point 7 gets answer 20 7
    ∷ return 0 gets answer 20 0 ∷ return 8 gets answer 20 8 ∷ return 65535 gets answer 20 65535
    ∷ [])
unfolding seen_from
names_refused = refl

none_refused :
    Refused empty_book
    (return 1 gets answer 20 1 ∷ return 0 gets answer 20 0 ∷ point 0 gets answer 20 0 ∷ [])
unfolding seen_from
none_refused = refl

-- the calls that may stand between a point that is set and the return to it, where point 5 is earlier
kept :
    Every (KeepsPoints (5 ∷ []))
    (term 2 1 0 2 ∷ step 8 0 1 0 0 ∷ point 5 ∷ point 6 ∷ return 6 ∷ return 9 ∷ return 0 ∷ [])
unfolding place_of
kept = (
  tt,
  (tt, (tt, (tt, ((λ h. omega (arith, h)), ((λ h. omega (arith, h)), ((λ h. omega (arith, h)), tt)))))),
)

none_earlier : Every (KeepsPoints []) (return 5 ∷ return 0 ∷ [])
unfolding place_of
none_earlier = ((λ h. omega (arith, h)), ((λ h. omega (arith, h)), tt))

-- a ninth point is refused, though all are set at the same place; 20 comes before 21; a refused one does not count
ninth_refused :
    Answered empty_book
    (point 1 gets answer 0 0 ∷ point 2 gets answer 0 0 ∷ point 3 gets answer 0 0 ∷ point 4 gets answer 0 0
    ∷ point 5 gets answer 0 0 ∷ point 6 gets answer 0 0 ∷ point 7 gets answer 0 0 ∷ point 65535 gets answer 0 0
    ∷ point 9 gets answer 21 0 ∷ point 65535 gets answer 20 65535 ∷ point 0 gets answer 20 0
    ∷ return 9 gets answer 20 9 ∷ return 7 gets answer 0 0 ∷ point 9 gets answer 0 0
    ∷ point 65535 gets answer 21 0 ∷ return 1 gets answer 0 0 ∷ point 65535 gets answer 0 0
    ∷ [])
unfolding seen_from
ninth_refused = refl

-- a session's points, three numbers each: an incomplete one is none, and past the count none is held
pub points_read :
    AllRight
    (counts_of (7 ∷ 1 ∷ 2 ∷ 8 ∷ []) is (counts 7 1 2 ∷ [])
    ∷ counts_of (7 ∷ 1 ∷ 2 ∷ 8 ∷ 3 ∷ []) is (counts 7 1 2 ∷ [])
    ∷ first_points 1 (7 ∷ 1 ∷ 2 ∷ 8 ∷ 3 ∷ 4 ∷ []) is (counts 7 1 2 ∷ [])
    ∷ (point_named (counts 7 1 2 ∷ counts 8 3 4 ∷ []) 8 ∷ []) is (counts 8 3 4 ∷ [])
    ∷ (point_named (counts 7 1 2 ∷ counts 7 3 4 ∷ []) 7 ∷ []) is (counts 7 1 2 ∷ [])
    ∷ (point_named (counts 7 1 2 ∷ counts 8 3 4 ∷ []) 9 ∷ []) is (counts 0 0 0 ∷ [])
    ∷ [])
unfolding counts_of place_of
points_read = refl

abbrev nine_points : List ℕ
nine_points =
    1 ∷ 0 ∷ 0 ∷ 2 ∷ 0 ∷ 0 ∷ 3 ∷ 0 ∷ 0 ∷ 4 ∷ 0 ∷ 0 ∷ 5 ∷ 0 ∷ 0 ∷ 6 ∷ 0 ∷ 0 ∷ 7 ∷ 0 ∷ 0 ∷ 8 ∷ 0 ∷ 0 ∷ 9 ∷ 0 ∷ 0 ∷ []

-- a count above 8 is read as 8; numbers are cleared from a place on
pub numbers_left :
    AllRight
    (counts_names (first_points 9 nine_points) is (1 ∷ 2 ∷ 3 ∷ 4 ∷ 5 ∷ 6 ∷ 7 ∷ 8 ∷ [])
    ∷ cleared 2 (5 ∷ 6 ∷ 7 ∷ 8 ∷ []) is (5 ∷ 6 ∷ 0 ∷ 0 ∷ [])
    ∷ cleared 0 (5 ∷ 6 ∷ []) is (0 ∷ 0 ∷ [])
    ∷ cleared 9 (5 ∷ 6 ∷ []) is (5 ∷ 6 ∷ [])
    ∷ [])
unfolding counts_of
numbers_left = refl
