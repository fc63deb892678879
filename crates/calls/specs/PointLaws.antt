-- What a return restores.
use Rattle.std.specs.Prelude.{ℕ, ◌<◌, ◌≡◌, List, ◌∷◌, length}
use Rattle.common.specs.Lists.{Every}
use Rattle.calls.specs.Book.{Book, answer, IsAccepted}
use Rattle.calls.specs.PointCall.{point_names, place_of}
use Rattle.calls.specs.Runs.{next, final}
use Rattle.calls.specs.Calls.{Call, term, step, text, point, return, book_answer, plain_book}

-- the call returns to none of the points of these names
abbrev pub KeepsPoints : (names : List ℕ) → Call → Type 0
KeepsPoints names (term r) = Unit {0}
KeepsPoints names (step p) = Unit {0}
KeepsPoints names (text listed t) = Unit {0}
KeepsPoints names (point n) = Unit {0}
KeepsPoints names (return n) = ¬ (place_of names n < length names)

-- a point is set, calls are made of which none returns to an earlier point, and then one returns to it: this is
-- accepted, and the book is the one that setting the point left
abbrev pub ReturnRestores : Type 0
ReturnRestores = (b : Book) (n : ℕ) (cs : List Call)
    → IsAccepted (book_answer b (point n)) → Every (KeepsPoints (point_names b.points)) cs
    → (book_answer (final plain_book b (point n ∷ cs)) (return n) ≡ answer 0 0)
    × (next plain_book (final plain_book b (point n ∷ cs)) (return n) ≡ next plain_book b (point n))
