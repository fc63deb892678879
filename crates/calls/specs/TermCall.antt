-- The call term on the plain book.
use Rattle.std.specs.Prelude.{cond, List, [], ◌∷◌, ◌++◌, leb, ltb, length}
use Rattle.terms.specs.Row.{Row, max_rows, find}
use Rattle.terms.specs.Fields.{max_kind, bad_place}
use Rattle.terms.specs.Nesting.{max_nesting, nesting}
use Rattle.calls.specs.Book.{Book, pointed_book, Answer, answer}
use Rattle.common.specs.Refusals.{bad_kind, bad_field, too_deep, terms_full, already_held}

-- the first refusal that applies, in the order 1, 2, 3, 12, 11; else 0 with the row's number
unfoldable pub term_answer : List Row → Row → Answer
term_answer rs r =
    cond (ltb max_kind r.kind) (answer bad_kind 0)
    (cond (ltb 0 (bad_place rs r)) (answer bad_field (bad_place rs r))
    (cond (ltb max_nesting (nesting rs r)) (answer too_deep 0)
    (cond (ltb (find rs r) (length rs)) (answer already_held (find rs r))
    (cond (leb max_rows (length rs)) (answer terms_full 0)
    (answer 0 (length rs))))))

-- where no refusal applies, the row goes to the end of its list
abbrev pub term_book : Book → Row → Book
term_book b r = pointed_book (b.rows ++ (r ∷ [])) b.steps b.points
