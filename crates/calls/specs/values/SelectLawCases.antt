-- Select calls at the bound on the visits, and on lent numbers that differ in one name.
use Rattle.std.specs.Prelude.{ℕ, ◌<◌, ◌≡◌, refl, List, [], ◌∷◌, get_or, replicate, set}
use Rattle.std.proofs.Math.Option.{Option-elim}
use Rattle.std.proofs.Common.{arith}
use Rattle.common.specs.Bounded.{any_below, sum_below, first_below}
use Rattle.xpath.specs.Document.{kind_at, parent_at, name_at, is_child, climb_meets, is_ancestor, kind_and_name_ok}
use Rattle.xpath.specs.Document.{row_ok}
use Rattle.xpath.specs.Document.{document_of, lent_rows, bad_row, document_refusal}
use Rattle.xpath.specs.Axis.{on_axis, passes}
use Rattle.xpath.specs.Meaning.{selects}
use Rattle.xpath.specs.Visits.{visits, qualifier_visits}
use Rattle.xpath.specs.Chain.{Chain, one, more, visit_bound}
use Rattle.xpath.specs.OneName.{LentRenamed}
use Rattle.xpath.specs.values.LogCases.{log_numbers}
use Rattle.common.specs.values.Expected.{◌is◌, AllRight}
use Rattle.terms.specs.Row.{Row, row, entries_from}
use Rattle.terms.specs.Fields.{is_path, held_path}
use Rattle.terms.specs.Terms.{as_path, as_qualifier, term_by, terms, term_at, path_at}
use Rattle.selection.specs.Marks.{written}
use Rattle.calls.specs.Book.{Answer, answer}
use Rattle.calls.specs.SelectCall.{select_answer, select_buffer}
use Rattle.calls.specs.represent.Answers.{NumberOrRefusal, answer_of}
use Rattle.calls.specs.Promises.{SelectMade}
use Rattle.calls.specs.SelectLaws.{LimitSuffices, MarksSameElsewhere}

-- with s for descendant-or-self::node(), the rows are s, s/s, (s/s)/s, s/(s/s), true, (s/s)[true] and descendant::mark
abbrev held : List Row
held =
    row 2 5 2 0
    ∷ row 4 0 0 0
    ∷ row 4 1 0 0
    ∷ row 4 0 1 0
    ∷ row 6 0 0 0
    ∷ row 5 1 4 0
    ∷ row 2 3 0 2
    ∷ []

pub three_steps : Chain 3 (path_at held 2)
unfolding as_path term_at terms entries_from term_by
three_steps = more (more one)

-- on the log document, which has seven nodes, from its root with a buffer of seven bytes
abbrev on_log : (row limit : ℕ) → Answer
on_log row limit = select_answer held row log_numbers 0 limit 7

pub bound : AllRight (visit_bound 1 7 is 1 ∷ visit_bound 2 7 is 9 ∷ visit_bound 3 7 is 17 ∷ [])
bound = refl

pub at_the_bound :
    AllRight
    -- one, two and three steps with the bound for a limit, and with one less
    (on_log 0 1 is answer 0 1
    ∷ on_log 0 0 is answer 15 0
    ∷ on_log 1 9 is answer 0 9
    ∷ on_log 1 8 is answer 15 0
    ∷ on_log 2 17 is answer 0 17
    ∷ on_log 2 16 is answer 15 0
    -- three steps grouped from the right, and two with a filter, with the bound for three and for two
    ∷ on_log 3 17 is answer 15 0
    ∷ on_log 5 9 is answer 15 0
    ∷ [])
unfolding
    select_answer Option-elim document_refusal lent_rows bad_row first_below document_of row_ok kind_and_name_ok
    kind_at parent_at name_at is_child climb_meets is_ancestor on_axis passes selects any_below visits qualifier_visits
    sum_below
    held_path is_path term_at terms entries_from term_by as_path as_qualifier
at_the_bound = refl

-- with the bound for a limit, three steps from any node and with any buffer
pub three_on_log : LimitSuffices → (x : ℕ) (buffer left : List ℕ) (t : NumberOrRefusal)
    → SelectMade held 2 log_numbers x 17 buffer t left → ¬ ((answer_of t).number ≡ 15)
unfolding document_of
three_on_log law x buffer left t made = law held 2 log_numbers x 17 buffer left t made 3 three_steps (omega arith)

-- row 2 of the log document, a mark, with another name
abbrev other : List ℕ
other = set log_numbers 8 5

-- a call of descendant::mark on each, with other limits and buffers: the marks differ at node 2 alone
pub one_mark :
    AllRight
    (select_buffer held 6 log_numbers 0 1 (replicate 8 7) is (0 ∷ 0 ∷ 1 ∷ 0 ∷ 0 ∷ 0 ∷ 1 ∷ 7 ∷ [])
    ∷ select_buffer held 6 other 0 2 (replicate 7 9) is (0 ∷ 0 ∷ 0 ∷ 0 ∷ 0 ∷ 0 ∷ 1 ∷ [])
    ∷ [])
unfolding
    select_buffer written select_answer Option-elim document_refusal lent_rows bad_row first_below document_of row_ok
    kind_and_name_ok kind_at parent_at name_at is_child climb_meets is_ancestor on_axis passes selects visits
    held_path is_path term_at terms entries_from term_by as_path
one_mark = refl

-- from any node, the same marks of the nodes but node 2
pub marks_but_one : MarksSameElsewhere → LentRenamed
    → (x : ℕ) (buffer buffer' left left' : List ℕ) (t t' : NumberOrRefusal)
    → SelectMade held 6 log_numbers x 1 buffer t left → (answer_of t).number ≡ 0
    → SelectMade held 6 other x 2 buffer' t' left' → (answer_of t').number ≡ 0
    → (y : ℕ) → y < 7 → ¬ (y ≡ 2) → get_or left y 0 ≡ get_or left' y 0
unfolding document_of
marks_but_one law renamed x buffer buffer' left left' t t' =
    law held 6 x refl 2 log_numbers other (renamed log_numbers 2 5) 1 2 buffer buffer' left left' t t'
