-- The log cases (Specification, Log cases), together as one list.
use Rattle.std.specs.Prelude.{ℕ, ◌≡◌, refl, List, [], ◌∷◌}
use Rattle.std.proofs.Math.Option.{none, Option-elim}
use Rattle.common.specs.Bounded.{any_below, all_below, sum_below, list_below, first_below}
use Rattle.xpath.specs.Document.{Document, kind_at, parent_at, name_at, is_child, climb_meets, is_ancestor}
use Rattle.xpath.specs.Document.{are_siblings, kind_and_name_ok, row_ok, document_of, lent_rows, bad_row}
use Rattle.xpath.specs.Document.{document_refusal}
use Rattle.common.specs.Axes.{child, parent, descendant, following_sibling, following, preceding}
use Rattle.xpath.specs.Axis.{on_axis, passes}
use Rattle.xpath.specs.Term.{Root, Composition, Filter, some_of}
use Rattle.xpath.specs.Meaning.{selects, nodes}
use Rattle.xpath.specs.Visits.{visits}
use Rattle.common.specs.values.Expected.{◌is◌, AllRight}
use Rattle.xpath.specs.values.StepNotation.{◌::◌, ◌::node}

abbrev log : ℕ
log = 1

abbrev mark : ℕ
mark = 2

abbrev zero : ℕ
zero = 3

abbrev run : ℕ
run = 4

-- the lent numbers: root; log under 0; mark under 1; text under 2; zero under 1; run under 1; mark under 5
abbrev pub log_numbers : List ℕ
log_numbers =
    0 ∷ 0 ∷ 0
    ∷ 1 ∷ 0 ∷ log
    ∷ 1 ∷ 1 ∷ mark
    ∷ 2 ∷ 2 ∷ 0
    ∷ 1 ∷ 1 ∷ zero
    ∷ 1 ∷ 1 ∷ run
    ∷ 1 ∷ 5 ∷ mark
    ∷ []

abbrev pub log_document : Document
log_document = document_of log_numbers

-- calls take it: refusal 8 does not apply
pub log_accepted : document_refusal log_numbers ≡ none
unfolding document_refusal lent_rows bad_row first_below Option-elim document_of row_ok kind_and_name_ok kind_at
    parent_at name_at
    is_child climb_meets is_ancestor
log_accepted = refl

-- the cases in that section's order; the visits stand as a list of one number
pub log_cases :
    AllRight
    (nodes log_document (descendant :: mark) 0 is (2 ∷ 6 ∷ [])
    ∷ nodes log_document (child :: mark) 0 is []
    ∷ nodes log_document (following :: mark) 3 is (6 ∷ [])
    ∷ nodes log_document (preceding ::node) 6 is (2 ∷ 3 ∷ 4 ∷ [])
    ∷ nodes log_document Root 0 is (0 ∷ [])
    ∷ nodes log_document (following_sibling ::node) 2 is (4 ∷ 5 ∷ [])
    ∷ nodes log_document (Composition (child :: log) (child :: mark)) 0 is (2 ∷ [])
    ∷ (visits log_document (Composition (child :: log) (child :: mark)) 0 ∷ []) is (3 ∷ [])
    ∷ nodes log_document (Composition (descendant :: run) (child :: mark)) 5 is []
    ∷ nodes log_document (Filter (descendant :: mark) (some_of (parent :: run))) 5 is (6 ∷ [])
    ∷ [])
unfolding nodes list_below selects on_axis passes document_of kind_at parent_at name_at is_child climb_meets is_ancestor
    are_siblings any_below all_below visits sum_below
log_cases = refl
