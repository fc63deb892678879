-- The ancestor test on a document, and beside the climb to the root on lent numbers that are no document.
use Rattle.std.specs.Prelude.{ℕ, ◌<◌, ◌≡◌, refl, true, false, List, [], ◌∷◌, T, length}
use Rattle.std.proofs.Math.Option.{none, some, Option-elim}
use Rattle.common.specs.Bounded.{all_below, first_below}
use Rattle.xpath.specs.Document.{Document, node, root_node, kind_at, parent_at, name_at, is_child, climb_meets}
use Rattle.xpath.specs.Document.{is_ancestor, kind_and_name_ok, row_ok, row_ok_by, well_formed, document_of, lent_rows}
use Rattle.xpath.specs.Document.{bad_row, bad_row_by}
use Rattle.xpath.specs.Document.{document_refusal, document_refusal_by}
use Rattle.xpath.specs.Climb.{above, climb_takes, parents_taken, climb_met, ClimbEnds, Least}
use Rattle.xpath.specs.Climb.{CountEnds, CountLeast, AnswersAlike, RefusesAlike}
use Rattle.xpath.specs.represent.Check.{closed, closed_before, closed_in_turn}
use Rattle.xpath.specs.values.DocumentCases.{lent}
use Rattle.common.specs.values.Expected.{◌is◌, AllRight}

-- row 1 holds 2 to 6, row 2 holds 3, row 4 holds 5 and 6, row 5 holds 6; row 7 stands beside row 1
abbrev nested : Document
nested = root_node ∷ node 1 0 1 ∷ node 1 1 1 ∷ node 2 2 0 ∷ node 1 1 1 ∷ node 1 4 1 ∷ node 2 5 0 ∷ node 1 0 1 ∷ []

pub nested_well_formed : well_formed nested ≡ true
unfolding well_formed row_ok kind_and_name_ok kind_at parent_at name_at is_child climb_meets is_ancestor all_below
nested_well_formed = refl

-- the laws of the test on it, from every row toward every number; and on every document, whatever its length
pub least_on_nested : CountLeast → (x y : ℕ) → y < 8 → Least nested x y (parents_taken nested x y)
unfolding well_formed row_ok kind_and_name_ok kind_at parent_at name_at is_child climb_meets is_ancestor all_below
least_on_nested law x y l = law nested tt x y l

pub alike_on_nested : AnswersAlike → (x y : ℕ) → y < 8 → climb_met nested x y ≡ is_ancestor nested x y
unfolding well_formed row_ok kind_and_name_ok kind_at parent_at name_at is_child climb_meets is_ancestor all_below
alike_on_nested law x y l = law nested tt x y l

pub alike : AnswersAlike → (d : Document) → T (well_formed d) → (x y : ℕ) → y < length d →
    climb_met d x y ≡ is_ancestor d x y
alike law = law

pub rows_above :
    AllRight
    (above nested 0 6 is 6
    ∷ above nested 1 6 is 5
    ∷ above nested 2 6 is 4
    ∷ above nested 3 6 is 1
    ∷ above nested 4 6 is 0
    ∷ [])
unfolding above parent_at
rows_above = refl

pub parents_taken_lem :
    AllRight
    -- toward each ancestor of row 6, as far as it
    (parents_taken nested 5 6 is 1
    ∷ parents_taken nested 4 6 is 2
    ∷ parents_taken nested 1 6 is 3
    ∷ parents_taken nested 0 6 is 4
    -- toward rows 3 and 2, which are none, as far as row 1, the first one below them
    ∷ parents_taken nested 3 6 is 3
    ∷ parents_taken nested 2 6 is 3
    ∷ parents_taken nested 6 7 is 1
    -- from the row itself, and from a row below the one sought
    ∷ parents_taken nested 6 6 is 0
    ∷ parents_taken nested 7 6 is 0
    ∷ parents_taken nested 0 0 is 0
    ∷ [])
unfolding parents_taken climb_takes parent_at
parents_taken_lem = refl

pub ancestors_met :
    AllRight
    (climb_met nested 5 6 is true
    ∷ climb_met nested 4 6 is true
    ∷ climb_met nested 1 6 is true
    ∷ climb_met nested 0 6 is true
    ∷ climb_met nested 3 6 is false
    ∷ climb_met nested 2 6 is false
    ∷ climb_met nested 6 7 is false
    ∷ climb_met nested 6 6 is false
    ∷ climb_met nested 7 6 is false
    ∷ climb_met nested 0 0 is false
    ∷ [])
unfolding climb_met parents_taken climb_takes above parent_at
ancestors_met = refl

-- the climbs toward the parents of the rows close each subtree where it ends
pub subtrees_closed :
    AllRight (closed_in_turn nested 8 (8 ∷ 8 ∷ 8 ∷ 8 ∷ 8 ∷ 8 ∷ 8 ∷ 8 ∷ []) is (8 ∷ 7 ∷ 4 ∷ 4 ∷ 7 ∷ 7 ∷ 7 ∷ 8 ∷ []) ∷ [])
unfolding closed_in_turn closed_before closed parents_taken climb_takes above parent_at
subtrees_closed = refl

-- Rows of numbers that are no document.

-- a row that is its own parent
abbrev own : Document
own = root_node ∷ node 1 1 1 ∷ []

-- a parent that is a later row, and that row its own parent
abbrev later : Document
later = root_node ∷ node 1 2 1 ∷ node 1 2 1 ∷ []

-- a parent that is a later row, whose parent is an earlier one
abbrev around : Document
around = root_node ∷ node 1 0 1 ∷ node 1 3 1 ∷ node 1 1 1 ∷ []

-- the climb to the root goes through such parents, the test takes none of them
pub climbs_differ :
    AllRight
    (is_ancestor own 1 1 is true
    ∷ climb_met own 1 1 is false
    ∷ is_ancestor later 2 1 is true
    ∷ climb_met later 2 1 is false
    ∷ is_ancestor around 1 2 is true
    ∷ climb_met around 1 2 is false
    -- so row 2 is as it must be by the one and not by the other
    ∷ row_ok later 2 is true
    ∷ row_ok_by climb_met later 2 is false
    ∷ bad_row (lent later) 2 is false
    ∷ bad_row_by climb_met (lent later) 2 is true
    ∷ [])
unfolding is_ancestor climb_meets is_child climb_met parents_taken climb_takes above
    row_ok bad_row document_of kind_and_name_ok kind_at parent_at name_at
climbs_differ = refl

pub none_taken :
    AllRight
    (parents_taken own 0 1 is 0
    ∷ parents_taken later 0 1 is 0
    ∷ parents_taken around 1 2 is 0
    ∷ parents_taken around 1 3 is 1
    ∷ [])
unfolding parents_taken climb_takes parent_at
none_taken = refl

-- but the first bad row is the one whose parent is not smaller, by either climb
pub refused_alike :
    AllRight
    (document_refusal (lent own) is some 1
    ∷ document_refusal_by climb_met (lent own) is some 1
    ∷ document_refusal (lent later) is some 1
    ∷ document_refusal_by climb_met (lent later) is some 1
    ∷ document_refusal (lent around) is some 2
    ∷ document_refusal_by climb_met (lent around) is some 2
    ∷ document_refusal (lent nested) is none
    ∷ document_refusal_by climb_met (lent nested) is none
    -- a test that finds no ancestor, and one that finds any
    ∷ document_refusal_by (λ d x y. false) (lent nested) is some 4
    ∷ document_refusal_by (λ d x y. true) (lent later) is none
    ∷ [])
unfolding document_refusal lent_rows bad_row first_below Option-elim document_of row_ok kind_and_name_ok kind_at
    parent_at name_at
    is_child climb_meets is_ancestor climb_met parents_taken climb_takes above
refused_alike = refl

-- whatever is lent, of any length; and the climb's end on numbers that are no document
pub always_alike : RefusesAlike → (xs : List ℕ) → document_refusal_by climb_met xs ≡ document_refusal xs
always_alike law = law

pub ends_around : CountEnds → ClimbEnds around 1 2 (parents_taken around 1 2)
ends_around law = law around 1 2
