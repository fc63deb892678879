-- The visits of each kind of term, with operands that tell a wrong cost from the right one.
use Rattle.std.specs.Prelude.{refl, [], ◌∷◌}
use Rattle.common.specs.Bounded.{any_below, all_below, sum_below}
use Rattle.xpath.specs.Document.{kind_at, parent_at, name_at, is_child, climb_meets, is_ancestor, are_siblings}
use Rattle.common.specs.Axes.{child, descendant}
use Rattle.xpath.specs.Axis.{on_axis, passes}
use Rattle.xpath.specs.Term.{Void, Root, Union, Composition, Filter, True, False, Not, And, Or, In, some_of}
use Rattle.xpath.specs.Meaning.{selects}
use Rattle.xpath.specs.Visits.{visits, qualifier_visits}
use Rattle.xpath.specs.values.MeaningCases.{sample}
use Rattle.common.specs.values.Expected.{◌is◌, AllRight}
use Rattle.xpath.specs.values.StepNotation.{◌::node}

-- from row 6, child::node() selects rows 7 and 9, row 7 has one child and row 9 none
pub path_visits :
    AllRight
    (visits sample Void 6 is 1
    ∷ visits sample Root 6 is 1
    ∷ visits sample (descendant ::node) 6 is 1
    -- both operands
    ∷ visits sample (Union (Union Void Root) (child ::node)) 6 is 5
    ∷ visits sample (Union (child ::node) (Union Void (Union Void Root))) 6 is 7
    -- the second operand once for each node, at what it costs there; not at all where there is none
    ∷ visits sample (Composition (child ::node) (Union Void Root)) 6 is 8
    ∷ visits sample (Composition (child ::node) (Composition (child ::node) Root)) 6 is 7
    ∷ visits sample (Composition (Composition (child ::node) (child ::node)) Root) 6 is 6
    ∷ visits sample (Composition (child ::node) (Union Void Root)) 8 is 2
    -- the qualifier once for each node, whether it holds or not
    ∷ visits sample (Filter (child ::node) (Not True)) 6 is 6
    ∷ visits sample (Filter (child ::node) (Not False)) 6 is 6
    ∷ visits sample (Filter (child ::node) (In (Composition (child ::node) Root) Void)) 6 is 11
    ∷ visits sample (Filter (Union Void Root) (Not False)) 6 is 6
    ∷ visits sample (Filter (child ::node) (Not True)) 8 is 2
    ∷ [])
unfolding visits sum_below selects on_axis passes kind_at parent_at name_at is_child climb_meets is_ancestor
    are_siblings
    any_below all_below
path_visits = refl

pub qualifier_visits_lem :
    AllRight
    (qualifier_visits sample True 6 is 1
    ∷ qualifier_visits sample False 6 is 1
    ∷ qualifier_visits sample (Not (Not True)) 6 is 3
    -- both operands, also where the first decides
    ∷ qualifier_visits sample (And True (Not True)) 6 is 4
    ∷ qualifier_visits sample (And False (Not True)) 6 is 4
    ∷ qualifier_visits sample (And (Not True) (Not (Not True))) 6 is 6
    ∷ qualifier_visits sample (Or False (Not True)) 6 is 4
    ∷ qualifier_visits sample (Or True (Not True)) 6 is 4
    ∷ qualifier_visits sample (Or (Not False) (Not (Not True))) 6 is 6
    -- both paths, each once, also where the first selects nothing
    ∷ qualifier_visits sample (In (child ::node) (Union Void Root)) 6 is 5
    ∷ qualifier_visits sample (In (Union Void Root) (child ::node)) 6 is 5
    ∷ qualifier_visits sample (In Void (Composition (child ::node) Root)) 6 is 6
    ∷ qualifier_visits sample (In (Composition (child ::node) Root) Void) 7 is 5
    ∷ qualifier_visits sample (some_of (child ::node)) 6 is 4
    ∷ [])
unfolding visits sum_below selects on_axis passes kind_at parent_at name_at is_child climb_meets is_ancestor
    are_siblings
    any_below all_below
qualifier_visits_lem = refl
