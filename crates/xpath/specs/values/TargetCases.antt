-- What the tests select on a document whose instructions have targets.
use Rattle.std.specs.Prelude.{ℕ, ◌≡◌, refl, true, [], ◌∷◌, set}
use Rattle.common.specs.Bounded.{any_below, all_below, list_below}
use Rattle.xpath.specs.Document.{Document, node, root_node, kind_at, parent_at, name_at, is_child, climb_meets}
use Rattle.xpath.specs.Document.{is_ancestor, are_siblings, kind_and_name_ok, row_ok, well_formed}
use Rattle.xpath.specs.Axis.{on_axis, passes}
use Rattle.xpath.specs.Term.{AxisStep, Composition, Filter, some_of}
use Rattle.xpath.specs.Meaning.{selects, nodes}
use Rattle.xpath.specs.Visits.{visits}
use Rattle.common.specs.values.Expected.{◌is◌, AllRight}

-- targets 1, 2 and 65535, and instructions without one; an element, and its attribute, named as target 1 is
abbrev pub targeted : Document
targeted =
    root_node  -- 0
    ∷ node 4 0 0  -- 1
    ∷ node 4 0 1  -- 2
    ∷ node 1 0 1  -- 3
    ∷ node 5 3 1  -- 4
    ∷ node 4 3 2  -- 5
    ∷ node 2 3 0  -- 6
    ∷ node 4 3 1  -- 7
    ∷ node 3 3 0  -- 8
    ∷ node 1 3 2  -- 9
    ∷ node 4 9 1  -- 10
    ∷ node 4 9 0  -- 11
    ∷ node 4 0 65535  -- 12
    ∷ []

pub targeted_well_formed : well_formed targeted ≡ true
unfolding well_formed row_ok kind_and_name_ok kind_at parent_at name_at is_child climb_meets is_ancestor all_below
targeted_well_formed = refl

-- each test from the root: test 6 selects the instructions of its target and nothing else of that name; without a
-- target it selects nothing, and an instruction without one is selected by test 5 and node() alone
pub each_test :
    AllRight
    (nodes targeted (AxisStep 3 6 1) 0 is (2 ∷ 7 ∷ 10 ∷ [])
    ∷ nodes targeted (AxisStep 3 6 2) 0 is (5 ∷ [])
    ∷ nodes targeted (AxisStep 3 6 65535) 0 is (12 ∷ [])
    ∷ nodes targeted (AxisStep 3 6 3) 0 is []
    ∷ nodes targeted (AxisStep 3 6 0) 0 is []
    ∷ nodes targeted (AxisStep 3 5 0) 0 is (1 ∷ 2 ∷ 5 ∷ 7 ∷ 10 ∷ 11 ∷ 12 ∷ [])
    ∷ nodes targeted (AxisStep 3 0 1) 0 is (3 ∷ [])
    ∷ nodes targeted (AxisStep 3 0 2) 0 is (9 ∷ [])
    ∷ nodes targeted (AxisStep 3 0 65535) 0 is []
    ∷ nodes targeted (AxisStep 3 1 0) 0 is (3 ∷ 9 ∷ [])
    ∷ nodes targeted (AxisStep 3 2 0) 0 is (1 ∷ 2 ∷ 3 ∷ 5 ∷ 6 ∷ 7 ∷ 8 ∷ 9 ∷ 10 ∷ 11 ∷ 12 ∷ [])
    ∷ nodes targeted (AxisStep 3 3 0) 0 is (6 ∷ [])
    ∷ nodes targeted (AxisStep 3 4 0) 0 is (8 ∷ [])
    ∷ nodes targeted (AxisStep 3 7 0) 0 is []
    ∷ nodes targeted (AxisStep 3 7 1) 0 is []
    ∷ [])
unfolding nodes list_below selects on_axis passes kind_at parent_at name_at is_child climb_meets is_ancestor
    are_siblings
each_test = refl

-- test 6 on each axis, axis 11 with an attribute of that name, and in longer paths
pub each_axis :
    AllRight
    (nodes targeted (AxisStep 0 6 1) 7 is (7 ∷ [])
    ∷ nodes targeted (AxisStep 0 6 1) 5 is []
    ∷ nodes targeted (AxisStep 0 6 1) 3 is []
    ∷ nodes targeted (AxisStep 1 6 1) 3 is (7 ∷ [])
    ∷ nodes targeted (AxisStep 2 6 1) 10 is []
    ∷ nodes targeted (AxisStep 3 6 1) 3 is (7 ∷ 10 ∷ [])
    ∷ nodes targeted (AxisStep 4 6 1) 10 is []
    ∷ nodes targeted (AxisStep 5 6 1) 7 is (7 ∷ [])
    ∷ nodes targeted (AxisStep 6 6 1) 10 is (10 ∷ [])
    ∷ nodes targeted (AxisStep 7 6 1) 5 is (7 ∷ [])
    ∷ nodes targeted (AxisStep 8 6 1) 8 is (7 ∷ [])
    ∷ nodes targeted (AxisStep 9 6 1) 6 is (7 ∷ 10 ∷ [])
    ∷ nodes targeted (AxisStep 10 6 1) 9 is (2 ∷ 7 ∷ [])
    ∷ nodes targeted (AxisStep 11 6 1) 3 is []
    ∷ nodes targeted (AxisStep 11 0 1) 3 is (4 ∷ [])
    ∷ nodes targeted (Composition (AxisStep 3 1 0) (AxisStep 1 6 1)) 0 is (7 ∷ 10 ∷ [])
    ∷ nodes targeted (Filter (AxisStep 3 1 0) (some_of (AxisStep 1 6 2))) 0 is (3 ∷ [])
    ∷ [])
unfolding
    nodes list_below selects on_axis passes kind_at parent_at name_at is_child climb_meets is_ancestor are_siblings
    any_below all_below
each_axis = refl

-- a step with a target is a leaf
pub one_visit : AllRight (visits targeted (AxisStep 3 6 1) 0 is 1 ∷ [])
unfolding visits
one_visit = refl

-- row 7 with another target, and with none: it alone is selected on one and not on the other
abbrev retargeted : (target : ℕ) → Document
retargeted t = set targeted 7 (node 4 3 t)

pub one_target_changed :
    AllRight
    (nodes (retargeted 2) (AxisStep 3 6 1) 0 is (2 ∷ 10 ∷ [])
    ∷ nodes (retargeted 2) (AxisStep 3 6 2) 0 is (5 ∷ 7 ∷ [])
    ∷ nodes (retargeted 2) (AxisStep 3 5 0) 0 is (1 ∷ 2 ∷ 5 ∷ 7 ∷ 10 ∷ 11 ∷ 12 ∷ [])
    ∷ nodes (retargeted 0) (AxisStep 3 6 1) 0 is (2 ∷ 10 ∷ [])
    ∷ nodes (retargeted 0) (AxisStep 3 6 2) 0 is (5 ∷ [])
    ∷ nodes (retargeted 0) (AxisStep 3 5 0) 0 is (1 ∷ 2 ∷ 5 ∷ 7 ∷ 10 ∷ 11 ∷ 12 ∷ [])
    ∷ [])
unfolding nodes list_below selects on_axis passes kind_at parent_at name_at is_child climb_meets is_ancestor
    are_siblings
one_target_changed = refl
