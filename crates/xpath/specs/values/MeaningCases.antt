-- What paths select and where qualifiers hold on one document that tells the axes and the tests apart.
use Rattle.std.specs.Prelude.{◌≡◌, refl, true, false, [], ◌∷◌}
use Rattle.common.specs.Bounded.{any_below, all_below, list_below}
use Rattle.xpath.specs.Document.{Document, node, root_node, kind_at, parent_at, name_at, is_child, climb_meets}
use Rattle.xpath.specs.Document.{is_ancestor, are_siblings, kind_and_name_ok, row_ok, well_formed}
use Rattle.common.specs.Axes.{self, child, parent, descendant, ancestor, descendant_or_self, ancestor_or_self}
use Rattle.common.specs.Axes.{following_sibling, preceding_sibling, following, preceding, attribute}
use Rattle.common.specs.NodeTests.{star_test, node_test, text_test, comment_test, instruction_test}
use Rattle.xpath.specs.Axis.{on_axis, passes}
use Rattle.xpath.specs.Term.{Void, Root, AxisStep, Union, Composition, Filter, True, False, Not, And, Or, In}
use Rattle.xpath.specs.Term.{some_of}
use Rattle.xpath.specs.Meaning.{selects, holds, nodes}
use Rattle.common.specs.values.Expected.{◌is◌, AllRight}
use Rattle.xpath.specs.values.StepNotation.{◌::◌, ◌::node}

-- comment, element 1, processing instruction and element 65535 under the root; rows 3 to 11 are below row 2, rows 7
-- to 9 below row 6
abbrev pub sample : Document
sample =
    root_node  -- 0
    ∷ node 3 0 0  -- 1
    ∷ node 1 0 1  -- 2
    ∷ node 4 2 0  -- 3
    ∷ node 1 2 2  -- 4
    ∷ node 2 4 0  -- 5
    ∷ node 1 2 1  -- 6
    ∷ node 1 6 2  -- 7
    ∷ node 2 7 0  -- 8
    ∷ node 3 6 0  -- 9
    ∷ node 1 2 1  -- 10
    ∷ node 2 10 0  -- 11
    ∷ node 4 0 0  -- 12
    ∷ node 1 0 65535  -- 13
    ∷ []

pub sample_well_formed : well_formed sample ≡ true
unfolding well_formed row_ok kind_and_name_ok kind_at parent_at name_at is_child climb_meets is_ancestor all_below
sample_well_formed = refl

-- each axis from an inner node; it has no attribute, and there is no axis 12
pub axes_from_inner_node :
    AllRight
    (nodes sample (self ::node) 6 is (6 ∷ [])
    ∷ nodes sample (child ::node) 6 is (7 ∷ 9 ∷ [])
    ∷ nodes sample (parent ::node) 6 is (2 ∷ [])
    ∷ nodes sample (descendant ::node) 6 is (7 ∷ 8 ∷ 9 ∷ [])
    ∷ nodes sample (ancestor ::node) 6 is (0 ∷ 2 ∷ [])
    ∷ nodes sample (descendant_or_self ::node) 6 is (6 ∷ 7 ∷ 8 ∷ 9 ∷ [])
    ∷ nodes sample (ancestor_or_self ::node) 6 is (0 ∷ 2 ∷ 6 ∷ [])
    ∷ nodes sample (following_sibling ::node) 6 is (10 ∷ [])
    ∷ nodes sample (preceding_sibling ::node) 6 is (3 ∷ 4 ∷ [])
    ∷ nodes sample (following ::node) 6 is (10 ∷ 11 ∷ 12 ∷ 13 ∷ [])
    ∷ nodes sample (preceding ::node) 6 is (1 ∷ 3 ∷ 4 ∷ 5 ∷ [])
    ∷ nodes sample (attribute ::node) 6 is []
    ∷ nodes sample (12 ::node) 6 is []
    ∷ [])
unfolding nodes list_below selects on_axis passes kind_at parent_at name_at is_child climb_meets is_ancestor
    are_siblings
axes_from_inner_node = refl

-- the root has no parent, no sibling, and nothing before or after it
pub axes_from_root :
    AllRight
    (nodes sample (self ::node) 0 is (0 ∷ [])
    ∷ nodes sample (child ::node) 0 is (1 ∷ 2 ∷ 12 ∷ 13 ∷ [])
    ∷ nodes sample (parent ::node) 0 is []
    ∷ nodes sample (descendant ::node) 0 is (1 ∷ 2 ∷ 3 ∷ 4 ∷ 5 ∷ 6 ∷ 7 ∷ 8 ∷ 9 ∷ 10 ∷ 11 ∷ 12 ∷ 13 ∷ [])
    ∷ nodes sample (ancestor ::node) 0 is []
    ∷ nodes sample (descendant_or_self ::node) 0 is (0 ∷ 1 ∷ 2 ∷ 3 ∷ 4 ∷ 5 ∷ 6 ∷ 7 ∷ 8 ∷ 9 ∷ 10 ∷ 11 ∷ 12 ∷ 13 ∷ [])
    ∷ nodes sample (ancestor_or_self ::node) 0 is (0 ∷ [])
    ∷ nodes sample (following_sibling ::node) 0 is []
    ∷ nodes sample (preceding_sibling ::node) 0 is []
    ∷ nodes sample (following ::node) 0 is []
    ∷ nodes sample (preceding ::node) 0 is []
    ∷ nodes sample (attribute ::node) 0 is []
    ∷ [])
unfolding nodes list_below selects on_axis passes kind_at parent_at name_at is_child climb_meets is_ancestor
    are_siblings
axes_from_root = refl

-- children of the root have the root for a parent and no sibling in it; the axes of the first and of the last row
pub axes_at_the_edges :
    AllRight
    (nodes sample (parent ::node) 2 is (0 ∷ [])
    ∷ nodes sample (ancestor ::node) 2 is (0 ∷ [])
    ∷ nodes sample (preceding_sibling ::node) 2 is (1 ∷ [])
    ∷ nodes sample (following_sibling ::node) 2 is (12 ∷ 13 ∷ [])
    ∷ nodes sample (preceding ::node) 2 is (1 ∷ [])
    ∷ nodes sample (preceding_sibling ::node) 1 is []
    ∷ nodes sample (preceding ::node) 1 is []
    ∷ nodes sample (following ::node) 1 is (2 ∷ 3 ∷ 4 ∷ 5 ∷ 6 ∷ 7 ∷ 8 ∷ 9 ∷ 10 ∷ 11 ∷ 12 ∷ 13 ∷ [])
    ∷ nodes sample (following ::node) 13 is []
    ∷ nodes sample (preceding ::node) 13 is (1 ∷ 2 ∷ 3 ∷ 4 ∷ 5 ∷ 6 ∷ 7 ∷ 8 ∷ 9 ∷ 10 ∷ 11 ∷ 12 ∷ [])
    ∷ [])
unfolding nodes list_below selects on_axis passes kind_at parent_at name_at is_child climb_meets is_ancestor
    are_siblings
axes_at_the_edges = refl

-- each test; a name or `*` selects elements only, also the name 0 that other nodes have; no instruction here has a
-- target; there is no test 7
pub nodes_of_each_test :
    AllRight
    (nodes sample (descendant_or_self :: 1) 0 is (2 ∷ 6 ∷ 10 ∷ [])
    ∷ nodes sample (descendant_or_self :: 2) 0 is (4 ∷ 7 ∷ [])
    ∷ nodes sample (descendant_or_self :: 65535) 0 is (13 ∷ [])
    ∷ nodes sample (descendant_or_self :: 0) 0 is []
    ∷ nodes sample (AxisStep descendant_or_self star_test 0) 0 is (2 ∷ 4 ∷ 6 ∷ 7 ∷ 10 ∷ 13 ∷ [])
    ∷ nodes sample (AxisStep descendant_or_self node_test 0) 0 is
    (0 ∷ 1 ∷ 2 ∷ 3 ∷ 4 ∷ 5 ∷ 6 ∷ 7 ∷ 8 ∷ 9 ∷ 10 ∷ 11 ∷ 12 ∷ 13 ∷ [])
    ∷ nodes sample (AxisStep descendant_or_self text_test 0) 0 is (5 ∷ 8 ∷ 11 ∷ [])
    ∷ nodes sample (AxisStep descendant_or_self comment_test 0) 0 is (1 ∷ 9 ∷ [])
    ∷ nodes sample (AxisStep descendant_or_self instruction_test 0) 0 is (3 ∷ 12 ∷ [])
    ∷ nodes sample (AxisStep descendant_or_self 6 0) 0 is []
    ∷ nodes sample (AxisStep descendant_or_self 6 1) 0 is []
    ∷ nodes sample (AxisStep descendant_or_self 7 0) 0 is []
    ∷ [])
unfolding nodes list_below selects on_axis passes kind_at parent_at name_at is_child climb_meets is_ancestor
    are_siblings
nodes_of_each_test = refl

-- each kind of path
pub nodes_of_each_path :
    AllRight
    (nodes sample Void 6 is []
    ∷ nodes sample Root 6 is (0 ∷ [])
    ∷ nodes sample Root 0 is (0 ∷ [])
    ∷ nodes sample (following_sibling :: 1) 6 is (10 ∷ [])
    ∷ nodes sample (Union (parent ::node) (child ::node)) 6 is (2 ∷ 7 ∷ 9 ∷ [])
    ∷ nodes sample (Union (child ::node) (descendant ::node)) 6 is (7 ∷ 8 ∷ 9 ∷ [])
    ∷ nodes sample (Composition (child ::node) (child ::node)) 6 is (8 ∷ [])
    ∷ nodes sample (Composition (parent ::node) (child :: 1)) 6 is (6 ∷ 10 ∷ [])
    ∷ nodes sample (Composition (child :: 1) (parent ::node)) 6 is []
    ∷ nodes sample (Composition (child ::node) Root) 6 is (0 ∷ [])
    ∷ nodes sample (Composition (child ::node) Root) 8 is []
    ∷ nodes sample (Composition Root (child ::node)) 6 is (1 ∷ 2 ∷ 12 ∷ 13 ∷ [])
    ∷ nodes sample (Filter (child ::node) True) 6 is (7 ∷ 9 ∷ [])
    ∷ nodes sample (Filter (child ::node) False) 6 is []
    ∷ nodes sample (Filter (child ::node) (some_of (child ::node))) 6 is (7 ∷ [])
    ∷ nodes sample (Filter (descendant ::node) (some_of (following_sibling ::node))) 6 is (7 ∷ [])
    ∷ [])
unfolding nodes list_below selects on_axis passes kind_at parent_at name_at is_child climb_meets is_ancestor
    are_siblings
    any_below all_below
nodes_of_each_path = refl

-- each kind of qualifier
pub truth_of_each_qualifier :
    AllRight
    (holds sample True 6 is true
    ∷ holds sample False 6 is false
    ∷ holds sample (Not True) 6 is false
    ∷ holds sample (Not False) 6 is true
    ∷ holds sample (And True True) 6 is true
    ∷ holds sample (And True False) 6 is false
    ∷ holds sample (And False True) 6 is false
    ∷ holds sample (And False False) 6 is false
    ∷ holds sample (Or True True) 6 is true
    ∷ holds sample (Or True False) 6 is true
    ∷ holds sample (Or False True) 6 is true
    ∷ holds sample (Or False False) 6 is false
    ∷ holds sample (In (child ::node) (descendant ::node)) 6 is true
    ∷ holds sample (In (descendant ::node) (child ::node)) 6 is false
    ∷ holds sample (In (child ::node) (child ::node)) 6 is true
    ∷ holds sample (In (child ::node) (parent ::node)) 6 is false
    ∷ holds sample (In Void (child ::node)) 6 is true
    ∷ holds sample (In (child ::node) Void) 6 is false
    ∷ holds sample (In (child ::node) Void) 8 is true
    ∷ holds sample (some_of (child ::node)) 6 is true
    ∷ holds sample (some_of (child ::node)) 8 is false
    ∷ holds sample (some_of Root) 0 is true
    ∷ [])
unfolding selects on_axis passes kind_at parent_at name_at is_child climb_meets is_ancestor are_siblings any_below
    all_below
truth_of_each_qualifier = refl

-- no number beyond the document is selected, though past its end the rows read as `0 0 0`
pub beyond_the_document :
    AllRight
    (selects sample (child ::node) 0 13 is true
    ∷ selects sample (child ::node) 0 14 is false
    ∷ selects sample (following ::node) 6 14 is false
    ∷ selects [] Root 0 0 is false
    ∷ [])
unfolding selects on_axis passes kind_at parent_at name_at is_child climb_meets is_ancestor are_siblings
beyond_the_document = refl
