-- What the axes and the tests select on a document with attributes.
use Rattle.std.specs.Prelude.{◌≡◌, refl, true, [], ◌∷◌}
use Rattle.common.specs.Bounded.{any_below, all_below, list_below}
use Rattle.xpath.specs.Document.{Document, node, root_node, kind_at, parent_at, name_at, is_child, climb_meets}
use Rattle.xpath.specs.Document.{is_ancestor, are_siblings, kind_and_name_ok, row_ok, well_formed}
use Rattle.common.specs.Axes.{self, child, parent, descendant, ancestor, descendant_or_self, ancestor_or_self}
use Rattle.common.specs.Axes.{following_sibling, preceding_sibling, following, preceding, attribute}
use Rattle.common.specs.NodeTests.{star_test, text_test, comment_test, instruction_test}
use Rattle.xpath.specs.Axis.{on_axis, passes}
use Rattle.xpath.specs.Term.{AxisStep, Composition}
use Rattle.xpath.specs.Meaning.{selects, nodes}
use Rattle.common.specs.values.Expected.{◌is◌, AllRight}
use Rattle.xpath.specs.values.StepNotation.{◌::◌, ◌::node}

-- row 5 is the owner of rows 6 and 7, row 8 its first child
abbrev pub attributed : Document
attributed =
    root_node  -- 0
    ∷ node 1 0 1  -- 1
    ∷ node 5 1 2  -- 2
    ∷ node 1 1 1  -- 3
    ∷ node 5 3 3  -- 4
    ∷ node 1 1 2  -- 5
    ∷ node 5 5 2  -- 6
    ∷ node 5 5 3  -- 7
    ∷ node 2 5 0  -- 8
    ∷ node 1 5 1  -- 9
    ∷ node 3 1 0  -- 10
    ∷ []

pub attributed_well_formed : well_formed attributed ≡ true
unfolding well_formed row_ok kind_and_name_ok kind_at parent_at name_at is_child climb_meets is_ancestor all_below
attributed_well_formed = refl

-- all axes from an attribute: its owner is its parent, and what follows it begins with its owner's children
pub axes_from_an_attribute :
    AllRight
    (nodes attributed (self ::node) 6 is (6 ∷ [])
    ∷ nodes attributed (child ::node) 6 is []
    ∷ nodes attributed (parent ::node) 6 is (5 ∷ [])
    ∷ nodes attributed (descendant ::node) 6 is []
    ∷ nodes attributed (ancestor ::node) 6 is (0 ∷ 1 ∷ 5 ∷ [])
    ∷ nodes attributed (descendant_or_self ::node) 6 is (6 ∷ [])
    ∷ nodes attributed (ancestor_or_self ::node) 6 is (0 ∷ 1 ∷ 5 ∷ 6 ∷ [])
    ∷ nodes attributed (following_sibling ::node) 6 is []
    ∷ nodes attributed (preceding_sibling ::node) 6 is []
    ∷ nodes attributed (following ::node) 6 is (8 ∷ 9 ∷ 10 ∷ [])
    ∷ nodes attributed (preceding ::node) 6 is (3 ∷ [])
    ∷ nodes attributed (attribute ::node) 6 is []
    ∷ [])
unfolding nodes list_below selects on_axis passes kind_at parent_at name_at is_child climb_meets is_ancestor
    are_siblings
axes_from_an_attribute = refl

-- all axes from an element that has attributes
pub axes_from_an_owner :
    AllRight
    (nodes attributed (self ::node) 5 is (5 ∷ [])
    ∷ nodes attributed (child ::node) 5 is (8 ∷ 9 ∷ [])
    ∷ nodes attributed (parent ::node) 5 is (1 ∷ [])
    ∷ nodes attributed (descendant ::node) 5 is (8 ∷ 9 ∷ [])
    ∷ nodes attributed (ancestor ::node) 5 is (0 ∷ 1 ∷ [])
    ∷ nodes attributed (descendant_or_self ::node) 5 is (5 ∷ 8 ∷ 9 ∷ [])
    ∷ nodes attributed (ancestor_or_self ::node) 5 is (0 ∷ 1 ∷ 5 ∷ [])
    ∷ nodes attributed (following_sibling ::node) 5 is (10 ∷ [])
    ∷ nodes attributed (preceding_sibling ::node) 5 is (3 ∷ [])
    ∷ nodes attributed (following ::node) 5 is (10 ∷ [])
    ∷ nodes attributed (preceding ::node) 5 is (3 ∷ [])
    ∷ nodes attributed (attribute ::node) 5 is (6 ∷ 7 ∷ [])
    ∷ [])
unfolding nodes list_below selects on_axis passes kind_at parent_at name_at is_child climb_meets is_ancestor
    are_siblings
axes_from_an_owner = refl

-- all axes from the first child of such an element: no attribute is its sibling or precedes it
pub axes_from_a_first_child :
    AllRight
    (nodes attributed (self ::node) 8 is (8 ∷ [])
    ∷ nodes attributed (child ::node) 8 is []
    ∷ nodes attributed (parent ::node) 8 is (5 ∷ [])
    ∷ nodes attributed (descendant ::node) 8 is []
    ∷ nodes attributed (ancestor ::node) 8 is (0 ∷ 1 ∷ 5 ∷ [])
    ∷ nodes attributed (descendant_or_self ::node) 8 is (8 ∷ [])
    ∷ nodes attributed (ancestor_or_self ::node) 8 is (0 ∷ 1 ∷ 5 ∷ 8 ∷ [])
    ∷ nodes attributed (following_sibling ::node) 8 is (9 ∷ [])
    ∷ nodes attributed (preceding_sibling ::node) 8 is []
    ∷ nodes attributed (following ::node) 8 is (9 ∷ 10 ∷ [])
    ∷ nodes attributed (preceding ::node) 8 is (3 ∷ [])
    ∷ nodes attributed (attribute ::node) 8 is []
    ∷ [])
unfolding nodes list_below selects on_axis passes kind_at parent_at name_at is_child climb_meets is_ancestor
    are_siblings
axes_from_a_first_child = refl

-- all axes from the root: no attribute is below it
pub axes_from_the_root :
    AllRight
    (nodes attributed (self ::node) 0 is (0 ∷ [])
    ∷ nodes attributed (child ::node) 0 is (1 ∷ [])
    ∷ nodes attributed (parent ::node) 0 is []
    ∷ nodes attributed (descendant ::node) 0 is (1 ∷ 3 ∷ 5 ∷ 8 ∷ 9 ∷ 10 ∷ [])
    ∷ nodes attributed (ancestor ::node) 0 is []
    ∷ nodes attributed (descendant_or_self ::node) 0 is (0 ∷ 1 ∷ 3 ∷ 5 ∷ 8 ∷ 9 ∷ 10 ∷ [])
    ∷ nodes attributed (ancestor_or_self ::node) 0 is (0 ∷ [])
    ∷ nodes attributed (following_sibling ::node) 0 is []
    ∷ nodes attributed (preceding_sibling ::node) 0 is []
    ∷ nodes attributed (following ::node) 0 is []
    ∷ nodes attributed (preceding ::node) 0 is []
    ∷ nodes attributed (attribute ::node) 0 is []
    ∷ [])
unfolding nodes list_below selects on_axis passes kind_at parent_at name_at is_child climb_meets is_ancestor
    are_siblings
axes_from_the_root = refl

-- the axes from further nodes: the last attribute of its owner, an attribute whose owner has no children, the first
-- one, elements and a comment
pub axes_from_further_nodes :
    AllRight
    (nodes attributed (following ::node) 7 is (8 ∷ 9 ∷ 10 ∷ [])
    ∷ nodes attributed (preceding ::node) 7 is (3 ∷ [])
    ∷ nodes attributed (preceding_sibling ::node) 7 is []
    ∷ nodes attributed (following ::node) 4 is (5 ∷ 8 ∷ 9 ∷ 10 ∷ [])
    ∷ nodes attributed (parent ::node) 4 is (3 ∷ [])
    ∷ nodes attributed (following ::node) 2 is (3 ∷ 5 ∷ 8 ∷ 9 ∷ 10 ∷ [])
    ∷ nodes attributed (preceding ::node) 2 is []
    ∷ nodes attributed (child ::node) 3 is []
    ∷ nodes attributed (descendant ::node) 3 is []
    ∷ nodes attributed (following_sibling ::node) 3 is (5 ∷ 10 ∷ [])
    ∷ nodes attributed (preceding_sibling ::node) 3 is []
    ∷ nodes attributed (following ::node) 3 is (5 ∷ 8 ∷ 9 ∷ 10 ∷ [])
    ∷ nodes attributed (preceding ::node) 10 is (3 ∷ 5 ∷ 8 ∷ 9 ∷ [])
    ∷ nodes attributed (attribute ::node) 1 is (2 ∷ [])
    ∷ nodes attributed (attribute ::node) 2 is []
    ∷ nodes attributed (attribute ::node) 3 is (4 ∷ [])
    ∷ nodes attributed (attribute ::node) 7 is []
    ∷ nodes attributed (attribute ::node) 9 is []
    ∷ nodes attributed (attribute ::node) 10 is []
    ∷ nodes attributed (Composition (descendant ::node) (attribute :: 3)) 0 is (4 ∷ 7 ∷ [])
    ∷ [])
unfolding nodes list_below selects on_axis passes kind_at parent_at name_at is_child climb_meets is_ancestor
    are_siblings
    any_below
axes_from_further_nodes = refl

-- each test on axis 11: a name or `*` selects attributes, node() too, any other test nothing
pub tests_on_the_attribute_axis :
    AllRight
    (nodes attributed (attribute :: 2) 5 is (6 ∷ [])
    ∷ nodes attributed (attribute :: 1) 5 is []
    ∷ nodes attributed (AxisStep attribute star_test 0) 5 is (6 ∷ 7 ∷ [])
    ∷ nodes attributed (attribute ::node) 5 is (6 ∷ 7 ∷ [])
    ∷ nodes attributed (AxisStep attribute text_test 0) 5 is []
    ∷ nodes attributed (AxisStep attribute comment_test 0) 5 is []
    ∷ nodes attributed (AxisStep attribute instruction_test 0) 5 is []
    ∷ nodes attributed (AxisStep attribute 6 0) 5 is []
    ∷ nodes attributed (AxisStep attribute 6 2) 5 is []
    ∷ nodes attributed (AxisStep attribute 7 0) 5 is []
    ∷ [])
unfolding nodes list_below selects on_axis passes kind_at parent_at name_at is_child climb_meets is_ancestor
    are_siblings
tests_on_the_attribute_axis = refl

-- on every other axis a name or `*` selects elements, and only node() selects an attribute
pub tests_on_other_axes :
    AllRight
    (nodes attributed (self :: 2) 6 is []
    ∷ nodes attributed (AxisStep self star_test 0) 6 is []
    ∷ nodes attributed (self ::node) 6 is (6 ∷ [])
    ∷ nodes attributed (AxisStep self text_test 0) 6 is []
    ∷ nodes attributed (AxisStep self comment_test 0) 6 is []
    ∷ nodes attributed (AxisStep self instruction_test 0) 6 is []
    ∷ nodes attributed (AxisStep self 6 2) 6 is []
    ∷ nodes attributed (descendant_or_self :: 2) 6 is []
    ∷ nodes attributed (AxisStep descendant_or_self star_test 0) 6 is []
    ∷ nodes attributed (ancestor_or_self :: 2) 6 is (5 ∷ [])
    ∷ nodes attributed (AxisStep ancestor_or_self star_test 0) 6 is (1 ∷ 5 ∷ [])
    ∷ nodes attributed (AxisStep parent star_test 0) 6 is (5 ∷ [])
    ∷ nodes attributed (AxisStep ancestor star_test 0) 6 is (1 ∷ 5 ∷ [])
    ∷ nodes attributed (AxisStep child star_test 0) 5 is (9 ∷ [])
    ∷ nodes attributed (descendant :: 2) 0 is (5 ∷ [])
    ∷ nodes attributed (AxisStep descendant star_test 0) 0 is (1 ∷ 3 ∷ 5 ∷ 9 ∷ [])
    ∷ nodes attributed (AxisStep following_sibling star_test 0) 3 is (5 ∷ [])
    ∷ nodes attributed (AxisStep preceding_sibling star_test 0) 10 is (3 ∷ 5 ∷ [])
    ∷ nodes attributed (AxisStep following star_test 0) 6 is (9 ∷ [])
    ∷ nodes attributed (AxisStep preceding star_test 0) 10 is (3 ∷ 5 ∷ 9 ∷ [])
    ∷ [])
unfolding nodes list_below selects on_axis passes kind_at parent_at name_at is_child climb_meets is_ancestor
    are_siblings
tests_on_other_axes = refl
