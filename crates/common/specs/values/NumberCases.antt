-- The numbers of kinds, axes, tests and refusals beside their names, in order, by computation.
use Rattle.std.specs.Prelude.{refl, [], ◌∷◌}
use Rattle.common.specs.values.Expected.{◌is◌, AllRight}
use Rattle.common.specs.NodeKinds.{root_kind, element_kind, text_kind, comment_kind, instruction_kind}
use Rattle.common.specs.NodeKinds.{attribute_kind}
use Rattle.common.specs.Axes.{self, child, parent, descendant, ancestor, descendant_or_self, ancestor_or_self}
use Rattle.common.specs.Axes.{following_sibling, preceding_sibling, following, preceding, attribute, max_axis}
use Rattle.common.specs.NodeTests.{name_test, star_test, node_test, text_test, comment_test, instruction_test}
use Rattle.common.specs.NodeTests.{target_test, max_test}
use Rattle.common.specs.RowKinds.{void_row, root_row, step_row, union_row, composition_row, filter_row, true_row}
use Rattle.common.specs.RowKinds.{false_row, not_row, and_row, or_row, inclusion_row}
use Rattle.common.specs.Refusals.{bad_kind, bad_field, too_deep, no_rule, bad_side, bad_premise, not_yielded}
use Rattle.common.specs.Refusals.{bad_document, bad_argument, wrong_form, terms_full, already_held, steps_full}
use Rattle.common.specs.Refusals.{short_marks, limit_passed, short_buffer, bad_name, outside_grammar}
use Rattle.common.specs.Refusals.{unlisted_name, bad_point, points_full, not_next, bad_record, full_or_in_use}
use Rattle.common.specs.Refusals.{bad_lists, not_covered, no_record}
use Rattle.common.specs.Limits.{max_bytes, max_number}

-- root, element, text, comment, processing instruction, attribute
pub node_kinds :
    AllRight
    (root_kind is 0 ∷ element_kind is 1 ∷ text_kind is 2 ∷ comment_kind is 3 ∷ instruction_kind is 4
    ∷ attribute_kind is 5
    ∷ [])
node_kinds = refl

pub axes :
    AllRight
    (self is 0 ∷ child is 1 ∷ parent is 2 ∷ descendant is 3 ∷ ancestor is 4 ∷ descendant_or_self is 5
    ∷ ancestor_or_self is 6 ∷ following_sibling is 7 ∷ preceding_sibling is 8 ∷ following is 9 ∷ preceding is 10
    ∷ attribute is 11
    ∷ [])
axes = refl

pub node_tests :
    AllRight
    (name_test is 0 ∷ star_test is 1 ∷ node_test is 2 ∷ text_test is 3 ∷ comment_test is 4 ∷ instruction_test is 5
    ∷ target_test is 6
    ∷ [])
node_tests = refl

pub row_kinds :
    AllRight
    (void_row is 0 ∷ root_row is 1 ∷ step_row is 2 ∷ union_row is 3 ∷ composition_row is 4 ∷ filter_row is 5
    ∷ true_row is 6 ∷ false_row is 7 ∷ not_row is 8 ∷ and_row is 9 ∷ or_row is 10 ∷ inclusion_row is 11
    ∷ [])
row_kinds = refl

-- the last axis and the last test
pub last : AllRight (max_axis is 11 ∷ max_test is 6 ∷ [])
last = refl

pub refusals :
    AllRight
    (bad_kind is 1 ∷ bad_field is 2 ∷ too_deep is 3 ∷ no_rule is 4 ∷ bad_side is 5 ∷ bad_premise is 6 ∷ not_yielded is 7
    ∷ bad_document is 8 ∷ bad_argument is 9 ∷ wrong_form is 10 ∷ terms_full is 11 ∷ already_held is 12
    ∷ steps_full is 13 ∷ short_marks is 14 ∷ limit_passed is 15 ∷ short_buffer is 16 ∷ bad_name is 17
    ∷ outside_grammar is 18 ∷ unlisted_name is 19 ∷ bad_point is 20 ∷ points_full is 21 ∷ not_next is 22
    ∷ bad_record is 23 ∷ full_or_in_use is 24 ∷ bad_lists is 25 ∷ not_covered is 26 ∷ no_record is 27
    ∷ [])
refusals = refl

pub limits : AllRight (max_bytes is 65536 ∷ max_number is 65535 ∷ [])
limits = refl
