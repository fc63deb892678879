-- The numbers of the code's axes, kinds of nodes, node tests and kinds of rows.
use Rattle.std.specs.Prelude.{ℕ, ◌<◌, ◌≡◌, Result, MatchResult}
use Rattle.common.specs.Axes as Axes
use Rattle.common.specs.Axes.{max_axis}
use Rattle.common.specs.NodeKinds as Kinds
use Rattle.common.specs.NodeTests as Tests
use Rattle.common.specs.NodeTests.{max_test}
use Rattle.common.specs.RowKinds as Rows
use Rattle.common.specs.declared.axis.Axis.{Axis}
use Rattle.common.specs.declared.axis.Axis.TheVariants as AxisCases
use Rattle.common.specs.declared.node_kind.NodeKind.{NodeKind}
use Rattle.common.specs.declared.node_kind.NodeKind.TheVariants as KindCases
use Rattle.common.specs.declared.node_test.NodeTest.{NodeTest}
use Rattle.common.specs.declared.node_test.NodeTest.TheVariants as TestCases
use Rattle.common.specs.declared.row_kind.RowKind.{RowKind}
use Rattle.common.specs.declared.row_kind.RowKind.TheVariants as RowCases

abbrev pub axis_number : Axis → ℕ
axis_number AxisCases.Itself = Axes.self
axis_number AxisCases.Child = Axes.child
axis_number AxisCases.Parent = Axes.parent
axis_number AxisCases.Descendant = Axes.descendant
axis_number AxisCases.Ancestor = Axes.ancestor
axis_number AxisCases.DescendantOrSelf = Axes.descendant_or_self
axis_number AxisCases.AncestorOrSelf = Axes.ancestor_or_self
axis_number AxisCases.FollowingSibling = Axes.following_sibling
axis_number AxisCases.PrecedingSibling = Axes.preceding_sibling
axis_number AxisCases.Following = Axes.following
axis_number AxisCases.Preceding = Axes.preceding
axis_number AxisCases.Attribute = Axes.attribute

abbrev pub kind_number : NodeKind → ℕ
kind_number KindCases.Root = Kinds.root_kind
kind_number KindCases.Element = Kinds.element_kind
kind_number KindCases.Text = Kinds.text_kind
kind_number KindCases.Comment = Kinds.comment_kind
kind_number KindCases.Instruction = Kinds.instruction_kind
kind_number KindCases.Attribute = Kinds.attribute_kind

abbrev pub test_number : NodeTest → ℕ
test_number TestCases.Name = Tests.name_test
test_number TestCases.Star = Tests.star_test
test_number TestCases.Node = Tests.node_test
test_number TestCases.Text = Tests.text_test
test_number TestCases.Comment = Tests.comment_test
test_number TestCases.Instruction = Tests.instruction_test
test_number TestCases.Target = Tests.target_test

abbrev pub row_number : RowKind → ℕ
row_number RowCases.Void = Rows.void_row
row_number RowCases.Root = Rows.root_row
row_number RowCases.Step = Rows.step_row
row_number RowCases.Union = Rows.union_row
row_number RowCases.Composition = Rows.composition_row
row_number RowCases.Filter = Rows.filter_row
row_number RowCases.True = Rows.true_row
row_number RowCases.False = Rows.false_row
row_number RowCases.Not = Rows.not_row
row_number RowCases.And = Rows.and_row
row_number RowCases.Or = Rows.or_row
row_number RowCases.Inclusion = Rows.inclusion_row

-- a number is read as the axis, kind, test or kind of row that has it; where none has, the error is the number
abbrev pub ReadsAxis : ℕ → Result Axis ℕ → Type 0
ReadsAxis n r = MatchResult r (λ a. axis_number a ≡ n) (λ e. (e ≡ n) × (max_axis < n))

abbrev pub ReadsKind : ℕ → Result NodeKind ℕ → Type 0
ReadsKind n r = MatchResult r (λ k. kind_number k ≡ n) (λ e. (e ≡ n) × (Kinds.attribute_kind < n))

abbrev pub ReadsTest : ℕ → Result NodeTest ℕ → Type 0
ReadsTest n r = MatchResult r (λ t. test_number t ≡ n) (λ e. (e ≡ n) × (max_test < n))

abbrev pub ReadsRow : ℕ → Result RowKind ℕ → Type 0
ReadsRow n r = MatchResult r (λ k. row_number k ≡ n) (λ e. (e ≡ n) × (Rows.inclusion_row < n))
