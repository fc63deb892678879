-- The test for the attribute axis, by its number.
use Rattle.std.proofs.Common.{◌≡◌, eqb, refl}
use denote.Enum.Bare.{sameb}
use Rattle.common.specs.contracts.axis.Axis.{the_type}
use Rattle.common.specs.declared.axis.Axis.{Axis}
use Rattle.common.specs.declared.axis.Axis.TheVariants.{Itself, Child, Parent, Descendant, Ancestor, DescendantOrSelf}
use Rattle.common.specs.declared.axis.Axis.TheVariants.{AncestorOrSelf, FollowingSibling, PrecedingSibling, Following}
use Rattle.common.specs.declared.axis.Axis.TheVariants.{Preceding, Attribute}
use Rattle.common.specs.Axes.{attribute}
use Rattle.common.specs.represent.Numbers.{axis_number}

-- axis by axis
pub is_attribute_axis : (a : Axis) → sameb the_type a Attribute ≡ eqb (axis_number a) attribute
is_attribute_axis Itself = refl
is_attribute_axis Child = refl
is_attribute_axis Parent = refl
is_attribute_axis Descendant = refl
is_attribute_axis Ancestor = refl
is_attribute_axis DescendantOrSelf = refl
is_attribute_axis AncestorOrSelf = refl
is_attribute_axis FollowingSibling = refl
is_attribute_axis PrecedingSibling = refl
is_attribute_axis Following = refl
is_attribute_axis Preceding = refl
is_attribute_axis Attribute = refl
