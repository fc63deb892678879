-- The numbers of the twelve axes.
use Rattle.std.specs.Prelude.{ℕ}

abbrev pub self : ℕ
self = 0

abbrev pub child : ℕ
child = 1

abbrev pub parent : ℕ
parent = 2

abbrev pub descendant : ℕ
descendant = 3

abbrev pub ancestor : ℕ
ancestor = 4

abbrev pub descendant_or_self : ℕ
descendant_or_self = 5

abbrev pub ancestor_or_self : ℕ
ancestor_or_self = 6

abbrev pub following_sibling : ℕ
following_sibling = 7

abbrev pub preceding_sibling : ℕ
preceding_sibling = 8

abbrev pub following : ℕ
following = 9

abbrev pub preceding : ℕ
preceding = 10

abbrev pub attribute : ℕ
attribute = 11

abbrev pub max_axis : ℕ
max_axis = attribute
