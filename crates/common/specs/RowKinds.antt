-- The numbers of the twelve kinds of rows: six of paths, then six of qualifiers.
use Rattle.std.specs.Prelude.{ℕ}

abbrev pub void_row : ℕ
void_row = 0

abbrev pub root_row : ℕ
root_row = 1

abbrev pub step_row : ℕ
step_row = 2

abbrev pub union_row : ℕ
union_row = 3

abbrev pub composition_row : ℕ
composition_row = 4

abbrev pub filter_row : ℕ
filter_row = 5

abbrev pub true_row : ℕ
true_row = 6

abbrev pub false_row : ℕ
false_row = 7

abbrev pub not_row : ℕ
not_row = 8

abbrev pub and_row : ℕ
and_row = 9

abbrev pub or_row : ℕ
or_row = 10

abbrev pub inclusion_row : ℕ
inclusion_row = 11
