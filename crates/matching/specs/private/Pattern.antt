-- Patterns of rows, and the forms of the rules as such patterns.
use Rattle.std.specs.Prelude.{ℕ, List, map}
use Rattle.common.specs.RowKinds.{void_row, root_row, step_row, union_row, composition_row, filter_row}
use Rattle.common.specs.RowKinds.{true_row, false_row, not_row, and_row, or_row, inclusion_row}
use Rattle.rules.specs.Form.{PathLetter, QualifierLetter, AxisLetter, TestLetter, AxisForm, axis, axis_letter, TestForm}
use Rattle.rules.specs.Form.{test, test_letter, PathForm, path_letter, Void, Root, ◌::◌, ◌¦◌, ◌∕◌, ◌⟦◌⟧, QualifierForm}
use Rattle.rules.specs.Form.{qualifier_letter, True, False, Not◌, ◌And◌, ◌Or◌, ◌In◌, ClaimForm, ◌<=◌, ◌=>◌, Condition}
use Rattle.rules.specs.Form.{Form}

-- of a number in a row: this number; the one that a letter stands for;
-- the number of a held row of a kind, with patterns of its fields
pub data Pattern : Type 0 where
  number : ℕ → Pattern
  letter : ℕ → Pattern
  row_pattern : (kind : ℕ) → (a b c : Pattern) → Pattern

-- the letters are numbered: p q r s, f g h, a b, N and its name, M and its name
abbrev pub letter_count : ℕ
letter_count = 13

abbrev pub first_qualifier_letter : ℕ
first_qualifier_letter = 4

abbrev pub first_axis_letter : ℕ
first_axis_letter = 7

unfoldable pub path_letter_number : PathLetter → ℕ
path_letter_number PathLetter.p = 0
path_letter_number PathLetter.q = 1
path_letter_number PathLetter.r = 2
path_letter_number PathLetter.s = 3

unfoldable pub qualifier_letter_number : QualifierLetter → ℕ
qualifier_letter_number QualifierLetter.f = 4
qualifier_letter_number QualifierLetter.g = 5
qualifier_letter_number QualifierLetter.h = 6

unfoldable pub axis_letter_number : AxisLetter → ℕ
axis_letter_number AxisLetter.a = 7
axis_letter_number AxisLetter.b = 8

unfoldable pub test_letter_number : TestLetter → ℕ
test_letter_number TestLetter.N = 9
test_letter_number TestLetter.M = 11

unfoldable pub name_letter : TestLetter → ℕ
name_letter TestLetter.N = 10
name_letter TestLetter.M = 12

unfoldable pub axis_pattern : AxisForm → Pattern
axis_pattern (axis n) = number n
axis_pattern (axis_letter x) = letter (axis_letter_number x)

unfoldable pub test_pattern : TestForm → Pattern
test_pattern (test n) = number n
test_pattern (test_letter x) = letter (test_letter_number x)

unfoldable pub name_pattern : TestForm → Pattern
name_pattern (test n) = number 0
name_pattern (test_letter x) = letter (name_letter x)

abbrev unused : Pattern
unused = number 0

-- the row that a form is
unfoldable mutual
  pub path_pattern : PathForm → Pattern
  path_pattern (path_letter x) = letter (path_letter_number x)
  path_pattern Void = row_pattern void_row unused unused unused
  path_pattern Root = row_pattern root_row unused unused unused
  path_pattern (u :: n) = row_pattern step_row (axis_pattern u) (test_pattern n) (name_pattern n)
  path_pattern (u ¦ v) = row_pattern union_row (path_pattern u) (path_pattern v) unused
  path_pattern (u ∕ v) = row_pattern composition_row (path_pattern u) (path_pattern v) unused
  path_pattern (u ⟦ v ⟧) = row_pattern filter_row (path_pattern u) (qualifier_pattern v) unused

  pub qualifier_pattern : QualifierForm → Pattern
  qualifier_pattern (qualifier_letter x) = letter (qualifier_letter_number x)
  qualifier_pattern True = row_pattern true_row unused unused unused
  qualifier_pattern False = row_pattern false_row unused unused unused
  qualifier_pattern (Not u) = row_pattern not_row (qualifier_pattern u) unused unused
  qualifier_pattern (u And v) = row_pattern and_row (qualifier_pattern u) (qualifier_pattern v) unused
  qualifier_pattern (u Or v) = row_pattern or_row (qualifier_pattern u) (qualifier_pattern v) unused
  qualifier_pattern (u In v) = row_pattern inclusion_row (path_pattern u) (path_pattern v) unused

-- the two rows of a step
pub record ClaimPattern : Type 0 where
  pub left : Pattern
  pub right : Pattern

unfoldable pub claim_pattern : ClaimForm → ClaimPattern
claim_pattern (u <= v) = record { left = path_pattern u; right = path_pattern v }
claim_pattern (u => v) = record { left = qualifier_pattern u; right = qualifier_pattern v }

pub record FormPattern : Type 0 where
  pub conclusion : ClaimPattern
  pub premises : List ClaimPattern
  pub conditions : List Condition

unfoldable pub form_pattern : Form → FormPattern
form_pattern w =
    record {
      conclusion = claim_pattern w.conclusion;
      premises = map claim_pattern w.premises;
      conditions = w.conditions;
    }
