-- The order of terms: first by kind, then by fields from the left, operands compared as terms.
use Rattle.std.specs.Prelude.{ℕ}
use Rattle.common.specs.RowKinds.{void_row, root_row, step_row, union_row, composition_row, filter_row}
use Rattle.common.specs.RowKinds.{true_row, false_row, not_row, and_row, or_row, inclusion_row}
use Rattle.xpath.specs.Term.{Path, Qualifier, Void, Root, AxisStep, Union, Composition, Filter, True, False, Not, And}
use Rattle.xpath.specs.Term.{Or}
use Rattle.xpath.specs.Term.{In}
use Rattle.terms.specs.Terms.{Term, of_path, of_qualifier}
use Rattle.term_order.specs.Order.{Order, less, greater, ◌and_then◌, number_order}

-- a term as a row with its operands' terms in place of their numbers
mutual
  pub data TermRow : Type 0 where
    term_row : (kind : ℕ) → (a b c : TermField) → TermRow

  pub data TermField : Type 0 where
    number : ℕ → TermField
    operand : TermRow → TermField

-- a field not used is 0
abbrev pub unused : TermField
unused = number 0

unfoldable mutual
  pub path_row : Path → TermRow
  path_row Void = term_row void_row unused unused unused
  path_row Root = term_row root_row unused unused unused
  path_row (AxisStep a t c) = term_row step_row (number a) (number t) (number c)
  path_row (Union p q) = term_row union_row (operand (path_row p)) (operand (path_row q)) unused
  path_row (Composition p q) = term_row composition_row (operand (path_row p)) (operand (path_row q)) unused
  path_row (Filter p f) = term_row filter_row (operand (path_row p)) (operand (qualifier_row f)) unused

  pub qualifier_row : Qualifier → TermRow
  qualifier_row True = term_row true_row unused unused unused
  qualifier_row False = term_row false_row unused unused unused
  qualifier_row (Not f) = term_row not_row (operand (qualifier_row f)) unused unused
  qualifier_row (And f g) = term_row and_row (operand (qualifier_row f)) (operand (qualifier_row g)) unused
  qualifier_row (Or f g) = term_row or_row (operand (qualifier_row f)) (operand (qualifier_row g)) unused
  qualifier_row (In p q) = term_row inclusion_row (operand (path_row p)) (operand (path_row q)) unused

unfoldable pub row_of_term : Term → TermRow
row_of_term (of_path p) = path_row p
row_of_term (of_qualifier f) = qualifier_row f

-- rows of one kind have a number, or an operand, at the same places: a number is never compared with an operand
unfoldable mutual
  pub row_order : TermRow → TermRow → Order
  row_order (term_row k a b c) (term_row l x y z) =
      number_order k l and_then field_order a x and_then field_order b y and_then field_order c z

  pub field_order : TermField → TermField → Order
  field_order (number n) (number m) = number_order n m
  field_order (number n) (operand t) = less
  field_order (operand t) (number n) = greater
  field_order (operand t) (operand u) = row_order t u

unfoldable pub term_order : Term → Term → Order
term_order t u = row_order (row_of_term t) (row_of_term u)
