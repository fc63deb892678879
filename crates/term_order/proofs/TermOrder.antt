-- The order of terms is a total order, and equal holds just when the terms are the same.
use Prim.Native.Nat.{ℕ}
use mathlib.Core.Path.{◌≡◌, refl, sym, ap, ap₂, ◌∙◌}
use mathlib.Core.Bool.{cond}
use mathlib.Core.List.{[], ◌∷◌}
use lib.Dec.{leb}
use lib.ListN.{get_or}
use Rattle.xpath.specs.Term.{Path, Qualifier, Void, Root, AxisStep, Union, Composition, Filter, True, False, Not, And}
use Rattle.xpath.specs.Term.{Or}
use Rattle.xpath.specs.Term.{In}
use Rattle.terms.specs.Fields.{last_path}
use Rattle.terms.specs.Terms.{Term, of_path, of_qualifier}
use Rattle.term_order.specs.Order.{equal, ◌and_then◌, number_order}
use Rattle.term_order.specs.TermOrder.{TermRow, term_row, TermField, number, operand, path_row, qualifier_row}
use Rattle.term_order.specs.TermOrder.{row_of_term}
use Rattle.term_order.specs.TermOrder.{row_order, field_order, term_order}
use Rattle.term_order.specs.OrderLaws.{reverse}
use Rattle.term_order.proofs.Orders.{Follows, follows_then, less_follows, less_followed, greater_follows}
use Rattle.term_order.proofs.Orders.{greater_followed, reverse_then, both_equal, not_less, not_greater, Orders}
use Rattle.term_order.proofs.Orders.{numbers_ordered}

mutual
  unfolding row_order

  row_same : (t : TermRow) → row_order t t ≡ equal
  row_same (term_row k a b c) = rw (numbers_ordered.same k, field_same a, field_same b, field_same c)

  field_same : (t : TermField) → field_order t t ≡ equal
  field_same (number n) = numbers_ordered.same n
  field_same (operand t) = row_same t

mutual
  unfolding row_order

  row_equal : (t u : TermRow) → row_order t u ≡ equal → t ≡ u
  row_equal (term_row k a b c) (term_row l x y z) e =
      let (ek, e₁) = both_equal (number_order k l) _ e in
      let (ea, e₂) = both_equal (field_order a x) _ e₁ in
      let (eb, ec) = both_equal (field_order b y) _ e₂ in
      let same_kind = numbers_ordered.equal_same k l ek in
      let same-a = field_equal a x ea in
      let same-b = field_equal b y eb in
      let same-c = field_equal c z ec in
      λ i. term_row (same_kind i) (same-a i) (same-b i) (same-c i)

  field_equal : (t u : TermField) → field_order t u ≡ equal → t ≡ u
  field_equal (number n) (number m) e = ap number (numbers_ordered.equal_same n m e)
  field_equal (number n) (operand u) e = not_less e
  field_equal (operand t) (number m) e = not_greater e
  field_equal (operand t) (operand u) e = ap operand (row_equal t u e)

mutual
  unfolding row_order

  pub row_reversed : (t u : TermRow) → row_order u t ≡ reverse (row_order t u)
  row_reversed (term_row k a b c) (term_row l x y z) =
      rw (numbers_ordered.reversed k l, field_reversed a x, field_reversed b y, field_reversed c z)
      (sym (reverse_then (number_order k l) _ ∙ ap (λ o. reverse (number_order k l) and_then o)
      (reverse_then (field_order a x) _ ∙ ap (λ o. reverse (field_order a x) and_then o)
      (reverse_then (field_order b y) _))))

  field_reversed : (t u : TermField) → field_order u t ≡ reverse (field_order t u)
  field_reversed (number n) (number m) = numbers_ordered.reversed n m
  field_reversed (number n) (operand u) = refl
  field_reversed (operand t) (number m) = refl
  field_reversed (operand t) (operand u) = row_reversed t u

mutual
  unfolding row_order

  row_follows : (t u v : TermRow) → Follows (row_order t u) (row_order u v) (row_order t v)
  row_follows (term_row k a b c) (term_row l x y z) (term_row m d e f) =
      follows_then (number_order k l) (number_order l m) (number_order k m) _ _ _ (numbers_ordered.follows k l m)
      (follows_then (field_order a x) (field_order x d) (field_order a d) _ _ _ (field_follows a x d)
      (follows_then (field_order b y) (field_order y e) (field_order b e) _ _ _ (field_follows b y e)
      (field_follows c z f)))

  field_follows : (t u v : TermField) → Follows (field_order t u) (field_order u v) (field_order t v)
  field_follows (number n) (number m) (number k) = numbers_ordered.follows n m k
  field_follows (number n) (number m) (operand v) = less_follows (number_order n m)
  field_follows (number n) (operand u) (number k) = tt
  field_follows (number n) (operand u) (operand v) = less_followed (row_order u v)
  field_follows (operand t) (number m) (number k) = greater_followed (number_order m k)
  field_follows (operand t) (number m) (operand v) = tt
  field_follows (operand t) (operand u) (number k) = greater_follows (row_order t u)
  field_follows (operand t) (operand u) (operand v) = row_follows t u v

-- a term from its row
unfoldable field_number : TermField → ℕ
field_number (number n) = n
field_number (operand t) = 0

unfoldable mutual
  row_path : TermRow → Path
  row_path (term_row k a b c) =
      get_or
      (Void
      ∷ Root
      ∷ AxisStep (field_number a) (field_number b) (field_number c)
      ∷ Union (field_path a) (field_path b)
      ∷ Composition (field_path a) (field_path b)
      ∷ Filter (field_path a) (field_qualifier b)
      ∷ [])
      k Void

  field_path : TermField → Path
  field_path (number n) = Void
  field_path (operand t) = row_path t

  row_qualifier : TermRow → Qualifier
  row_qualifier (term_row k a b c) =
      get_or
      (False
      ∷ False
      ∷ False
      ∷ False
      ∷ False
      ∷ False
      ∷ True
      ∷ False
      ∷ Not (field_qualifier a)
      ∷ And (field_qualifier a) (field_qualifier b)
      ∷ Or (field_qualifier a) (field_qualifier b)
      ∷ In (field_path a) (field_path b)
      ∷ [])
      k False

  field_qualifier : TermField → Qualifier
  field_qualifier (number n) = False
  field_qualifier (operand t) = row_qualifier t

unfoldable term_of_row : TermRow → Term
term_of_row (term_row k a b c) =
    cond (leb k last_path) (of_path (row_path (term_row k a b c))) (of_qualifier (row_qualifier (term_row k a b c)))

mutual
  unfolding path_row row_path field_number

  path_back : (p : Path) → row_path (path_row p) ≡ p
  path_back Void = refl
  path_back Root = refl
  path_back (AxisStep a t c) = refl
  path_back (Union p q) = ap₂ Union (path_back p) (path_back q)
  path_back (Composition p q) = ap₂ Composition (path_back p) (path_back q)
  path_back (Filter p f) = ap₂ Filter (path_back p) (qualifier_back f)

  qualifier_back : (f : Qualifier) → row_qualifier (qualifier_row f) ≡ f
  qualifier_back True = refl
  qualifier_back False = refl
  qualifier_back (Not f) = ap Not (qualifier_back f)
  qualifier_back (And f g) = ap₂ And (qualifier_back f) (qualifier_back g)
  qualifier_back (Or f g) = ap₂ Or (qualifier_back f) (qualifier_back g)
  qualifier_back (In p q) = ap₂ In (path_back p) (path_back q)

path_term : (p : Path) → term_of_row (path_row p) ≡ of_path (row_path (path_row p))
unfolding path_row row_path term_of_row
path_term Void = refl
path_term Root = refl
path_term (AxisStep a t c) = refl
path_term (Union p q) = refl
path_term (Composition p q) = refl
path_term (Filter p f) = refl

qualifier_term : (f : Qualifier) → term_of_row (qualifier_row f) ≡ of_qualifier (row_qualifier (qualifier_row f))
unfolding path_row row_path term_of_row
qualifier_term True = refl
qualifier_term False = refl
qualifier_term (Not f) = refl
qualifier_term (And f g) = refl
qualifier_term (Or f g) = refl
qualifier_term (In p q) = refl

term_back : (t : Term) → term_of_row (row_of_term t) ≡ t
unfolding row_of_term
term_back (of_path p) = path_term p ∙ ap of_path (path_back p)
term_back (of_qualifier f) = qualifier_term f ∙ ap of_qualifier (qualifier_back f)

pub terms_ordered : Orders term_order
unfolding term_order
terms_ordered =
    record {
      same = λ t. row_same (row_of_term t);
      equal_same = λ t u e.
          sym (term_back t) ∙ ap term_of_row (row_equal (row_of_term t) (row_of_term u) e) ∙ term_back u;
      reversed = λ t u. row_reversed (row_of_term t) (row_of_term u);
      follows = λ t u v. row_follows (row_of_term t) (row_of_term u) (row_of_term v);
    }
