-- The terms of rows, field by field, and the ways through the comparison of two rows.
use Prim.Native.Nat.{ℕ, ◌≤◌, ◌<◌}
use mathlib.Core.Path.{◌≡◌, refl, sym, ap, ap₂, ◌∙◌}
use mathlib.Core.Bool.{Bool, true, false, cond, ◌&&◌, false≢true}
use mathlib.Core.List.{List}
use mathlib.Core.Logic.{⊎_elim, inl, inr, ◌⊎◌}
use native.Mathlib.Omega.{arith}
use lib.ListN.{get_or, take, length-take}
use borrow.Author.Tests.{lt-ltb, le-leb, lt-leb}
use lib.Dec.{leb}
use Rattle.std.specs.Prelude.{Option, None, Some}
use Rattle.std.specs.Option.{unwrap_or}
use Rattle.common.specs.declared.row_kind.RowKind.{RowKind}
use Rattle.common.specs.declared.row_kind.RowKind.TheVariants as Kinds
use Rattle.common.specs.represent.Numbers.{row_number}
use Rattle.terms.specs.represent.RowTypes.{KindIs}
use Rattle.common.specs.RowKinds.{void_row, false_row}
use Rattle.std.proofs.lemmas.Bool.{and_cases}
use Rattle.common.proofs.Reflect.{facts, le_or_lt, true_iff}
use Rattle.xpath.specs.Term.{Void, Root, AxisStep, Union, Composition, Filter, True, False, Not, And, Or, In}
use Rattle.xpath.specs.Term as term
use Rattle.terms.specs.Row.{Row, row, row_at}
use Rattle.terms.specs.Fields.{Field, fields_of, max_kind, is_path, is_qualifier}
use Rattle.terms.specs.Fields as field
use Rattle.terms.specs.Terms.{Term, as_path, as_qualifier, no_term, path_in, qualifier_in, term_by, terms}
use Rattle.terms.specs.Terms.{term_at}
use Rattle.terms.proofs.ByKind.{Kind, void_kind, root_kind, step_kind, union_kind, composition_kind, past_kinds}
use Rattle.terms.proofs.ByKind.{filter_kind, true_kind, false_kind, not_kind, and_kind, or_kind, in_kind, kind_of_lem}
use Rattle.terms.proofs.Terms.{term_at_lem, term_take, term_past, path_term, qualifier_term}
use Rattle.term_order.specs.Order.{number_order}
use Rattle.term_order.specs.TermOrder.{TermRow, term_row, TermField, number, operand, path_row, qualifier_row}
use Rattle.term_order.specs.TermOrder.{row_of_term}
use Rattle.term_order.specs.TermOrder.{row_order, field_order, term_order}
use Rattle.term_order.specs.private.FieldsCompared.{term_kind, field_as, is_operand, number_as}
use Rattle.term_order.proofs.Orders.{numbers_ordered}
use Rattle.term_order.specs.OrderLaws.{reverse}
use Rattle.term_order.proofs.TermOrder.{row_reversed}

-- a kind that is read
kind_small : (k : RowKind) → leb (row_number k) max_kind ≡ true
kind_small Kinds.Void = refl
kind_small Kinds.Root = refl
kind_small Kinds.Step = refl
kind_small Kinds.Union = refl
kind_small Kinds.Composition = refl
kind_small Kinds.Filter = refl
kind_small Kinds.True = refl
kind_small Kinds.False = refl
kind_small Kinds.Not = refl
kind_small Kinds.And = refl
kind_small Kinds.Or = refl
kind_small Kinds.Inclusion = refl

pub kind_read : (o : Option RowKind) (n : ℕ) → KindIs o n → row_number (unwrap_or o Kinds.Void) ≡ term_kind n
unfolding term_kind
kind_read None n h = rw (lt-leb n max_kind h)
kind_read (Some k) n e = rw (← e, kind_small k)

-- the term of a row, field by field
abbrev pub row_by : List Term → Row → TermRow
row_by ts r =
    let fs = fields_of (term_kind r.kind) in
    term_row (term_kind r.kind) (field_as ts fs.a r.a) (field_as ts fs.b r.b) (field_as ts fs.c r.c)

module _ (ts : List Term) (x y z : ℕ) where
  by_kind : {k : ℕ} → Kind k → row_of_term (term_by ts (row k x y z)) ≡ row_by ts (row k x y z)
  unfolding row_of_term path_row term_by fields_of term_kind field_as
  by_kind void_kind = refl
  by_kind root_kind = refl
  by_kind step_kind = refl
  by_kind union_kind = refl
  by_kind composition_kind = refl
  by_kind filter_kind = refl
  by_kind true_kind = refl
  by_kind false_kind = refl
  by_kind not_kind = refl
  by_kind and_kind = refl
  by_kind or_kind = refl
  by_kind in_kind = refl

  void_by : (k : ℕ) → term_kind k ≡ void_row → row_of_term no_term ≡ row_by ts (row k x y z)
  unfolding row_of_term path_row fields_of field_as
  void_by k e = rw e

  past_kind : (k : ℕ) → max_kind < k → row_of_term (term_by ts (row k x y z)) ≡ row_by ts (row k x y z)
  unfolding term_kind
  past_kind k h = ap row_of_term (past_kinds ts (row k x y z) h) ∙ void_by k (rw (lt-leb k max_kind h))

row_of_term_lem : (ts : List Term) (r : Row) → row_of_term (term_by ts r) ≡ row_by ts r
row_of_term_lem ts r =
    ⊎_elim (λ h. by_kind ts r.a r.b r.c (kind_of_lem r.kind h))
    (past_kind ts r.a r.b r.c r.kind) (le_or_lt r.kind max_kind)

pub row_at_lem : (rs : List Row) (i : ℕ) → row_of_term (term_at rs i) ≡ row_by (terms (take i rs)) (row_at rs i)
row_at_lem rs i = ap row_of_term (term_at_lem rs i) ∙ row_of_term_lem (terms (take i rs)) (row_at rs i)

unfoldable row_kind : TermRow → ℕ
row_kind (term_row k a b c) = k

-- what is compared with the void path, or with false, is compared by its kind
void_left : (p : term.Path) → row_order (path_row Void) (path_row p)
    ≡ number_order (row_kind (path_row Void)) (row_kind (path_row p))
unfolding path_row row_order number_order row_kind
void_left Void = refl
void_left Root = refl
void_left (AxisStep a t c) = refl
void_left (Union p q) = refl
void_left (Composition p q) = refl
void_left (Filter p f) = refl

false_left : (f : term.Qualifier) → row_order (qualifier_row False) (qualifier_row f)
    ≡ number_order (row_kind (qualifier_row False)) (row_kind (qualifier_row f))
unfolding path_row row_order number_order row_kind
false_left True = refl
false_left False = refl
false_left (Not f) = refl
false_left (And f g) = refl
false_left (Or f g) = refl
false_left (In p q) = refl

from_right : (t u : TermRow) → row_order t u ≡ number_order (row_kind t) (row_kind u)
    → row_order u t ≡ number_order (row_kind u) (row_kind t)
from_right t u e =
    row_reversed t u ∙ ap reverse e ∙ sym (numbers_ordered.reversed (row_kind t) (row_kind u))

by_void : (p q : term.Path) → (p ≡ Void) ⊎ (q ≡ Void)
    → row_order (path_row p) (path_row q) ≡ number_order (row_kind (path_row p)) (row_kind (path_row q))
by_void p q (inl e) = rw e (void_left q)
by_void p q (inr e) = rw e (from_right (path_row Void) (path_row p) (void_left p))

by_false : (f g : term.Qualifier) → (f ≡ False) ⊎ (g ≡ False)
    → row_order (qualifier_row f) (qualifier_row g)
    ≡ number_order (row_kind (qualifier_row f)) (row_kind (qualifier_row g))
by_false f g (inl e) = rw e (false_left g)
by_false f g (inr e) = rw e (from_right (qualifier_row False) (qualifier_row f) (false_left f))

unfoldable field_kind : TermField → ℕ
field_kind (number n) = n
field_kind (operand t) = row_kind t

-- the field x of row i of rs
module _ (rs : List Row) (i x : ℕ) where
  abbrev pub ts : List Term
  ts = terms (take i rs)

  before : x < i → get_or ts x no_term ≡ term_at rs x
  unfolding term_at
  before h = term_take i rs x h

  not_before : i ≤ x → get_or ts x no_term ≡ no_term
  unfolding term_at
  not_before h = term_past (take i rs) x (omega (arith, length-take i rs))

  past_term : max_kind < (row_at rs x).kind → term_at rs x ≡ no_term
  past_term h = term_at_lem rs x ∙ past_kinds (terms (take x rs)) (row_at rs x) h

  no_path : is_operand rs i field.path x ≡ false → path_in ts x ≡ Void
  unfolding is_operand is_path as_path
  no_path e =
      ⊎_elim (λ h. rw (not_before h))
      (λ h. rw (before h) (⊎_elim
      (λ l. absurd (false≢true (sym e ∙ rw (lt-ltb x i h, le-leb (row_at rs x).kind 5 l))))
      (λ l. ⊎_elim (λ m. rw (qualifier_term rs x l m)) (λ m. rw (past_term m)) (le_or_lt (row_at rs x).kind max_kind))
      (le_or_lt (row_at rs x).kind 5)))
      (le_or_lt i x)

  no_qualifier : is_operand rs i field.qualifier x ≡ false → qualifier_in ts x ≡ False
  unfolding is_operand is_qualifier as_qualifier
  no_qualifier e =
      ⊎_elim (λ h. rw (not_before h))
      (λ h. rw (before h) (⊎_elim
      (λ l. rw (path_term rs x l))
      (λ l. ⊎_elim
      (λ m. absurd (false≢true (sym e ∙ rw (
        lt-ltb x i h,
        le-leb 6 (row_at rs x).kind l,
        le-leb
            (row_at rs x).kind 11 m,
      ))))
      (λ m. rw (past_term m)) (le_or_lt (row_at rs x).kind max_kind))
      (le_or_lt (row_at rs x).kind 5)))
      (le_or_lt i x)

  path_operand : is_operand rs i field.path x ≡ true → (x < i) × ((row_at rs x).kind ≤ 5)
  unfolding is_operand is_path
  path_operand e = let t = simp facts at ((true_iff (is_operand rs i field.path x)).1 e) in (t.0, t.1)

  qualifier_operand : is_operand rs i field.qualifier x ≡ true
      → (x < i) × (6 ≤ (row_at rs x).kind) × ((row_at rs x).kind ≤ max_kind)
  unfolding is_operand is_qualifier
  qualifier_operand e =
      let t = simp facts at ((true_iff (is_operand rs i field.qualifier x)).1 e) in (t.0, t.1.0, t.1.1)

  -- an operand is an earlier row
  pub operand_before : (f : Field) → is_operand rs i f x ≡ true → x < i
  unfolding is_operand
  operand_before field.unused e = absurd (false≢true e)
  operand_before field.axis e = absurd (false≢true e)
  operand_before field.test e = absurd (false≢true e)
  operand_before field.name e = absurd (false≢true e)
  operand_before field.path e = (path_operand e).0
  operand_before field.qualifier e = (qualifier_operand e).0

  -- an operand is the term of its row
  operand_term : (f : Field) → is_operand rs i f x ≡ true → field_as ts f x ≡ operand (row_of_term (term_at rs x))
  unfolding field_as row_of_term is_operand
  operand_term field.unused e = absurd (false≢true e)
  operand_term field.axis e = absurd (false≢true e)
  operand_term field.test e = absurd (false≢true e)
  operand_term field.name e = absurd (false≢true e)
  operand_term field.path e =
      let (h, l) = path_operand e in
      ap (λ t. operand (path_row (as_path t))) (before h) ∙ ap (λ t. operand (row_of_term t)) (sym (path_term rs x l))
  operand_term field.qualifier e =
      let (h, l, m) = qualifier_operand e in
      ap (λ t. operand (qualifier_row (as_qualifier t))) (before h)
      ∙ ap (λ t. operand (row_of_term t)) (sym (qualifier_term rs x l m))

  low_kind : (f : Field) → is_operand rs i f x ≡ true → (row_at rs x).kind ≤ max_kind
  unfolding is_operand
  low_kind field.unused e = absurd (false≢true e)
  low_kind field.axis e = absurd (false≢true e)
  low_kind field.test e = absurd (false≢true e)
  low_kind field.name e = absurd (false≢true e)
  low_kind field.path e = let l = (path_operand e).1 in omega arith
  low_kind field.qualifier e = (qualifier_operand e).2

  operand_kind : (f : Field) → is_operand rs i f x ≡ true → field_kind (field_as ts f x) ≡ (row_at rs x).kind
  unfolding field_kind row_kind term_kind
  operand_kind f e =
      ap field_kind (operand_term f e) ∙ ap row_kind (row_at_lem rs x)
      ∙ rw (le-leb (row_at rs x).kind max_kind (low_kind f e))

  path_kind : field_kind (field_as ts field.path x) ≡ number_as rs i field.path x
  unfolding number_as field_as field_kind row_kind path_row
  path_kind = by (is_operand rs i field.path x) refl
    where
      by : (b : Bool) → is_operand rs i field.path x ≡ b
          → field_kind (field_as ts field.path x) ≡ cond b (row_at rs x).kind void_row
      by true e = operand_kind field.path e
      by false e = ap (λ p. field_kind (operand (path_row p))) (no_path e)

  qualifier_kind : field_kind (field_as ts field.qualifier x) ≡ number_as rs i field.qualifier x
  unfolding number_as field_as field_kind row_kind path_row
  qualifier_kind = by (is_operand rs i field.qualifier x) refl
    where
      by : (b : Bool) → is_operand rs i field.qualifier x ≡ b
          → field_kind (field_as ts field.qualifier x) ≡ cond b (row_at rs x).kind false_row
      by true e = operand_kind field.qualifier e
      by false e = ap (λ f. field_kind (operand (qualifier_row f))) (no_qualifier e)

-- the field x of row i of rs and the field y of row j of ss, at one place
module _ (rs : List Row) (i x : ℕ) (ss : List Row) (j y : ℕ) where
  -- two operands are compared as terms
  pub both_operands : (f : Field) → is_operand rs i f x ≡ true → is_operand ss j f y ≡ true
      → term_order (term_at rs x) (term_at ss y) ≡ field_order (field_as (ts rs i x) f x) (field_as (ts ss j y) f y)
  unfolding term_order row_order
  both_operands f e g = ap₂ field_order (sym (operand_term rs i x f e)) (sym (operand_term ss j y f g))

  -- else two numbers
  pub not_both : (f : Field) → (is_operand rs i f x && is_operand ss j f y) ≡ false
      → number_order (number_as rs i f x) (number_as ss j f y)
      ≡ field_order (field_as (ts rs i x) f x) (field_as (ts ss j y) f y)
  unfolding field_as field_kind row_order number_as
  not_both field.unused e = refl
  not_both field.axis e = refl
  not_both field.test e = refl
  not_both field.name e = refl
  not_both field.path e =
      sym (by_void _ _ (⊎_elim (λ f. inl (no_path rs i x f)) (λ f. inr (no_path ss j y f))
      (and_cases (is_operand rs i field.path x) (is_operand ss j field.path y) e))
      ∙ ap₂ number_order (path_kind rs i x) (path_kind ss j y))
  not_both field.qualifier e =
      sym (by_false _ _ (⊎_elim (λ f. inl (no_qualifier rs i x f)) (λ f. inr (no_qualifier ss j y f))
      (and_cases (is_operand rs i field.qualifier x) (is_operand ss j field.qualifier y) e))
      ∙ ap₂ number_order (qualifier_kind rs i x) (qualifier_kind ss j y))
