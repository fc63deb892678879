-- On a table of accepted rows, a row is an instance of a form's pattern just where its term is the form's term.
use Prim.Native.Nat.{ℕ, ◌<◌}
use mathlib.Core.Path.{◌≡◌, refl, sym, ◌∙◌, ap}
use mathlib.Core.Bool.{Bool, ◌&&◌}
use mathlib.Core.List.{List}
use mathlib.Core.Logic.{◌↔◌}
use native.Mathlib.Omega.{arith}
use lib.Dec.{T, ltb, leb}
use lib.ListN.{length}
use mir.Facts.{yes_and, yes_ltb, leb_yes}
use Rattle.common.specs.RowKinds.{void_row, root_row, step_row, union_row, composition_row, filter_row, true_row}
use Rattle.common.specs.RowKinds.{false_row, not_row, and_row, or_row, inclusion_row}
use Rattle.xpath.specs.Term.{Path, Qualifier, AxisStep, Union, Composition, Filter}
use Rattle.common.proofs.Reflect.{facts}
use Rattle.terms.specs.Row.{Row, row, row_at}
use Rattle.terms.specs.Fields.{Field, unused, axis, test, name, path, qualifier, fields_of, max_kind, is_path}
use Rattle.terms.specs.Fields.{is_qualifier}
use Rattle.terms.specs.Fields.{held_path, held_qualifier}
use Rattle.terms.specs.Terms.{Term, of_path, of_qualifier, term_by, terms, term_at, path_at, qualifier_at}
use Rattle.terms.specs.AcceptedRows.{Built}
use Rattle.terms.proofs.ByKind.{kind_of, kind_of_lem, term_kind_lem}
use Rattle.terms.proofs.Terms.{path_term, qualifier_term}
use Rattle.terms.proofs.Built.{FieldLaw, built_row, built_term}
use Rattle.rules.specs.Form.{PathLetter, QualifierLetter, AxisLetter, TestLetter, AxisForm, axis_letter, TestForm}
use Rattle.rules.specs.Form.{test_letter, PathForm, path_letter, ◌::◌, ◌¦◌, ◌∕◌, ◌⟦◌⟧, QualifierForm, qualifier_letter}
use Rattle.rules.specs.Form.{Not◌, ◌And◌, ◌Or◌, ◌In◌}
use Rattle.rules.specs.Instance.{Letters, axis_for, test_for, path_for, qualifier_for}
use Rattle.matching.specs.private.Pattern.{Pattern, number, letter, row_pattern, path_letter_number}
use Rattle.matching.specs.private.Pattern.{qualifier_letter_number, axis_letter_number}
use Rattle.matching.specs.private.Pattern.{test_letter_number, name_letter, axis_pattern, test_pattern, name_pattern}
use Rattle.matching.specs.private.Pattern.{path_pattern, qualifier_pattern}
use Rattle.matching.specs.private.RowYields.{suits, is_row}
use Rattle.matching.proofs.Agreement.{IsInstance}
use Rattle.matching.proofs.Letters.{meant, Means, held_path_lem, held_qualifier_lem}

-- what a field holds: a row of a sort, a number, or nothing
data Part : Type 0 where
  path_part qualifier_part number_part no_part : Part

abbrev part_of : Field → Part
part_of unused = no_part
part_of axis = number_part
part_of test = number_part
part_of name = number_part
part_of path = path_part
part_of qualifier = qualifier_part

abbrev Value : Part → Type 0
Value path_part = Path
Value qualifier_part = Qualifier
Value number_part = ℕ
Value no_part = Unit {0}

module _ (rs : List Row) where
  abbrev IsPart : Part → ℕ → Type 0
  IsPart path_part v = T (held_path rs v)
  IsPart qualifier_part v = T (held_qualifier rs v)
  IsPart number_part v = Unit {0}
  IsPart no_part v = v ≡ 0

  abbrev value_at : (p : Part) → ℕ → Value p
  value_at path_part v = path_at rs v
  value_at qualifier_part v = qualifier_at rs v
  value_at number_part v = v
  value_at no_part v = tt

  -- the kinds of paths, or of qualifiers
  record Sort (p : Part) : Type 0 where
    term : Value p → Term
    injective : (t u : Value p) → term t ≡ term u → t ≡ u
    has_kind : ℕ → Bool
    row_held : (v : ℕ) → IsPart p v → v < length rs
    row_term : (v : ℕ) → IsPart p v → term_at rs v ≡ term (value_at p v)
    held_row : (v : ℕ) → v < length rs → T (has_kind (row_at rs v).kind) → IsPart p v

  path_sort : Sort path_part
  unfolding held_path is_path
  path_sort =
      record {
        term = of_path;
        injective = λ t u q. cc;
        has_kind = λ k. leb k 5;
        row_held = λ v t. (held_path_lem rs v t).0;
        row_term = λ v t. path_term rs v (held_path_lem rs v t).1;
        held_row = λ v h t. simp facts (h, leb_yes t);
      }

  qualifier_sort : Sort qualifier_part
  unfolding held_qualifier is_qualifier
  qualifier_sort =
      record {
        term = of_qualifier;
        injective = λ t u q. cc;
        has_kind = λ k. leb 6 k && leb k max_kind;
        row_held = λ v t. (held_qualifier_lem rs v t).0;
        row_term = λ v t. let h = (held_qualifier_lem rs v t).1 in qualifier_term rs v h.0 h.1;
        held_row = λ v h t. yes_and (ltb v (length rs)) _ (yes_ltb h) t;
      }

  operand : (f : Field) (i x t : ℕ) → i < length rs → FieldLaw rs i f x t → IsPart (part_of f) x
  unfolding held_path is_path held_qualifier is_qualifier
  operand unused i x t h l = l
  operand axis i x t h l = tt
  operand test i x t h l = tt
  operand name i x t h l = tt
  operand path i x t h l = let g : x < length rs = omega arith in simp facts (g, l.1)
  operand qualifier i x t h l = let g : x < length rs = omega arith in simp facts (g, (l.1, l.2))

-- what the fields a, b and c of a row of kind k hold
abbrev part_a : ℕ → Part
part_a k = part_of (fields_of k).a

abbrev part_b : ℕ → Part
part_b k = part_of (fields_of k).b

abbrev part_c : ℕ → Part
part_c k = part_of (fields_of k).c

module _ {rs : List Row} (built : Built rs) (e : Letters) where
  -- the instances of the pattern are the parts with the value t
  record FormIs (p : Part) (x : Pattern) (t : Value p) : Type 0 where
    at : (v : ℕ) → IsInstance rs (Means rs e) x v ↔ (IsPart rs p v × (t ≡ value_at rs p v))

  -- rows of kind k: their terms are made of the values of their fields, have this kind, and tell these values
  module _ (k : ℕ) {p : Part} (σ : Sort rs p) (sorted : T (σ.has_kind k)) (make : Value (part_a k) → Value (part_b k)
      → Value (part_c k) → Value p)
      (made : (a b c : ℕ) → term_by (terms rs) (row k a b c)
      ≡ σ.term (make (value_at rs (part_a k) a) (value_at rs (part_b k) b) (value_at rs (part_c k) c)))
      (kind : (t : Value (part_a k)) (u : Value (part_b k)) (w : Value (part_c k)) → kind_of (σ.term (make t u w)) ≡ k)
      (tells : (t t₁ : Value (part_a k)) (u u₁ : Value (part_b k)) (w w₁ : Value (part_c k)) → make t u w
      ≡ make t₁ u₁ w₁
      → (t ≡ t₁) × (u ≡ u₁) × (w ≡ w₁)) where
    made_at : (v : ℕ) → v < length rs → (row_at rs v).kind ≡ k →
        IsPart rs p v × (value_at rs p v ≡ make (value_at rs (part_a k) (row_at rs v).a)
        (value_at rs (part_b k) (row_at rs v).b) (value_at rs (part_c k) (row_at rs v).c))
    made_at v h q =
        let r : Row = row_at rs v in
        let i : IsPart rs p v = σ.held_row v h (rw q sorted) in
        let m = ap (λ j. term_by (terms rs) (row j r.a r.b r.c)) q ∙ made r.a r.b r.c in
        (i, σ.injective _ _ (sym (σ.row_term v i) ∙ built_term built v h ∙ m))

    -- a row that has such a term is of kind k
    kind_at : (v : ℕ) → IsPart rs p v → (t : Value (part_a k)) (u : Value (part_b k)) (w : Value (part_c k))
        → make t u w ≡ value_at rs p v → (row_at rs v).kind ≡ k
    kind_at v i t u w q =
        let h : v < length rs = σ.row_held v i in
        sym (term_kind_lem (terms rs) _ _ _ (kind_of_lem (row_at rs v).kind (built_row built v h).kind))
        ∙ ap kind_of (sym (built_term built v h) ∙ σ.row_term v i ∙ ap σ.term (sym q))
        ∙ kind t u w

    row_is : {x y z : Pattern} {t : Value (part_a k)} {u : Value (part_b k)} {w : Value (part_c k)} →
        FormIs (part_a k) x t → FormIs (part_b k) y u → FormIs (part_c k) z w →
        FormIs p (row_pattern k x y z) (make t u w)
    unfolding is_row
    row_is {t} {u} {w} f g h =
        record {
          at = λ v.
              let r : Row = row_at rs v in (
                λ i.
                    let c = simp facts at i.0 in
                    let m = made_at v c.0 c.1 in (
                      m.0,
                      rw (
                        ((f.at r.a).0 i.1.0).1,
                        ((g.at r.b).0 i.1.1.0).1,
                        ((h.at r.c).0 i.1.1.1).1,
                      ) (sym m.1),
                    ),
                λ j.
                    let l : v < length rs = σ.row_held v j.0 in
                    let c : r.kind ≡ k = kind_at v j.0 t u w j.1 in
                    let b = built_row built v l in
                    let q = tells t _ u _ w _ (j.1 ∙ (made_at v l c).1) in (
                      simp facts (l, c),
                      (
                        (f.at r.a).1 (operand rs (fields_of k).a v r.a r.b l (rw c at b.a), q.0),
                        (
                          (g.at r.b).1 (operand rs (fields_of k).b v r.b r.b l (rw c at b.b), q.1),
                          (h.at r.c).1 (operand rs (fields_of k).c v r.c r.b l (rw c at b.c), q.2),
                        ),
                      ),
                    ),
              );
        }

  unused_is : FormIs no_part (number 0) tt
  unused_is = record { at = λ v. (λ q. (q, refl), λ u. u.0) }

  number_is : (n : ℕ) → FormIs number_part (number n) n
  number_is n = record { at = λ v. (λ q. (tt, sym q), λ u. sym u.1) }

  axis_is : (u : AxisForm) → FormIs number_part (axis_pattern u) (axis_for e u)
  unfolding axis_pattern axis_for axis_letter_number suits Means meant
  axis_is (AxisForm.axis n) = number_is n
  axis_is (axis_letter AxisLetter.a) = record { at = λ v. (λ i. i, λ u. u) }
  axis_is (axis_letter AxisLetter.b) = record { at = λ v. (λ i. i, λ u. u) }

  test_is : (u : TestForm) → FormIs number_part (test_pattern u) (test_for e u).test
  unfolding test_pattern test_for test_letter_number suits Means meant
  test_is (TestForm.test n) = number_is n
  test_is (test_letter TestLetter.N) = record { at = λ v. (λ i. i, λ u. u) }
  test_is (test_letter TestLetter.M) = record { at = λ v. (λ i. i, λ u. u) }

  name_is : (u : TestForm) → FormIs number_part (name_pattern u) (test_for e u).name
  unfolding name_pattern test_for name_letter suits Means meant
  name_is (TestForm.test n) = number_is 0
  name_is (test_letter TestLetter.N) = record { at = λ v. (λ i. i, λ u. u) }
  name_is (test_letter TestLetter.M) = record { at = λ v. (λ i. i, λ u. u) }

  path_letter_is : (x : PathLetter) → FormIs path_part (letter (path_letter_number x)) (e.path x)
  unfolding path_letter_number suits Means meant
  path_letter_is PathLetter.p = record { at = λ v. (λ i. i.1, λ u. (u.0, u)) }
  path_letter_is PathLetter.q = record { at = λ v. (λ i. i.1, λ u. (u.0, u)) }
  path_letter_is PathLetter.r = record { at = λ v. (λ i. i.1, λ u. (u.0, u)) }
  path_letter_is PathLetter.s = record { at = λ v. (λ i. i.1, λ u. (u.0, u)) }

  qualifier_letter_is : (x : QualifierLetter) → FormIs qualifier_part (letter (qualifier_letter_number x))
      (e.qualifier x)
  unfolding qualifier_letter_number suits Means meant
  qualifier_letter_is QualifierLetter.f = record { at = λ v. (λ i. i.1, λ u. (u.0, u)) }
  qualifier_letter_is QualifierLetter.g = record { at = λ v. (λ i. i.1, λ u. (u.0, u)) }
  qualifier_letter_is QualifierLetter.h = record { at = λ v. (λ i. i.1, λ u. (u.0, u)) }

  mutual
    unfolding path_pattern path_for fields_of term_by kind_of path_sort qualifier_sort term_at

    path_is : (w : PathForm) → FormIs path_part (path_pattern w) (path_for e w)
    path_is (path_letter x) = path_letter_is x
    path_is PathForm.Void = row_is void_row (path_sort rs) tt (λ t u w. Path.Void) (λ a b c. refl) (λ t u w. refl)
        (λ t t₁ u u₁ w w₁ q. (refl, refl, refl)) unused_is unused_is unused_is
    path_is PathForm.Root = row_is root_row (path_sort rs) tt (λ t u w. Path.Root) (λ a b c. refl) (λ t u w. refl)
        (λ t t₁ u u₁ w w₁ q. (refl, refl, refl)) unused_is unused_is unused_is
    path_is (u :: n) = row_is step_row (path_sort rs) tt AxisStep (λ a b c. refl) (λ t u w. refl)
        (λ t t₁ u u₁ w w₁ q. (cc, cc, cc)) (axis_is u) (test_is n) (name_is n)
    path_is (u ¦ v) = row_is union_row (path_sort rs) tt (λ t u w. Union t u) (λ a b c. refl) (λ t u w. refl)
        (λ t t₁ u u₁ w w₁ q. (cc, cc, refl)) (path_is u) (path_is v) unused_is
    path_is (u ∕ v) = row_is composition_row (path_sort rs) tt (λ t u w. Composition t u) (λ a b c. refl)
        (λ t u w. refl)
        (λ t t₁ u u₁ w w₁ q. (cc, cc, refl)) (path_is u) (path_is v) unused_is
    path_is (u ⟦ v ⟧) = row_is filter_row (path_sort rs) tt (λ t u w. Filter t u) (λ a b c. refl) (λ t u w. refl)
        (λ t t₁ u u₁ w w₁ q. (cc, cc, refl)) (path_is u) (qualifier_is v) unused_is

    qualifier_is : (w : QualifierForm) → FormIs qualifier_part (qualifier_pattern w) (qualifier_for e w)
    qualifier_is (qualifier_letter x) = qualifier_letter_is x
    qualifier_is QualifierForm.True = row_is true_row (qualifier_sort rs) tt (λ t u w. Qualifier.True) (λ a b c. refl)
        (λ t u w. refl) (λ t t₁ u u₁ w w₁ q. (refl, refl, refl)) unused_is unused_is unused_is
    qualifier_is QualifierForm.False = row_is false_row (qualifier_sort rs) tt (λ t u w. Qualifier.False)
        (λ a b c. refl)
        (λ t u w. refl) (λ t t₁ u u₁ w w₁ q. (refl, refl, refl)) unused_is unused_is unused_is
    qualifier_is (Not u) = row_is not_row (qualifier_sort rs) tt (λ t u w. Qualifier.Not t) (λ a b c. refl)
        (λ t u w. refl)
        (λ t t₁ u u₁ w w₁ q. (cc, refl, refl)) (qualifier_is u) unused_is unused_is
    qualifier_is (u And v) = row_is and_row (qualifier_sort rs) tt (λ t u w. Qualifier.And t u) (λ a b c. refl)
        (λ t u w. refl) (λ t t₁ u u₁ w w₁ q. (cc, cc, refl)) (qualifier_is u) (qualifier_is v) unused_is
    qualifier_is (u Or v) = row_is or_row (qualifier_sort rs) tt (λ t u w. Qualifier.Or t u) (λ a b c. refl)
        (λ t u w. refl)
        (λ t t₁ u u₁ w w₁ q. (cc, cc, refl)) (qualifier_is u) (qualifier_is v) unused_is
    qualifier_is (u In v) = row_is inclusion_row (qualifier_sort rs) tt (λ t u w. Qualifier.In t u) (λ a b c. refl)
        (λ t u w. refl)
        (λ t t₁ u u₁ w w₁ q. (cc, cc, refl)) (path_is u) (path_is v) unused_is

  pub path_instance : (w : PathForm) (v : ℕ) → IsInstance rs (Means rs e) (path_pattern w) v ↔
      (T (held_path rs v) × (path_for e w ≡ path_at rs v))
  path_instance w v = (path_is w).at v

  pub qualifier_instance : (w : QualifierForm) (v : ℕ) → IsInstance rs (Means rs e) (qualifier_pattern w) v ↔
      (T (held_qualifier rs v) × (qualifier_for e w ≡ qualifier_at rs v))
  qualifier_instance w v = (qualifier_is w).at v
