-- The tables that accepted rows build: what holds of each row, and that two rows with the same term are the same row.
use Prim.Native.Nat.{ℕ, zero, suc, ◌<◌, ◌≤◌}
use mathlib.Core.Path.{◌≡◌, refl, sym, ◌∙◌, ap}
use mathlib.Core.Bool.{Bool, true, false, not, cond}
use mathlib.Core.List.{List, [], ◌∷◌, ◌++◌}
use mathlib.Core.Logic.{◌⊎◌, ⊎_elim}
use native.Mathlib.Omega.{arith}
use lib.Dec.{T}
use lib.ListN.{length, get_or, take, length-append, length-take, get_or-append}
use lib.Seq.{take-append-le, take_at, get_or_at, get_or-take}
use mir.Facts.{eqb_yes, leb_yes}
use borrow.Author.Tests.{ne_eqb}
use Rattle.common.proofs.Reflect.{facts, le_or_lt}
use Rattle.terms.specs.Row.{Row, row, no_row, row_at}
use Rattle.terms.specs.Fields.{Field, unused, axis, test, name, path, qualifier, Fields, fields_of, max_kind}
use Rattle.terms.specs.Fields.{is_path, is_qualifier, held_path, held_qualifier, field_ok, bad_place}
use Rattle.terms.specs.Nesting.{max_nesting, nestings}
use Rattle.terms.specs.Terms.{Term, of_path, of_qualifier, no_term, term_by, terms, term_at, path_at, qualifier_at}
use Rattle.terms.specs.AcceptedRows.{is_well_formed, is_new, Built, empty, more}
use Rattle.terms.proofs.ByKind.{Kind, void_kind, root_kind, step_kind, union_kind, composition_kind}
use Rattle.terms.proofs.ByKind.{filter_kind, true_kind, false_kind, not_kind, and_kind, or_kind, in_kind}
use Rattle.terms.proofs.ByKind.{kind_of_lem, kind_of, term_kind_lem}
use Rattle.terms.proofs.Terms.{term_at_lem, term_take, path_term, qualifier_term}
use Rattle.terms.proofs.Find.{row_equal, new_row}
use Rattle.terms.proofs.Nesting.{nesting_at}

-- what x is in row i of rs, where its place asks for f and the row's test is t; an operand is an earlier row of its
-- sort
abbrev pub FieldLaw : List Row → ℕ → Field → ℕ → ℕ → Type 0
FieldLaw rs i unused x t = x ≡ 0
FieldLaw rs i axis x t = x ≤ 11
FieldLaw rs i test x t = x ≤ 6
FieldLaw rs i name x t = ((t ≡ 0) ⊎ (t ≡ 6) → 1 ≤ x) × (¬ (t ≡ 0) → ¬ (t ≡ 6) → x ≡ 0)
FieldLaw rs i path x t = (x < i) × ((row_at rs x).kind ≤ 5)
FieldLaw rs i qualifier x t = (x < i) × (6 ≤ (row_at rs x).kind) × ((row_at rs x).kind ≤ max_kind)

-- what holds of row i
pub record RowLaws (rs : List Row) (i : ℕ) : Type 0 where
  pub kind : (row_at rs i).kind ≤ max_kind
  pub a : FieldLaw rs i (fields_of (row_at rs i).kind).a (row_at rs i).a (row_at rs i).b
  pub b : FieldLaw rs i (fields_of (row_at rs i).kind).b (row_at rs i).b (row_at rs i).b
  pub c : FieldLaw rs i (fields_of (row_at rs i).kind).c (row_at rs i).c (row_at rs i).b
  pub nesting : get_or (nestings rs) i 0 ≤ max_nesting

-- r is well formed and new after the rows rs
abbrev pub Accepted : List Row → Row → Type 0
Accepted rs r = T (is_well_formed rs r) × T (is_new rs r)

pub built_at : {rs : List Row} → Built rs → (i : ℕ) → i < length rs → Accepted (take i rs) (row_at rs i)
built_at empty i h = absurd (omega arith)
built_at (more {rs = rs} r b ok new) i h =
    ⊎_elim (λ l. last (omega (arith, length-append rs (r ∷ [])))) (λ l. earlier l (built_at b i l))
    (le_or_lt (length rs) i)
  where
    last : length rs ≡ i → Accepted (take i (rs ++ (r ∷ []))) (row_at (rs ++ (r ∷ [])) i)
    last e = rw (take_at rs (r ∷ []) i e, get_or_at rs r [] no_row i e) (ok, new)

    earlier : i < length rs → Accepted (take i rs) (row_at rs i) →
        Accepted (take i (rs ++ (r ∷ []))) (row_at (rs ++ (r ∷ [])) i)
    earlier l u = rw (take-append-le i rs (r ∷ []) (omega arith), get_or-append rs (r ∷ []) no_row i l) u

no_bad_place : (u v w : Bool) → ◌≡◌ {A = ℕ} (cond (not u) 1 (cond (not v) 2 (cond (not w) 3 0))) 0 → T u × T v × T w
no_bad_place true true true e = (tt, tt, tt)
no_bad_place true true false e = absurd (omega arith)
no_bad_place true false w e = absurd (omega arith)
no_bad_place false v w e = absurd (omega arith)

field_law : (rs : List Row) (i : ℕ) (f : Field) (x t : ℕ) → T (field_ok (take i rs) f x t) → FieldLaw rs i f x t
unfolding field_ok held_path held_qualifier is_path is_qualifier
field_law rs i unused x t u = simp facts at u
field_law rs i axis x t u = simp facts at u
field_law rs i test x t u = simp facts at u
field_law rs i name x t u = (
  λ h. leb_yes (⊎_elim (λ (e : t ≡ 0). rw e at u) (λ (e : t ≡ 6). rw e at u) h),
  λ n m. eqb_yes (rw (ne_eqb t 0 n, ne_eqb t 6 m) at u),
)
field_law rs i path x t u =
    let v = simp facts at u in
    let l : x < i = omega (arith, length-take i rs, v.0) in
    (l, rw (get_or-take i rs x no_row l) at v.1)
field_law rs i qualifier x t u =
    let v = simp facts at u in
    let l : x < i = omega (arith, length-take i rs, v.0) in
    (l, rw (get_or-take i rs x no_row l) at v.1.0, rw (get_or-take i rs x no_row l) at v.1.1)

pub built_row : {rs : List Row} → Built rs → (i : ℕ) → i < length rs → RowLaws rs i
unfolding is_well_formed bad_place
built_row {rs} b i h =
    let r : Row = row_at rs i in
    let fs : Fields = fields_of r.kind in
    let ok : Field → ℕ → Bool = λ f x. field_ok (take i rs) f x r.b in
    let u = simp facts at (built_at b i h).0 in
    let p = no_bad_place (ok fs.a r.a) (ok fs.b r.b) (ok fs.c r.c) u.0.1 in
    record {
      kind = u.0.0;
      a = field_law rs i fs.a r.a r.b p.0;
      b = field_law rs i fs.b r.b r.b p.1;
      c = field_law rs i fs.c r.c r.b p.2;
      nesting = rw (nesting_at rs i h) u.1;
    }

-- the term of a row depends on the terms of its operands alone
module _ (ts us : List Term) (rs : List Row) (i : ℕ)
    (same : (j : ℕ) → j < i → get_or ts j no_term ≡ get_or us j no_term)
    (x y z : ℕ) where
  term_same : {k : ℕ} → Kind k → FieldLaw rs i (fields_of k).a x y → FieldLaw rs i (fields_of k).b y y →
      term_by ts (row k x y z) ≡ term_by us (row k x y z)
  unfolding fields_of term_by
  term_same void_kind a b = refl
  term_same root_kind a b = refl
  term_same step_kind a b = refl
  term_same union_kind a b = rw (same x a.0, same y b.0)
  term_same composition_kind a b = rw (same x a.0, same y b.0)
  term_same filter_kind a b = rw (same x a.0, same y b.0)
  term_same true_kind a b = refl
  term_same false_kind a b = refl
  term_same not_kind a b = rw (same x a.0)
  term_same and_kind a b = rw (same x a.0, same y b.0)
  term_same or_kind a b = rw (same x a.0, same y b.0)
  term_same in_kind a b = rw (same x a.0, same y b.0)

-- the term of a row, by the terms of the whole table
pub built_term : {rs : List Row} → Built rs → (i : ℕ) → i < length rs → term_at rs i ≡ term_by (terms rs) (row_at rs i)
unfolding term_at
built_term {rs} b i h =
    let l = built_row b i h in
    term_at_lem rs i
    ∙ term_same (terms (take i rs)) (terms rs) rs i (term_take i rs) _ _ _ (kind_of_lem (row_at rs i).kind l.kind)
    l.a l.b

pub built_kind : {rs : List Row} → Built rs → (i : ℕ) → i < length rs → kind_of (term_at rs i) ≡ (row_at rs i).kind
built_kind {rs} b i h =
    ap kind_of (term_at_lem rs i) ∙ term_kind_lem (terms (take i rs)) _ _ _
    (kind_of_lem (row_at rs i).kind (built_row b i h).kind)

-- where no two earlier rows have the same term, rows with the same term have the same fields
module _ (rs : List Row) (i j : ℕ) (distinct : (m n : ℕ) → m < i → n < j → term_at rs m ≡ term_at rs n → m ≡ n) where
  same_path : (x y : ℕ) → FieldLaw rs i path x 0 → FieldLaw rs j path y 0 → path_at rs x ≡ path_at rs y → x ≡ y
  same_path x y p q e =
      distinct x y p.0 q.0 (path_term rs x p.1 ∙ ap of_path e ∙ sym (path_term rs y q.1))

  same_qualifier : (x y : ℕ) → FieldLaw rs i qualifier x 0 → FieldLaw rs j qualifier y 0 →
      qualifier_at rs x ≡ qualifier_at rs y → x ≡ y
  same_qualifier x y p q e =
      distinct x y p.0 q.0
      (qualifier_term rs x p.1 p.2 ∙ ap of_qualifier e ∙ sym (qualifier_term rs y q.1 q.2))

  module _ (x y z x' y' z' : ℕ) where
    same_fields : {k : ℕ} → Kind k
        → FieldLaw rs i (fields_of k).a x y → FieldLaw rs i (fields_of k).b y y → FieldLaw rs i (fields_of k).c z y
        → FieldLaw rs j (fields_of k).a x' y' → FieldLaw rs j (fields_of k).b y' y' →
        FieldLaw rs j (fields_of k).c z' y'
        → term_by (terms rs) (row k x y z) ≡ term_by (terms rs) (row k x' y' z') → (x ≡ x') × (y ≡ y') × (z ≡ z')
    unfolding fields_of term_by term_at
    same_fields void_kind a b c a' b' c' e = omega arith
    same_fields root_kind a b c a' b' c' e = omega arith
    same_fields step_kind a b c a' b' c' e = (cc, cc, cc)
    same_fields union_kind a b c a' b' c' e = (same_path x x' a a' (cc), same_path y y' b b' (cc), omega arith)
    same_fields composition_kind a b c a' b' c' e = (same_path x x' a a' (cc), same_path y y' b b' (cc), omega arith)
    same_fields filter_kind a b c a' b' c' e = (same_path x x' a a' (cc), same_qualifier y y' b b' (cc), omega arith)
    same_fields true_kind a b c a' b' c' e = omega arith
    same_fields false_kind a b c a' b' c' e = omega arith
    same_fields not_kind a b c a' b' c' e = (same_qualifier x x' a a' (cc), omega arith, omega arith)
    same_fields and_kind a b c a' b' c' e = (same_qualifier x x' a a' (cc), same_qualifier y y' b b' (cc), omega arith)
    same_fields or_kind a b c a' b' c' e = (same_qualifier x x' a a' (cc), same_qualifier y y' b b' (cc), omega arith)
    same_fields in_kind a b c a' b' c' e = (same_path x x' a a' (cc), same_path y y' b b' (cc), omega arith)

module _ {rs : List Row} (built : Built rs) where
  earlier_differs : (i j : ℕ) → i < length rs → j < i → ¬ (row_at rs j ≡ row_at rs i)
  earlier_differs i j h l e =
      new_row (take i rs) (row_at rs i) (built_at built i h).1 j (omega (arith, length-take i rs))
      (get_or-take i rs j no_row l ∙ e)

  -- no two rows are the same
  pub built_rows_differ : (i j : ℕ) → i < length rs → j < length rs → row_at rs i ≡ row_at rs j → i ≡ j
  built_rows_differ i j h l e =
      ⊎_elim
      (λ m. ⊎_elim (λ n. omega arith) (λ n. absurd (earlier_differs j i l n e)) (le_or_lt j i))
      (λ m. absurd (earlier_differs i j h m (sym e)))
      (le_or_lt i j)

  same_row : (i j : ℕ) → i < length rs → j < length rs →
      ((m n : ℕ) → m < i → n < j → term_at rs m ≡ term_at rs n → m ≡ n) →
      term_at rs i ≡ term_at rs j → row_at rs i ≡ row_at rs j
  same_row i j h l distinct e =
      let p = built_row built i h in
      let q = built_row built j l in
      let r : Row = row_at rs i in
      let s : Row = row_at rs j in
      let k : r.kind ≡ s.kind = sym (built_kind built i h) ∙ ap kind_of e ∙ built_kind built j l in
      let u : term_by (terms rs) r ≡ term_by (terms rs) s = sym (built_term built i h) ∙ e ∙ built_term built j l in
      let f =
      same_fields rs i j distinct _ _ _ s.a s.b s.c (kind_of_lem r.kind p.kind)
      p.a p.b p.c (rw k q.a) (rw k q.b) (rw k q.c) (u ∙ rw k refl) in
      row_equal k f.0 f.1 f.2

  same_term_below : (n i j : ℕ) → n ≤ length rs → i < n → j < n → term_at rs i ≡ term_at rs j → i ≡ j
  same_term_below zero i j b h l e = absurd (omega arith)
  same_term_below (suc n) i j b h l e =
      let g : i < length rs = omega arith in
      let m : j < length rs = omega arith in
      built_rows_differ i j g m
      (same_row i j g m (λ p q u v. same_term_below n p q (omega arith) (omega arith) (omega arith)) e)

  -- two rows with the same term are the same row
  pub built_terms_differ : (i j : ℕ) → i < length rs → j < length rs → term_at rs i ≡ term_at rs j → i ≡ j
  built_terms_differ i j h l e = same_term_below (length rs) i j (omega arith) h l e
