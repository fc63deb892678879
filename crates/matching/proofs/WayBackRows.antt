-- On a table of accepted rows, the way back on row numbers is the way back of terms.
use Prim.Native.Nat.{ℕ, zero, suc, ◌<◌, ◌≤◌}
use mathlib.Core.Path.{◌≡◌, refl, sym, ◌∙◌, ap, ap₂, subst}
use mathlib.Core.Bool.{Bool, false, ◌&&◌}
use mathlib.Core.List.{List}
use mathlib.Core.Logic.{◌↔◌}
use mathlib.Core.Option.{Option, none, some, none-ne-some, map-eq-some_iff}
use native.Mathlib.Omega.{arith}
use lib.Dec.{T, eqb, ltb}
use lib.ListN.{length, get_or}
use mir.Facts.{and_yes, yes_and, eqb_yes, yes_eqb, yes_ltb}
use Rattle.common.specs.RowKinds.{void_row, root_row, step_row, union_row, composition_row, filter_row, not_row}
use Rattle.common.specs.RowKinds.{inclusion_row}
use Rattle.common.proofs.Entries.{◌&◌}
use Rattle.common.proofs.Reflect.{facts}
use Rattle.xpath.specs.Term.{Path, Qualifier, Void, Root, AxisStep, Union, Composition, Filter, Not, In, some_of}
use Rattle.terms.specs.Row.{Row, row, row_at, same_row}
use Rattle.terms.specs.Fields.{fields_of, max_kind}
use Rattle.terms.specs.Terms.{of_path, of_qualifier, as_path, as_qualifier, term_by, terms, term_at, path_at}
use Rattle.terms.specs.Terms.{qualifier_at}
use Rattle.terms.specs.AcceptedRows.{Built}
use Rattle.terms.proofs.ByKind.{Kind, void_kind, root_kind, step_kind, union_kind, composition_kind, filter_kind}
use Rattle.terms.proofs.ByKind.{true_kind, false_kind, not_kind, and_kind, or_kind, in_kind, kind_of_lem, kind_of}
use Rattle.terms.proofs.Terms.{path_term, qualifier_term, step_path}
use Rattle.terms.proofs.Built.{FieldLaw, built_row, built_term, built_kind}
use Rattle.rules.specs.Order.{is_pair}
use Rattle.rules.specs.WayBack.{opposites, lookup, opposite, step_back, filter_back, joined, way_back}
use Rattle.matching.specs.private.RowWayBack.{is_step, is_step_back, is_filter_back, back_by_kind, is_back_by, is_back}
use Rattle.matching.specs.private.RowWayBack.{is_with_back}
use Rattle.rules.proofs.Orders.{pair_at}
use Rattle.matching.proofs.Letters.{same_path, same_qualifier}
use Rattle.rules.proofs.WayBackSound.{lookup_pair, joined_some}
use Rattle.matching.proofs.RowWayBack.{operand_back, back_level, kind_is}

opposite_iff : (a b : ℕ) → T (is_pair opposites a b) ↔ (opposite a ≡ some b)
unfolding opposite lookup opposites
opposite_iff a b = (
  pair_at (λ a b. opposite a ≡ some b) opposites (refl & refl & refl & refl & refl & refl & tt) a b,
  lookup_pair opposites a b,
)

module _ {rs : List Row} (built : Built rs) where
  -- row i is a held path, or a held qualifier
  abbrev PathRow : ℕ → Type 0
  PathRow i = (i < length rs) × ((row_at rs i).kind ≤ 5)

  abbrev QualifierRow : ℕ → Type 0
  QualifierRow i = (i < length rs) × ((6 ≤ (row_at rs i).kind) × ((row_at rs i).kind ≤ max_kind))

  -- The term of a row whose kind is known, and the kind of a row whose term is.
  module _ (i : ℕ) (h : i < length rs) where
    pub term_of_kind : (k : ℕ) → (row_at rs i).kind ≡ k →
        term_at rs i ≡ term_by (terms rs) (row k (row_at rs i).a (row_at rs i).b (row_at rs i).c)
    term_of_kind k e =
        built_term built i h ∙ ap (λ k. term_by (terms rs) (row k (row_at rs i).a (row_at rs i).b (row_at rs i).c)) e

    pub void_at : (row_at rs i).kind ≡ void_row → path_at rs i ≡ Void
    unfolding term_by as_path term_at
    void_at e = ap as_path (term_of_kind void_row e)

    pub root_at : (row_at rs i).kind ≡ root_row → path_at rs i ≡ Root
    unfolding term_by as_path term_at
    root_at e = ap as_path (term_of_kind root_row e)

    pub union_at : (row_at rs i).kind ≡ union_row → path_at rs i
        ≡ Union (path_at rs (row_at rs i).a) (path_at rs (row_at rs i).b)
    unfolding term_by as_path term_at
    union_at e = ap as_path (term_of_kind union_row e)

    pub composition_at : (row_at rs i).kind ≡ composition_row →
        path_at rs i ≡ Composition (path_at rs (row_at rs i).a) (path_at rs (row_at rs i).b)
    unfolding term_by as_path term_at
    composition_at e = ap as_path (term_of_kind composition_row e)

    pub filter_at : (row_at rs i).kind ≡ filter_row → path_at rs i ≡ Filter (path_at rs (row_at rs i).a)
        (qualifier_at rs (row_at rs i).b)
    unfolding term_by as_path term_at
    filter_at e = ap as_path (term_of_kind filter_row e)

    not_at : (row_at rs i).kind ≡ not_row → qualifier_at rs i ≡ Not (qualifier_at rs (row_at rs i).a)
    unfolding term_by as_qualifier term_at
    not_at e = ap as_qualifier (term_of_kind not_row e)

    inclusion_at : (row_at rs i).kind ≡ inclusion_row → qualifier_at rs i
        ≡ In (path_at rs (row_at rs i).a) (path_at rs (row_at rs i).b)
    unfolding term_by as_qualifier term_at
    inclusion_at e = ap as_qualifier (term_of_kind inclusion_row e)

    pub fields_of_kind : (k : ℕ) → (row_at rs i).kind ≡ k →
        FieldLaw rs i (fields_of k).a (row_at rs i).a (row_at rs i).b × FieldLaw rs i (fields_of k).b (row_at rs i).b
        (row_at rs i).b
    fields_of_kind k e = let b = built_row built i h in (rw e at b.a, rw e at b.b)

  path_kind : (i : ℕ) → PathRow i → {p : Path} → path_at rs i ≡ p → (row_at rs i).kind ≡ kind_of (of_path p)
  path_kind i (h, l) e = sym (built_kind built i h) ∙ ap kind_of (path_term rs i l ∙ ap of_path e)

  qualifier_kind : (i : ℕ) → QualifierRow i → {f : Qualifier} → qualifier_at rs i ≡ f →
      (row_at rs i).kind ≡ kind_of (of_qualifier f)
  qualifier_kind i (h, (l, m)) e = sym (built_kind built i h) ∙ ap kind_of (qualifier_term rs i l m ∙ ap of_qualifier e)

  is_step_iff : (i : ℕ) → PathRow i → (a t c : ℕ) → T (is_step rs i a t c) ↔ (path_at rs i ≡ AxisStep a t c)
  unfolding is_step same_row kind_of
  is_step_iff i h a t c = (
    λ s.
        let r = simp facts at s in
        step_path rs i r.0.0.0 ∙ rw (r.0.0.1, r.0.1, r.1) refl,
    λ e.
        let k : (row_at rs i).kind ≡ step_row = path_kind i h e in
        let q = sym (step_path rs i k) ∙ e in
        simp facts (((k, (cc)), (cc)), (cc)),
  )

  -- Rows i and j, and what is known of the operands of row i.
  module _ (i j : ℕ) (row-i : PathRow i) (row-j : PathRow j)
      (earlier : (p q : ℕ) → p < i → PathRow p → PathRow q →
      T (is_back rs p q) ↔ (way_back (path_at rs p) ≡ some (path_at rs q))) where
    abbrev IsBack : Type 0
    IsBack = way_back (path_at rs i) ≡ some (path_at rs j)

    operand_iff : (p q : ℕ) → p < i → PathRow p → PathRow q →
        T (operand_back rs i p q) ↔ (way_back (path_at rs p) ≡ some (path_at rs q))
    operand_iff p q l h g = (
      λ t. (earlier p q l h g).0 (and_yes (ltb p i) (is_back rs p q) t).1,
      λ e. yes_and (ltb p i) (is_back rs p q) (yes_ltb l) ((earlier p q l h g).1 e),
    )

    -- a union or a composition, whose operands' ways back are joined
    joined_iff : (make : Path → Path → Path) → ((u v u₁ v₁ : Path) → make u v ≡ make u₁ v₁ → (u ≡ u₁) × (v ≡ v₁)) →
        (k : ℕ)
        → ((row_at rs j).kind ≡ k → (path_at rs j ≡ make (path_at rs (row_at rs j).a) (path_at rs (row_at rs j).b))
        × PathRow (row_at rs j).a × PathRow (row_at rs j).b)
        → ((u v : Path) → make u v ≡ path_at rs j → (row_at rs j).kind ≡ k)
        → (p q : ℕ) → p < i → PathRow p → q < i → PathRow q
        → T (eqb (row_at rs j).kind k && (operand_back rs i p (row_at rs j).a && operand_back rs i q (row_at rs j).b))
        ↔ (joined make (way_back (path_at rs p)) (way_back (path_at rs q)) ≡ some (path_at rs j))
    unfolding joined
    joined_iff make injective k made kind p q lp hp lq hq =
        let y : Row = row_at rs j in (
          λ t.
              let r = and_yes (eqb y.kind k) (operand_back rs i p y.a && operand_back rs i q y.b) t in
              let s = and_yes (operand_back rs i p y.a) (operand_back rs i q y.b) r.1 in
              let (path, a, b) = made (eqb_yes r.0) in
              let e = (operand_iff p y.a lp hp a).0 s.0 in
              let f = (operand_iff q y.b lq hq b).0 s.1 in
              ap₂ (joined make) e f ∙ ap {B = Option Path} some (sym path),
          λ e.
              let (u, v, f, g, h) = joined_some make (way_back (path_at rs p)) (way_back (path_at rs q))
              (path_at rs j) e in
              let c = kind u v h in
              let (path, a, b) = made c in
              let (m, n) = injective u v _ _ (h ∙ path) in
              yes_and (eqb y.kind k) (operand_back rs i p y.a && operand_back rs i q y.b) (yes_eqb c)
              (yes_and (operand_back rs i p y.a) (operand_back rs i q y.b)
              ((operand_iff p y.a lp hp a).1 (f ∙ ap {B = Option Path} some m))
              ((operand_iff q y.b lq hq b).1 (g ∙ ap {B = Option Path} some n))),
        )

    -- row j, if it is a composition
    composed : (row_at rs j).kind ≡ composition_row →
        (path_at rs j ≡ Composition (path_at rs (row_at rs j).a) (path_at rs (row_at rs j).b))
        × PathRow (row_at rs j).a × PathRow (row_at rs j).b
    unfolding fields_of
    composed c =
        let g = row-j.0 in
        let (a, b) = fields_of_kind j g 4 c in
        (composition_at j g c, (omega (arith, a.0), a.1), (omega (arith, b.0), b.1))

    united : (row_at rs j).kind ≡ union_row →
        (path_at rs j ≡ Union (path_at rs (row_at rs j).a) (path_at rs (row_at rs j).b))
        × PathRow (row_at rs j).a × PathRow (row_at rs j).b
    unfolding fields_of
    united c =
        let g = row-j.0 in
        let (a, b) = fields_of_kind j g 3 c in
        (union_at j g c, (omega (arith, a.0), a.1), (omega (arith, b.0), b.1))

    union_iff : (row_at rs i).kind ≡ union_row →
        T (get_or (back_by_kind rs (operand_back rs i) (row_at rs i) (row_at rs j)) 3 false) ↔ IsBack
    unfolding way_back fields_of kind_of
    union_iff k =
        let h = row-i.0 in
        let (a, b) = fields_of_kind i h 3 k in
        let e : way_back (path_at rs i) ≡ joined Union (way_back (path_at rs (row_at rs i).a))
        (way_back (path_at rs (row_at rs i).b)) =
        ap way_back (union_at i h k) in
        let f =
        joined_iff Union (λ u v u₁ v₁ q. (cc, cc)) 3 united (λ u v q. path_kind j row-j (sym q))
        (row_at rs i).a (row_at rs i).b a.0 (omega (arith, a.0), a.1) b.0 (omega (arith, b.0), b.1) in
        (λ t. e ∙ f.0 t, λ q. f.1 (sym e ∙ q))

    composition_iff : (row_at rs i).kind ≡ composition_row →
        T (get_or (back_by_kind rs (operand_back rs i) (row_at rs i) (row_at rs j)) 4 false) ↔ IsBack
    unfolding way_back fields_of kind_of
    composition_iff k =
        let h = row-i.0 in
        let (a, b) = fields_of_kind i h 4 k in
        let e : way_back (path_at rs i) ≡ joined Composition (way_back (path_at rs (row_at rs i).b))
        (way_back (path_at rs (row_at rs i).a)) =
        ap way_back (composition_at i h k) in
        let f =
        joined_iff Composition (λ u v u₁ v₁ q. (cc, cc)) 4 composed (λ u v q. path_kind j row-j (sym q))
        (row_at rs i).b (row_at rs i).a b.0 (omega (arith, b.0), b.1) a.0 (omega (arith, a.0), a.1) in
        (λ t. e ∙ f.0 t, λ q. f.1 (sym e ∙ q))

    step_iff : (row_at rs i).kind ≡ step_row → T (is_step_back rs (row_at rs i) (row_at rs j)) ↔ IsBack
    unfolding way_back is_step_back kind_of
    step_iff k =
        let x : Row = row_at rs i in
        let y : Row = row_at rs j in
        let z : Row = row_at rs y.b in
        let e : way_back (path_at rs i) ≡ _ = ap way_back (step_path rs i k) in (
          λ t.
              let (c, r) = and_yes (eqb y.kind 4) _ t in
              let (s, r₁) = and_yes (is_step rs y.a 0 x.b x.c) _ r in
              let (o, n) = and_yes (is_pair opposites x.a z.a) (is_step rs y.b z.a 2 0) r₁ in
              let (path, a, b) = composed (eqb_yes c) in
              e ∙ (map-eq-some_iff (λ b. step_back b x.b x.c) (opposite x.a)).1 (
                z.a,
                (opposite_iff x.a z.a).0 o,
                sym (path ∙ ap₂ Composition ((is_step_iff y.a a 0 x.b x.c).0 s)
                    ((is_step_iff y.b b z.a 2 0).0 n)),
              ),
          λ q.
              let (axis, o, p) = (map-eq-some_iff (λ b. step_back b x.b x.c) (opposite x.a)).0 (sym e ∙ q) in
              let c : y.kind ≡ composition_row = path_kind j row-j (sym p) in
              let (path, a, b) = composed c in
              let parts = p ∙ path in
              let first : path_at rs y.a ≡ AxisStep 0 x.b x.c = sym (cc) in
              let second : path_at rs y.b ≡ AxisStep axis 2 0 = sym (cc) in
              let n : z.kind ≡ step_row = path_kind y.b b second in
              let fields = sym (step_path rs y.b n) ∙ second in
              let m : axis ≡ z.a = sym (cc) in
              yes_and (eqb y.kind 4) _ (yes_eqb c)
              (yes_and (is_step rs y.a 0 x.b x.c) _ ((is_step_iff y.a a 0 x.b x.c).1 first)
              (yes_and (is_pair opposites x.a z.a) (is_step rs y.b z.a 2 0)
              ((opposite_iff x.a z.a).1 (o ∙ ap {B = Option ℕ} some m))
              ((is_step_iff y.b b z.a 2 0).1 (second ∙ ap (λ a. AxisStep a 2 0) m)))),
        )

    filter_iff : (row_at rs i).kind ≡ filter_row →
        T (get_or (back_by_kind rs (operand_back rs i) (row_at rs i) (row_at rs j)) 5 false) ↔ IsBack
    unfolding way_back is_filter_back fields_of kind_of
    filter_iff k =
        let x : Row = row_at rs i in
        let y : Row = row_at rs j in
        let z : Row = row_at rs y.a in
        let (lp, lf) = fields_of_kind i row-i.0 5 k in
        let hp : PathRow x.a = (omega (arith, lp.0, row-i.0), lp.1) in
        let hf : QualifierRow x.b = (omega (arith, lf.0, row-i.0), (lf.1, lf.2)) in
        let e : way_back (path_at rs i) ≡ _ = ap way_back (filter_at i row-i.0 k) in (
          λ t.
              let (s, o) = and_yes (is_filter_back rs x y) (operand_back rs i x.a y.b) t in
              let (c, r) = and_yes (eqb y.kind 4) (eqb z.kind 5 && eqb z.b x.b && is_step rs z.a 0 2 0)
              s in
              let (m, n) = and_yes (eqb z.kind 5 && eqb z.b x.b) (is_step rs z.a 0 2 0) r in
              let (kind, same) = and_yes (eqb z.kind 5) (eqb z.b x.b) m in
              let (path, a, b) = composed (eqb_yes c) in
              let (la, lb) = fields_of_kind y.a a.0 5 (eqb_yes kind) in
              let filter =
              filter_at y.a a.0 (eqb_yes kind)
              ∙ ap₂ Filter ((is_step_iff z.a (omega (arith, la.0, a.0), la.1) 0 2 0).0 n)
              (ap (qualifier_at rs) (eqb_yes same)) in
              e ∙ (map-eq-some_iff (filter_back (qualifier_at rs x.b)) (way_back (path_at rs x.a))).1 (
                path_at rs y.b,
                (operand_iff x.a y.b lp.0 hp b).0 o,
                sym (path ∙ ap₂ Composition filter refl),
              ),
          λ q.
              let (w, g, p) = (map-eq-some_iff (filter_back (qualifier_at rs x.b)) (way_back (path_at rs x.a))).0
              (sym e ∙ q) in
              let c : y.kind ≡ composition_row = path_kind j row-j (sym p) in
              let (path, a, b) = composed c in
              let parts = p ∙ path in
              let first : path_at rs y.a ≡ Filter (AxisStep 0 2 0) (qualifier_at rs x.b) = sym (cc) in
              let second : w ≡ path_at rs y.b = cc in
              let kind : z.kind ≡ filter_row = path_kind y.a a first in
              let (la, lb) = fields_of_kind y.a a.0 5 kind in
              let fields = sym (filter_at y.a a.0 kind) ∙ first in
              let self : path_at rs z.a ≡ AxisStep 0 2 0 = cc in
              let of : qualifier_at rs z.b ≡ qualifier_at rs x.b = cc in
              let same : z.b ≡ x.b = same_qualifier built z.b x.b (omega (arith, lb.0, a.0), (lb.1, lb.2))
              hf of in
              yes_and (is_filter_back rs x y) (operand_back rs i x.a y.b)
              (yes_and (eqb y.kind 4) (eqb z.kind 5 && eqb z.b x.b && is_step rs z.a 0 2 0) (yes_eqb c)
              (yes_and (eqb z.kind 5 && eqb z.b x.b) (is_step rs z.a 0 2 0)
              (yes_and (eqb z.kind 5) (eqb z.b x.b) (yes_eqb kind) (yes_eqb same))
              ((is_step_iff z.a (omega (arith, la.0, a.0), la.1) 0 2 0).1 self)))
              ((operand_iff x.a y.b lp.0 hp b).1 (g ∙ ap {B = Option Path} some second)),
        )

    -- a path that has no way back
    none_iff : {p : Path} → path_at rs i ≡ p → way_back p ≡ none → T false ↔ IsBack
    none_iff e n = (λ t. absurd t, λ q. none-ne-some (path_at rs j) (sym (ap way_back e ∙ n) ∙ q))

    level_iff : T (is_back_by rs (operand_back rs i) (row_at rs i) (row_at rs j)) ↔ IsBack
    unfolding is_back_by way_back
    level_iff = by (kind_of_lem (row_at rs i).kind (omega (arith, row-i.1))) refl
      where
        entry_iff : (k : ℕ) → (row_at rs i).kind ≡ k →
            T (get_or (back_by_kind rs (operand_back rs i) (row_at rs i) (row_at rs j)) k false) ↔ IsBack →
            T (is_back_by rs (operand_back rs i) (row_at rs i) (row_at rs j)) ↔ IsBack
        entry_iff k e f =
            let q = kind_is (back_by_kind rs (operand_back rs i) (row_at rs i) (row_at rs j)) e in
            (λ t. f.0 (subst T q t), λ w. subst T (sym q) (f.1 w))

        by : {k : ℕ} → Kind k → (row_at rs i).kind ≡ k →
            T (is_back_by rs (operand_back rs i) (row_at rs i) (row_at rs j)) ↔ IsBack
        by void_kind e = entry_iff 0 e (none_iff (void_at i row-i.0 e) refl)
        by root_kind e = entry_iff 1 e (none_iff (root_at i row-i.0 e) refl)
        by step_kind e = entry_iff 2 e (step_iff e)
        by union_kind e = entry_iff 3 e (union_iff e)
        by composition_kind e = entry_iff 4 e (composition_iff e)
        by filter_kind e = entry_iff 5 e (filter_iff e)
        by true_kind e = absurd (omega (arith, row-i.1))
        by false_kind e = absurd (omega (arith, row-i.1))
        by not_kind e = absurd (omega (arith, row-i.1))
        by and_kind e = absurd (omega (arith, row-i.1))
        by or_kind e = absurd (omega (arith, row-i.1))
        by in_kind e = absurd (omega (arith, row-i.1))

  back_below : (n i j : ℕ) → i < n → PathRow i → PathRow j →
      T (is_back rs i j) ↔ (way_back (path_at rs i) ≡ some (path_at rs j))
  back_below zero i j l h g = absurd (omega arith)
  back_below (suc n) i j l h g =
      let q = back_level rs i j in
      let f = level_iff i j h g (λ p q m. back_below n p q (omega arith)) in
      (λ t. f.0 (subst T q t), λ e. subst T (sym q) (f.1 e))

  -- row j is the way back of row i just where its term is that of row i's term
  pub is_back_iff : (i j : ℕ) → PathRow i → PathRow j → T (is_back rs i j)
      ↔ (way_back (path_at rs i) ≡ some (path_at rs j))
  is_back_iff i j h g = back_below (suc i) i j (omega arith) h g

  -- the rows of a step say r <= r[some w], w being r's way back
  pub with_back_iff : (l r : ℕ) → PathRow l → PathRow r →
      T (is_with_back rs l r) ↔ ((w : Path) × (way_back (path_at rs l) ≡ some w) ×
      (Filter (path_at rs l) (some_of w) ≡ path_at rs r))
  unfolding is_with_back fields_of kind_of
  with_back_iff l r h g =
      let y : Row = row_at rs r in
      let f : Row = row_at rs y.b in
      let n : Row = row_at rs f.a in
      let v : Row = row_at rs n.b in
      let filter : Bool = eqb y.kind 5 && eqb y.a l in
      let some_test : Bool = eqb f.kind 8 && (eqb n.kind 11 && eqb v.kind 0) in (
        λ t.
            let (s, back) = and_yes (filter && some_test) (is_back rs l n.a) t in
            let (s₁, s₂) = and_yes filter some_test s in
            let (k, same) = and_yes (eqb y.kind 5) (eqb y.a l) s₁ in
            let (k₁, s₃) = and_yes (eqb f.kind 8) (eqb n.kind 11 && eqb v.kind 0) s₂ in
            let (k₂, k₃) = and_yes (eqb n.kind 11) (eqb v.kind 0) s₃ in
            let (_, lf) = fields_of_kind r g.0 5 (eqb_yes k) in
            let hf : y.b < length rs = omega (arith, lf.0, g.0) in
            let (ln, _) = fields_of_kind y.b hf 8 (eqb_yes k₁) in
            let hn : f.a < length rs = omega (arith, ln.0, hf) in
            let (lw, lv) = fields_of_kind f.a hn 11 (eqb_yes k₂) in
            let hw : PathRow n.a = (omega (arith, lw.0, hn), lw.1) in
            let hv : n.b < length rs = omega (arith, lv.0, hn) in
            let inclusion = inclusion_at f.a hn (eqb_yes k₂) ∙
            ap (In (path_at rs n.a)) (void_at n.b hv (eqb_yes k₃)) in
            let qualifier = not_at y.b hf (eqb_yes k₁) ∙ ap Not inclusion in (
              path_at rs n.a,
              (is_back_iff l n.a h hw).0 back,
              sym (filter_at r g.0 (eqb_yes k) ∙ ap₂ Filter (ap (path_at rs) (eqb_yes same)) qualifier),
            ),
        λ (w, e, q).
            let k : y.kind ≡ filter_row = path_kind r g (sym q) in
            let (lp, lf) = fields_of_kind r g.0 5 k in
            let parts = q ∙ filter_at r g.0 k in
            let path : path_at rs y.a ≡ path_at rs l = sym (cc) in
            let same : y.a ≡ l = same_path built y.a l (omega (arith, lp.0, g.0), lp.1) h path in
            let hf : QualifierRow y.b = (omega (arith, lf.0, g.0), (lf.1, lf.2)) in
            let some_is : qualifier_at rs y.b ≡ Not (In w Void) = sym (cc) in
            let k₁ : f.kind ≡ not_row = qualifier_kind y.b hf some_is in
            let (ln, _) = fields_of_kind y.b hf.0 8 k₁ in
            let hn : QualifierRow f.a = (omega (arith, ln.0, hf.0), (ln.1, ln.2)) in
            let of-not = sym (not_at y.b hf.0 k₁) ∙ some_is in
            let inclusion : qualifier_at rs f.a ≡ In w Void = cc in
            let k₂ : n.kind ≡ inclusion_row = qualifier_kind f.a hn inclusion in
            let (lw, lv) = fields_of_kind f.a hn.0 11 k₂ in
            let of-in = sym (inclusion_at f.a hn.0 k₂) ∙ inclusion in
            let back : w ≡ path_at rs n.a = sym (cc) in
            let void : path_at rs n.b ≡ Void = cc in
            let k₃ : v.kind ≡ void_row = path_kind n.b (omega (arith, lv.0, hn.0), lv.1) void in
            yes_and (filter && some_test) (is_back rs l n.a)
            (yes_and filter some_test (yes_and (eqb y.kind 5) (eqb y.a l) (yes_eqb k) (yes_eqb same))
            (yes_and (eqb f.kind 8) (eqb n.kind 11 && eqb v.kind 0) (yes_eqb k₁)
            (yes_and (eqb n.kind 11) (eqb v.kind 0) (yes_eqb k₂) (yes_eqb k₃))))
            ((is_back_iff l n.a h (omega (arith, lw.0, hn.0), lw.1)).1 (e ∙ ap {B = Option Path} some back)),
      )
