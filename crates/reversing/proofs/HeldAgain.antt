-- The term of a held row needs no new row: put again, it is found where it stands.
use Prim.Native.Nat.{ℕ, zero, suc, ◌+◌, ◌<◌, ◌≤◌, max}
use mathlib.Core.Path.{◌≡◌, refl, sym, ◌∙◌, ap, subst}
use mathlib.Core.Bool.{Bool, true, false, cond}
use mathlib.Core.List.{List, [], ◌∷◌, ◌++◌}
use mathlib.Core.Logic.{⊎_elim}
use native.Mathlib.Omega.{arith}
use lib.Dec.{T, ltb}
use lib.ListN.{length, get_or, take, length-append}
use Rattle.std.proofs.lemmas.Bool.{lt-ltb}
use Rattle.common.proofs.Reflect.{le_or_lt}
use Rattle.common.specs.RowKinds.{step_row}
use Rattle.xpath.specs.Term.{Path, Qualifier, Void, Root, AxisStep, Union, Composition, Filter, True, False, Not, And}
use Rattle.xpath.specs.Term.{Or, In}
use Rattle.terms.specs.Row.{Row, row, row_at, same_row, find}
use Rattle.terms.specs.Fields.{max_kind, fields_of, field_ok, bad_place}
use Rattle.terms.specs.Nesting.{nesting, nesting_by, operand_nesting, nestings}
use Rattle.terms.specs.Terms.{as_path, as_qualifier, term_by, term_at, path_at, qualifier_at}
use Rattle.terms.specs.AcceptedRows.{is_well_formed, Built}
use Rattle.terms.proofs.ByKind.{Kind, void_kind, root_kind, step_kind, union_kind, composition_kind, filter_kind}
use Rattle.terms.proofs.ByKind.{true_kind, false_kind, not_kind, and_kind, or_kind, in_kind, kind_of_lem}
use Rattle.terms.proofs.Find.{find_first, find_there, row_equal}
use Rattle.terms.proofs.Built.{FieldLaw, built_at, built_row, built_rows_differ}
use Rattle.selector_grammar.specs.Denotes.{Put, put, put_path, put_qual, nest_path, nest_qual}
use Rattle.selector_grammar.proofs.Longer.{Longer}
use Rattle.selector_grammar.proofs.Stands.{EachStep, EachStepWithin, built_nesting}
use Rattle.matching.proofs.WayBackRows.{term_of_kind}

-- a row that is found stays where it is found
pub find_stays : (rs new : List Row) (r : Row) → find rs r < length rs → find (rs ++ new) r ≡ find rs r
unfolding find
find_stays [] new r h = absurd (omega arith)
find_stays (s ∷ rs) new r h = by (same_row s r) h (find_stays rs new r)
  where
    by : (b : Bool) → cond b 0 (find rs r + 1) < suc (length rs)
        → (find rs r < length rs → find (rs ++ new) r ≡ find rs r)
        → cond b 0 (find (rs ++ new) r + 1) ≡ cond b 0 (find rs r + 1)
    by true h next = refl
    by false h next = ap (λ n. n + 1) (next (omega arith))

-- rows that stay, and one of them
abbrev pub stays_at : List Row → ℕ → Put
stays_at rs i = record { rows = rs; at = i }

pub put_found : (rs : List Row) (r : Row) (i : ℕ) → find rs r ≡ i → i < length rs → put rs r ≡ stays_at rs i
unfolding put
put_found rs r i e h = rw (e, lt-ltb i (length rs) h) refl

-- the row of a step is well formed after any rows
abbrev pub FineStep : (a t c : ℕ) → Type 0
FineStep a t c = (rs : List Row) → T (is_well_formed rs (row step_row a t c))

module _ {rs : List Row} (built : Built rs) where
  found_at : (i : ℕ) → i < length rs → find rs (row_at rs i) ≡ i
  found_at i h =
      ⊎_elim
      (λ l. absurd (find_first rs (row_at rs i) i (omega (arith, l, h)) refl))
      (λ l. built_rows_differ built (find rs (row_at rs i)) i l h (find_there rs (row_at rs i) l))
      (le_or_lt (length rs) (find rs (row_at rs i)))

  module _ (ts : List Row) (longer : Longer rs ts) where
    put_again : (i : ℕ) → i < length rs → put ts (row_at rs i) ≡ stays_at ts i
    put_again i h =
        let (new, e) = longer in
        let found = found_at i h in
        put_found ts (row_at rs i) i
        (ap (λ (q : List Row). find q (row_at rs i)) e
        ∙ find_stays rs new (row_at rs i) (omega (arith, found, h)) ∙ found)
        (omega (arith, ap length e, length-append rs new, h))

    -- what holds of the path, or of the qualifier, of row i
    pub record PathAgain (i : ℕ) (p : Path) : Type 0 where
      pub again : put_path p ts ≡ stays_at ts i
      pub nest : nest_path p ≡ get_or (nestings rs) i 0
      pub steps : EachStep FineStep p

    pub record QualifierAgain (i : ℕ) (f : Qualifier) : Type 0 where
      pub again : put_qual f ts ≡ stays_at ts i
      pub nest : nest_qual f ≡ get_or (nestings rs) i 0
      pub steps : EachStepWithin FineStep f

    module _ (i : ℕ) (h : i < length rs) where
      abbrev x : Row
      x = row_at rs i

      -- a row whose kind is known, and whose last field is unused
      row_is : (k : ℕ) → x.kind ≡ k → x.c ≡ 0 → x ≡ row k x.a x.b 0
      row_is k e z = row_equal e refl refl z

      both_again : (k a b : ℕ) (f g : List Row → Put) → f ts ≡ stays_at ts a → g ts ≡ stays_at ts b
          → x ≡ row k a b 0
          → put (g (f ts).rows).rows (row k (f ts).at (g (f ts).rows).at 0) ≡ stays_at ts i
      both_again k a b f g d e r =
          ap (λ (u : Put). put (g u.rows).rows (row k u.at (g u.rows).at 0)) d
          ∙ ap (λ (u : Put). put u.rows (row k a u.at 0)) e
          ∙ ap (put ts) (sym r) ∙ put_again i h

      nest_of : (k : ℕ) → x.kind ≡ k → get_or (nestings rs) i 0 ≡ nesting rs (row k x.a x.b x.c)
      nest_of k e = built_nesting built i h ∙ ap (nesting rs) (row_equal e refl refl refl)

      -- the nesting of a row over operands of nestings a and b
      nest_over : (k a b : ℕ) → x.kind ≡ k → nesting rs (row k x.a x.b x.c) ≡ 1 + max a b → (m n : ℕ) → m ≡ a → n ≡ b
          → suc (max m n) ≡ get_or (nestings rs) i 0
      nest_over k a b e r m n p q = let s = nest_of k e in omega (arith, s, r, p, q)

      -- the row's fields that are unused, and its operands
      module _ (k : ℕ) (e : x.kind ≡ k) where
        a_law : FieldLaw rs i (fields_of k).a x.a x.b
        a_law = let w = (built_row built i h).a in rw e at w

        b_law : FieldLaw rs i (fields_of k).b x.b x.b
        b_law = let w = (built_row built i h).b in rw e at w

        c_law : FieldLaw rs i (fields_of k).c x.c x.b
        c_law = let w = (built_row built i h).c in rw e at w

      module _ (paths : (j : ℕ) → j < i → (row_at rs j).kind ≤ 5 → PathAgain j (path_at rs j))
          (qualifiers : (j : ℕ) → j < i → 6 ≤ (row_at rs j).kind → (row_at rs j).kind ≤ max_kind
          → QualifierAgain j (qualifier_at rs j)) where
        leaf_path : (k : ℕ) (p : Path) → x ≡ row k 0 0 0 → path_at rs i ≡ p
            → ((ts : List Row) → put_path p ts ≡ put ts (row k 0 0 0)) → nest_path p ≡ get_or (nestings rs) i 0
            → EachStep FineStep p → PathAgain i (path_at rs i)
        leaf_path k p r is puts nest steps =
            subst (PathAgain i) (sym is)
            (record { again = puts ts ∙ ap (put ts) (sym r) ∙ put_again i h; nest = nest; steps = steps })

        leaf_qualifier : (k : ℕ) (f : Qualifier) → x ≡ row k 0 0 0 → qualifier_at rs i ≡ f
            → ((ts : List Row) → put_qual f ts ≡ put ts (row k 0 0 0)) → nest_qual f ≡ get_or (nestings rs) i 0
            → EachStepWithin FineStep f → QualifierAgain i (qualifier_at rs i)
        leaf_qualifier k f r is puts nest steps =
            subst (QualifierAgain i) (sym is)
            (record { again = puts ts ∙ ap (put ts) (sym r) ∙ put_again i h; nest = nest; steps = steps })

        -- of two operands: f and g put them
        path_over : (k a b : ℕ) (p : Path) (f g : List Row → Put) → x ≡ row k a b 0 → path_at rs i ≡ p
            → put_path p ts ≡ put (g (f ts).rows).rows (row k (f ts).at (g (f ts).rows).at 0)
            → f ts ≡ stays_at ts a → g ts ≡ stays_at ts b → nest_path p ≡ get_or (nestings rs) i 0
            → EachStep FineStep p → PathAgain i (path_at rs i)
        path_over k a b p f g r is puts d e nest steps =
            subst (PathAgain i) (sym is)
            (record { again = puts ∙ both_again k a b f g d e r; nest = nest; steps = steps })

        qualifier_over : (k a b : ℕ) (q : Qualifier) (f g : List Row → Put) → x ≡ row k a b 0 → qualifier_at rs i ≡ q
            → put_qual q ts ≡ put (g (f ts).rows).rows (row k (f ts).at (g (f ts).rows).at 0)
            → f ts ≡ stays_at ts a → g ts ≡ stays_at ts b → nest_qual q ≡ get_or (nestings rs) i 0
            → EachStepWithin FineStep q → QualifierAgain i (qualifier_at rs i)
        qualifier_over k a b q f g r is puts d e nest steps =
            subst (QualifierAgain i) (sym is)
            (record { again = puts ∙ both_again k a b f g d e r; nest = nest; steps = steps })

        path_by : {k : ℕ} → Kind k → x.kind ≡ k → k ≤ 5 → PathAgain i (path_at rs i)
        unfolding term_by as_path term_at fields_of put_path nest_path nesting nesting_by operand_nesting
            is_well_formed bad_place field_ok
        path_by void_kind e l =
            leaf_path 0 Void (row_equal e (a_law 0 e) (b_law 0 e) (c_law 0 e)) (ap as_path (term_of_kind built i h 0 e))
            (λ ts. refl) (sym (nest_of 0 e)) tt
        path_by root_kind e l =
            leaf_path 1 Root (row_equal e (a_law 1 e) (b_law 1 e) (c_law 1 e)) (ap as_path (term_of_kind built i h 1 e))
            (λ ts. refl) (sym (nest_of 1 e)) tt
        path_by step_kind e l =
            let r : x ≡ row 2 x.a x.b x.c = row_equal e refl refl refl in
            let fine : T (is_well_formed (take i rs) (row 2 x.a x.b x.c)) =
            subst (λ (q : Row). T (is_well_formed (take i rs) q)) r (built_at built i h).0 in
            let is : path_at rs i ≡ AxisStep x.a x.b x.c = ap as_path (term_of_kind built i h 2 e) in
            subst (PathAgain i) (sym is)
            (record {
              again = ap (put ts) (sym r) ∙ put_again i h;
              nest = sym (nest_of 2 e);
              steps = λ ss. fine;
            })
        path_by union_kind e l =
            let a = a_law 3 e in
            let b = b_law 3 e in
            let p = paths x.a a.0 a.1 in
            let q = paths x.b b.0 b.1 in
            path_over 3 x.a x.b (Union (path_at rs x.a) (path_at rs x.b)) (put_path (path_at rs x.a))
            (put_path (path_at rs x.b)) (row_is 3 e (c_law 3 e)) (ap as_path (term_of_kind built i h 3 e)) refl p.again
            q.again
            (nest_over 3 (get_or (nestings rs) x.a 0) (get_or (nestings rs) x.b 0) e refl _ _ p.nest q.nest)
            (p.steps, q.steps)
        path_by composition_kind e l =
            let a = a_law 4 e in
            let b = b_law 4 e in
            let p = paths x.a a.0 a.1 in
            let q = paths x.b b.0 b.1 in
            path_over 4 x.a x.b (Composition (path_at rs x.a) (path_at rs x.b)) (put_path (path_at rs x.a))
            (put_path (path_at rs x.b)) (row_is 4 e (c_law 4 e)) (ap as_path (term_of_kind built i h 4 e)) refl p.again
            q.again
            (nest_over 4 (get_or (nestings rs) x.a 0) (get_or (nestings rs) x.b 0) e refl _ _ p.nest q.nest)
            (p.steps, q.steps)
        path_by filter_kind e l =
            let a = a_law 5 e in
            let b = b_law 5 e in
            let p = paths x.a a.0 a.1 in
            let q = qualifiers x.b b.0 b.1 b.2 in
            path_over 5 x.a x.b (Filter (path_at rs x.a) (qualifier_at rs x.b)) (put_path (path_at rs x.a))
            (put_qual (qualifier_at rs x.b)) (row_is 5 e (c_law 5 e)) (ap as_path (term_of_kind built i h 5 e)) refl
            p.again q.again
            (nest_over 5 (get_or (nestings rs) x.a 0) (get_or (nestings rs) x.b 0) e refl _ _ p.nest q.nest)
            (p.steps, q.steps)
        path_by true_kind e l = absurd (omega arith)
        path_by false_kind e l = absurd (omega arith)
        path_by not_kind e l = absurd (omega arith)
        path_by and_kind e l = absurd (omega arith)
        path_by or_kind e l = absurd (omega arith)
        path_by in_kind e l = absurd (omega arith)

        qualifier_by : {k : ℕ} → Kind k → x.kind ≡ k → 6 ≤ k → QualifierAgain i (qualifier_at rs i)
        unfolding term_by as_qualifier term_at fields_of put_qual nest_qual nesting nesting_by operand_nesting
        qualifier_by void_kind e l = absurd (omega arith)
        qualifier_by root_kind e l = absurd (omega arith)
        qualifier_by step_kind e l = absurd (omega arith)
        qualifier_by union_kind e l = absurd (omega arith)
        qualifier_by composition_kind e l = absurd (omega arith)
        qualifier_by filter_kind e l = absurd (omega arith)
        qualifier_by true_kind e l =
            leaf_qualifier 6 True (row_equal e (a_law 6 e) (b_law 6 e) (c_law 6 e))
            (ap as_qualifier (term_of_kind built i h 6 e)) (λ ts. refl) (sym (nest_of 6 e)) tt
        qualifier_by false_kind e l =
            leaf_qualifier 7 False (row_equal e (a_law 7 e) (b_law 7 e) (c_law 7 e))
            (ap as_qualifier (term_of_kind built i h 7 e)) (λ ts. refl) (sym (nest_of 7 e)) tt
        qualifier_by not_kind e l =
            let a = a_law 8 e in
            let f = qualifiers x.a a.0 a.1 a.2 in
            let r : x ≡ row 8 x.a 0 0 = row_equal e refl (b_law 8 e) (c_law 8 e) in
            let is : qualifier_at rs i ≡ Not (qualifier_at rs x.a) = ap as_qualifier (term_of_kind built i h 8 e) in
            let nest : suc (max (nest_qual (qualifier_at rs x.a)) 0) ≡ get_or (nestings rs) i 0 =
            nest_over 8 (get_or (nestings rs) x.a 0) 0 e refl _ 0 f.nest refl in
            let nested : suc (nest_qual (qualifier_at rs x.a)) ≡ get_or (nestings rs) i 0 = omega (arith, nest) in
            subst (QualifierAgain i) (sym is)
            (record {
              again = ap (λ (u : Put). put u.rows (row 8 u.at 0 0)) f.again ∙ ap (put ts) (sym r) ∙ put_again i h;
              nest = nested;
              steps = f.steps;
            })
        qualifier_by and_kind e l =
            let a = a_law 9 e in
            let b = b_law 9 e in
            let f = qualifiers x.a a.0 a.1 a.2 in
            let g = qualifiers x.b b.0 b.1 b.2 in
            qualifier_over 9 x.a x.b (And (qualifier_at rs x.a) (qualifier_at rs x.b)) (put_qual (qualifier_at rs x.a))
            (put_qual (qualifier_at rs x.b)) (row_is 9 e (c_law 9 e)) (ap as_qualifier (term_of_kind built i h 9 e)) refl
            f.again g.again
            (nest_over 9 (get_or (nestings rs) x.a 0) (get_or (nestings rs) x.b 0) e refl _ _ f.nest g.nest)
            (f.steps, g.steps)
        qualifier_by or_kind e l =
            let a = a_law 10 e in
            let b = b_law 10 e in
            let f = qualifiers x.a a.0 a.1 a.2 in
            let g = qualifiers x.b b.0 b.1 b.2 in
            qualifier_over 10 x.a x.b (Or (qualifier_at rs x.a) (qualifier_at rs x.b)) (put_qual (qualifier_at rs x.a))
            (put_qual (qualifier_at rs x.b)) (row_is 10 e (c_law 10 e)) (ap as_qualifier (term_of_kind built i h 10 e))
            refl f.again g.again
            (nest_over 10 (get_or (nestings rs) x.a 0) (get_or (nestings rs) x.b 0) e refl _ _ f.nest g.nest)
            (f.steps, g.steps)
        qualifier_by in_kind e l =
            let a = a_law 11 e in
            let b = b_law 11 e in
            let p = paths x.a a.0 a.1 in
            let q = paths x.b b.0 b.1 in
            qualifier_over 11 x.a x.b (In (path_at rs x.a) (path_at rs x.b)) (put_path (path_at rs x.a))
            (put_path (path_at rs x.b)) (row_is 11 e (c_law 11 e)) (ap as_qualifier (term_of_kind built i h 11 e)) refl
            p.again q.again
            (nest_over 11 (get_or (nestings rs) x.a 0) (get_or (nestings rs) x.b 0) e refl _ _ p.nest q.nest)
            (p.steps, q.steps)

    mutual
      paths_below : (n i : ℕ) → i < n → i < length rs → (row_at rs i).kind ≤ 5 → PathAgain i (path_at rs i)
      paths_below zero i l h k = absurd (omega arith)
      paths_below (suc n) i l h k =
          path_by i h (λ j m. paths_below n j (omega arith) (omega arith))
          (λ j m. qualifiers_below n j (omega arith) (omega arith))
          (kind_of_lem (row_at rs i).kind (omega arith)) refl k

      qualifiers_below : (n i : ℕ) → i < n → i < length rs → 6 ≤ (row_at rs i).kind
          → (row_at rs i).kind ≤ max_kind → QualifierAgain i (qualifier_at rs i)
      qualifiers_below zero i l h k m = absurd (omega arith)
      qualifiers_below (suc n) i l h k m =
          qualifier_by i h (λ j u. paths_below n j (omega arith) (omega arith))
          (λ j u. qualifiers_below n j (omega arith) (omega arith))
          (kind_of_lem (row_at rs i).kind m) refl k

    pub path_again : (i : ℕ) → i < length rs → (row_at rs i).kind ≤ 5 → PathAgain i (path_at rs i)
    path_again i = paths_below (suc i) i (omega arith)

    pub qualifier_again : (i : ℕ) → i < length rs → 6 ≤ (row_at rs i).kind → (row_at rs i).kind ≤ max_kind
        → QualifierAgain i (qualifier_at rs i)
    qualifier_again i = qualifiers_below (suc i) i (omega arith)
