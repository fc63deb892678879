-- The rows of a term that are put after accepted rows are accepted, and the last one's term is that term.
use Prim.Native.Nat.{ℕ, suc, ◌+◌, ◌<◌, ◌≤◌, max}
use mathlib.Core.Path.{◌≡◌, refl, sym, ap, subst, ◌∙◌}
use mathlib.Core.Bool.{Bool, true, false, cond, ◌&&◌}
use mathlib.Core.List.{List, [], ◌∷◌, ◌++◌}
use native.Mathlib.Numerals.{add-one}
use native.Mathlib.Omega.{arith}
use lib.Dec.{T, leb, ltb, eqb, ltb→lt}
use borrow.Author.Tests.{ltb-false}
use lib.ListN.{length, get_or, take, length-append}
use lib.Seq.{get_or_at, get_or-take, take-append_seam}
use mir.Facts.{yes_and, yes_ltb, yes_leb, yes_eqb}
use Rattle.lines.specs.Number.{max_number}
use Rattle.common.specs.RowKinds.{void_row, root_row, step_row, union_row, composition_row, filter_row, true_row}
use Rattle.common.specs.RowKinds.{false_row, not_row, and_row, or_row, inclusion_row}
use Rattle.xpath.specs.Term as term
use Rattle.terms.specs.Row.{Row, row, no_row, row_at, same_row, find}
use Rattle.terms.specs.Fields.{Field, unused, axis, test, name, path, qualifier, fields_of, max_kind, is_path}
use Rattle.terms.specs.Fields.{is_qualifier, held_path, held_qualifier, field_ok, bad_place}
use Rattle.terms.specs.Nesting.{max_nesting, operand_nesting, nesting_by, nestings, nesting}
use Rattle.terms.specs.Terms.{Term, of_path, of_qualifier, as_path, as_qualifier, term_by, terms, term_at}
use Rattle.terms.specs.AcceptedRows.{is_well_formed, is_new, Built, more}
use Rattle.terms.proofs.ByKind.{kind_of}
use Rattle.terms.proofs.Built.{FieldLaw, built_row, built_term, built_kind}
use Rattle.terms.proofs.Entries.{entries_take, length_entries}
use Rattle.terms.proofs.Find.{same_is, find_le}
use Rattle.terms.proofs.Nesting.{nestings_snoc, nesting_at}
use Rattle.terms.proofs.Terms.{term_at_lem, term_stays}
use Rattle.selector_grammar.specs.Denotes.{put, put_path, put_qual, nest_path, nest_qual}
use Rattle.selector_grammar.proofs.Basics.{so, is_true}
use Rattle.selector_grammar.proofs.Longer.{Longer, path_longer, qualifier_longer}

-- a row that is found is the row sought
pub found_row : (rs : List Row) (r : Row) → find rs r < length rs → row_at rs (find rs r) ≡ r
unfolding find
found_row [] r h = absurd (omega arith)
found_row (s ∷ rs) r h = go (same_row s r) refl (found_row rs r) h
  where
    go : (b : Bool) → same_row s r ≡ b → (find rs r < length rs → row_at rs (find rs r) ≡ r)
        → cond b 0 (find rs r + 1) < suc (length rs) → row_at (s ∷ rs) (cond b 0 (find rs r + 1)) ≡ r
    go true e next k = same_is s r (so (same_row s r) e)
    go false e next k = rw (add-one (find rs r)) (next (omega arith))

-- the nestings of rows stay as rows are added, and depend on those of the operands alone
nestings_take : (n : ℕ) (rs : List Row) → nestings (take n rs) ≡ take n (nestings rs)
unfolding nestings
nestings_take n rs = entries_take nesting_by n rs

nestings_length : (rs : List Row) → length (nestings rs) ≡ length rs
unfolding nestings
nestings_length rs = length_entries nesting_by rs

pub nesting_stays : (rs ss : List Row) (i : ℕ) → i < length rs → get_or (nestings (rs ++ ss)) i 0
    ≡ get_or (nestings rs) i 0
nesting_stays rs ss i h =
    sym (get_or-take (length rs) (nestings (rs ++ ss)) i 0 h)
    ∙ ap (λ (ns : List ℕ). get_or ns i 0) (sym (nestings_take (length rs) (rs ++ ss))
    ∙ ap nestings (take-append_seam rs ss))

operand_same : (rs : List Row) (i : ℕ) (f : Field) (x t : ℕ) → FieldLaw rs i f x t
    → operand_nesting (nestings (take i rs)) f x ≡ operand_nesting (nestings rs) f x
unfolding operand_nesting
operand_same rs i unused x t h = refl
operand_same rs i axis x t h = refl
operand_same rs i test x t h = refl
operand_same rs i name x t h = refl
operand_same rs i path x t h = rw (nestings_take i rs) (get_or-take i (nestings rs) x 0 h.0)
operand_same rs i qualifier x t h = rw (nestings_take i rs) (get_or-take i (nestings rs) x 0 h.0)

pub built_nesting : {rs : List Row} → Built rs → (i : ℕ) → i < length rs
    → get_or (nestings rs) i 0 ≡ nesting rs (row_at rs i)
unfolding nesting nesting_by
built_nesting {rs} b i h =
    let l = built_row b i h in
    let r : Row = row_at rs i in
    nesting_at rs i h
    ∙ ap (λ (n : ℕ). 1 + max n (operand_nesting (nestings (take i rs)) (fields_of r.kind).b r.b))
    (operand_same rs i (fields_of r.kind).a r.a r.b l.a)
    ∙ ap (λ (n : ℕ). 1 + max (operand_nesting (nestings rs) (fields_of r.kind).a r.a) n)
    (operand_same rs i (fields_of r.kind).b r.b r.b l.b)

-- row i of the accepted rows rs is the term t, of nesting n
pub record Stands (rs : List Row) (i : ℕ) (t : Term) (n : ℕ) : Type 0 where
  pub built : Built rs
  pub held : i < length rs
  pub term : term_at rs i ≡ t
  pub nest : get_or (nestings rs) i 0 ≡ n

stands_on : {rs ss : List Row} {i n : ℕ} {t : Term} → Stands rs i t n → Longer rs ss → Built ss → Stands ss i t n
stands_on {rs} {ss} {i} {n} {t} s (new, e) b =
    record {
      built = b;
      held = rw e (omega (arith, length-append rs new, s.held));
      term = ap (λ (q : List Row). term_at q i) e ∙ term_stays rs new i s.held ∙ s.term;
      nest = ap (λ (q : List Row). get_or (nestings q) i 0) e ∙ nesting_stays rs new i s.held ∙ s.nest;
    }

-- a well-formed row that is put stands where it is put
module _ (rs : List Row) (r : Row) (b : Built rs) (ok : T (is_well_formed rs r)) where
  stands_held : find rs r < length rs → Stands rs (find rs r) (term_by (terms rs) r) (nesting rs r)
  stands_held h =
      let e = found_row rs r h in
      record {
        built = b;
        held = h;
        term = built_term b (find rs r) h ∙ ap (term_by (terms rs)) e;
        nest = built_nesting b (find rs r) h ∙ ap (nesting rs) e;
      }

  stands_new : length rs ≤ find rs r → Stands (rs ++ (r ∷ [])) (find rs r) (term_by (terms rs) r) (nesting rs r)
  unfolding is_new
  stands_new h =
      let e : find rs r ≡ length rs = omega (arith, h, find_le rs r) in
      let n = length rs in
      subst (λ (i : ℕ). Stands (rs ++ (r ∷ [])) i (term_by (terms rs) r) (nesting rs r)) (sym e)
      record {
        built = more r b ok (yes_eqb e);
        held = omega (arith, length-append rs (r ∷ []));
        term = term_at_lem (rs ++ (r ∷ [])) n
            ∙ ap (λ (q : List Row). term_by (terms q) (row_at (rs ++ (r ∷ [])) n)) (take-append_seam rs (r ∷ []))
            ∙ ap (term_by (terms rs)) (get_or_at rs r [] no_row n refl);
        nest = ap (λ (ns : List ℕ). get_or ns n 0) (nestings_snoc rs r)
            ∙ get_or_at (nestings rs) (nesting rs r) [] 0 n (nestings_length rs);
      }

  pub row_stands : Stands (put rs r).rows (put rs r).at (term_by (terms rs) r) (nesting rs r)
  unfolding put
  row_stands = go (ltb (find rs r) (length rs)) refl
    where
      go : (b : Bool) → ltb (find rs r) (length rs) ≡ b
          → Stands (cond b rs (rs ++ (r ∷ []))) (find rs r) (term_by (terms rs) r) (nesting rs r)
      go true e = stands_held (ltb→lt (find rs r) (length rs) (so _ e))
      go false e = stands_new (ltb-false (find rs r) (length rs) e)

-- paths are of kinds 0 to 5, qualifiers of kinds 6 to 11
path_kind : (p : term.Path) → kind_of (of_path p) ≤ 5
unfolding kind_of
path_kind term.Void = omega arith
path_kind term.Root = omega arith
path_kind (term.AxisStep a t c) = omega arith
path_kind (term.Union p q) = omega arith
path_kind (term.Composition p q) = omega arith
path_kind (term.Filter p f) = omega arith

qualifier_kind : (f : term.Qualifier) → (6 ≤ kind_of (of_qualifier f)) × (kind_of (of_qualifier f) ≤ 11)
unfolding kind_of
qualifier_kind term.True = (omega arith, omega arith)
qualifier_kind term.False = (omega arith, omega arith)
qualifier_kind (term.Not f) = (omega arith, omega arith)
qualifier_kind (term.And f g) = (omega arith, omega arith)
qualifier_kind (term.Or f g) = (omega arith, omega arith)
qualifier_kind (term.In p q) = (omega arith, omega arith)

-- a row that stands for a path is a held path, one that stands for a qualifier a held qualifier
is_held_path : {rs : List Row} {i n : ℕ} {p : term.Path} → Stands rs i (of_path p) n → held_path rs i ≡ true
unfolding held_path is_path
is_held_path {rs} {i} {n} {p} s =
    let k : (row_at rs i).kind ≤ 5 = omega (arith, built_kind s.built i s.held, ap kind_of s.term, path_kind p) in
    is_true (ltb i (length rs) && leb (row_at rs i).kind 5)
    (yes_and (ltb i (length rs)) (leb (row_at rs i).kind 5) (yes_ltb s.held) (yes_leb k))

is_held_qualifier : {rs : List Row} {i n : ℕ} {f : term.Qualifier} → Stands rs i (of_qualifier f) n
    → held_qualifier rs i ≡ true
unfolding held_qualifier is_qualifier
is_held_qualifier {rs} {i} {n} {f} s =
    let l = qualifier_kind f in
    let e = built_kind s.built i s.held in
    let g = ap kind_of s.term in
    let j : 6 ≤ (row_at rs i).kind = omega (arith, e, g, l.0) in
    let k : (row_at rs i).kind ≤ 11 = omega (arith, e, g, l.1) in
    is_true (ltb i (length rs) && (leb 6 (row_at rs i).kind && leb (row_at rs i).kind 11))
    (yes_and (ltb i (length rs)) (leb 6 (row_at rs i).kind && leb (row_at rs i).kind 11) (yes_ltb s.held)
    (yes_and (leb 6 (row_at rs i).kind) (leb (row_at rs i).kind 11) (yes_leb j) (yes_leb k)))

-- a row is well formed by its kind, its fields and its nesting
pub well_formed_lem : (rs : List Row) (k x y z : ℕ) → k ≤ max_kind → field_ok rs (fields_of k).a x y ≡ true
    → field_ok rs (fields_of k).b y y ≡ true → field_ok rs (fields_of k).c z y ≡ true
    → nesting rs (row k x y z) ≤ max_nesting → T (is_well_formed rs (row k x y z))
unfolding is_well_formed bad_place
well_formed_lem rs k x y z h a b c n =
    let place : bad_place rs (row k x y z) ≡ 0 = rw (a, b, c) refl in
    yes_and (leb k max_kind && eqb (bad_place rs (row k x y z)) 0) (leb (nesting rs (row k x y z)) max_nesting)
    (yes_and (leb k max_kind) (eqb (bad_place rs (row k x y z)) 0) (yes_leb h) (yes_eqb place)) (yes_leb n)

-- the row of a step is well formed after any rows, and its name has 16 bits
abbrev pub StepFits : (a t c : ℕ) → Type 0
StepFits a t c = ((rs : List Row) → T (is_well_formed rs (row step_row a t c))) × (c ≤ max_number)

-- what P says of a step holds of all steps of a term
module _ (P : (a t c : ℕ) → Type 0) where
  abbrev mutual
    pub EachStep : term.Path → Type 0
    EachStep term.Void = Unit {0}
    EachStep term.Root = Unit {0}
    EachStep (term.AxisStep a t c) = P a t c
    EachStep (term.Union p q) = EachStep p × EachStep q
    EachStep (term.Composition p q) = EachStep p × EachStep q
    EachStep (term.Filter p f) = EachStep p × EachStepWithin f

    pub EachStepWithin : term.Qualifier → Type 0
    EachStepWithin term.True = Unit {0}
    EachStepWithin term.False = Unit {0}
    EachStepWithin (term.Not f) = EachStepWithin f
    EachStepWithin (term.And f g) = EachStepWithin f × EachStepWithin g
    EachStepWithin (term.Or f g) = EachStepWithin f × EachStepWithin g
    EachStepWithin (term.In p q) = EachStep p × EachStep q

-- so are those of all steps of a term
abbrev pub PathFits : term.Path → Type 0
PathFits p = EachStep StepFits p

abbrev pub QualifierFits : term.Qualifier → Type 0
QualifierFits f = EachStepWithin StepFits f

-- a row of kind k without operands
leaf_stands : (rs : List Row) (k : ℕ) (t : Term) → Built rs → T (is_well_formed rs (row k 0 0 0))
    → term_by (terms rs) (row k 0 0 0) ≡ t → nesting rs (row k 0 0 0) ≡ 1
    → Stands (put rs (row k 0 0 0)).rows (put rs (row k 0 0 0)).at t 1
leaf_stands rs k t b ok e n =
    let s = row_stands rs (row k 0 0 0) b ok in
    record { built = s.built; held = s.held; term = s.term ∙ e; nest = s.nest ∙ n }

-- a row of kind k over two rows that stand, which its places f and g take
over_stands : (rs : List Row) (k i j n m : ℕ) (t u v : Term) → Stands rs i t n → Stands rs j u m → k ≤ max_kind
    → field_ok rs (fields_of k).a i j ≡ true → field_ok rs (fields_of k).b j j ≡ true
    → field_ok rs (fields_of k).c 0 j ≡ true → nesting rs (row k i j 0) ≡ suc (max n m) → suc (max n m) ≤ max_nesting
    → term_by (terms rs) (row k i j 0) ≡ v
    → Stands (put rs (row k i j 0)).rows (put rs (row k i j 0)).at v (suc (max n m))
over_stands rs k i j n m t u v s r small a b c nest few e =
    let ok = well_formed_lem rs k i j 0 small a b c (omega (arith, nest, few)) in
    let o = row_stands rs (row k i j 0) s.built ok in
    record { built = o.built; held = o.held; term = o.term ∙ e; nest = o.nest ∙ nest }

abbrev PathStands : term.Path → List Row → Type 0
PathStands p rs = Stands (put_path p rs).rows (put_path p rs).at (of_path p) (nest_path p)

abbrev QualifierStands : term.Qualifier → List Row → Type 0
QualifierStands f rs = Stands (put_qual f rs).rows (put_qual f rs).at (of_qualifier f) (nest_qual f)

-- two operands, the second put after the first, and the row over both; a step's row is well formed after any rows
module _ (P : (a t c : ℕ) → Type 0)
    (fine : (a t c : ℕ) → P a t c → (rs : List Row) → T (is_well_formed rs (row step_row a t c))) where
  mutual
    unfolding put_path put_qual nest_path nest_qual fields_of field_ok nesting nesting_by operand_nesting term_by
        term_at as_path
        as_qualifier

    pub path_stands : (p : term.Path) (rs : List Row) → Built rs → EachStep P p → nest_path p ≤ max_nesting
        → PathStands p rs
    path_stands term.Void rs b h l =
        leaf_stands rs void_row (of_path term.Void) b
        (well_formed_lem rs void_row 0 0 0 (omega arith) refl refl refl (omega arith))
        refl
        refl
    path_stands term.Root rs b h l =
        leaf_stands rs root_row (of_path term.Root) b
        (well_formed_lem rs root_row 0 0 0 (omega arith) refl refl refl (omega arith))
        refl
        refl
    path_stands (term.AxisStep a t c) rs b h l =
        let s = row_stands rs (row step_row a t c) b (fine a t c h rs) in
        record { built = s.built; held = s.held; term = s.term; nest = s.nest }
    path_stands (term.Union p q) rs b h l =
        let x = path_stands p rs b h.0 (omega arith) in
        let y = path_stands q (put_path p rs).rows x.built h.1 (omega arith) in
        let z = stands_on x (path_longer q (put_path p rs).rows) y.built in
        over_stands _ union_row _ _ (nest_path p) (nest_path q) (of_path p) (of_path q) (of_path (term.Union p q)) z y
        (omega arith)
        (is_held_path z) (is_held_path y) refl (omega (arith, z.nest, y.nest)) (omega arith)
        (rw (z.term, y.term) refl)
    path_stands (term.Composition p q) rs b h l =
        let x = path_stands p rs b h.0 (omega arith) in
        let y = path_stands q (put_path p rs).rows x.built h.1 (omega arith) in
        let z = stands_on x (path_longer q (put_path p rs).rows) y.built in
        over_stands _ composition_row _ _ (nest_path p) (nest_path q) (of_path p) (of_path q)
        (of_path (term.Composition p q)) z y
        (omega arith) (is_held_path z) (is_held_path y) refl (omega (arith, z.nest, y.nest)) (omega arith)
        (rw (z.term, y.term) refl)
    path_stands (term.Filter p f) rs b h l =
        let x = path_stands p rs b h.0 (omega arith) in
        let y = qualifier_stands f (put_path p rs).rows x.built h.1 (omega arith) in
        let z = stands_on x (qualifier_longer f (put_path p rs).rows) y.built in
        over_stands _ filter_row _ _ (nest_path p) (nest_qual f) (of_path p) (of_qualifier f)
        (of_path (term.Filter p f)) z y
        (omega arith) (is_held_path z) (is_held_qualifier y) refl (omega (arith, z.nest, y.nest)) (omega arith)
        (rw (z.term, y.term) refl)

    pub qualifier_stands : (f : term.Qualifier) (rs : List Row) → Built rs → EachStepWithin P f → nest_qual f ≤ max_nesting
        → QualifierStands f rs
    qualifier_stands term.True rs b h l =
        leaf_stands rs true_row (of_qualifier term.True) b
        (well_formed_lem rs true_row 0 0 0 (omega arith) refl refl refl (omega arith))
        refl
        refl
    qualifier_stands term.False rs b h l =
        leaf_stands rs false_row (of_qualifier term.False) b
        (well_formed_lem rs false_row 0 0 0 (omega arith) refl refl refl (omega arith))
        refl
        refl
    qualifier_stands (term.Not f) rs b h l =
        let x = qualifier_stands f rs b h (omega arith) in
        let ok = well_formed_lem _ not_row _ 0 0 (omega arith) (is_held_qualifier x) refl refl (omega (arith, x.nest)) in
        let s = row_stands (put_qual f rs).rows (row not_row (put_qual f rs).at 0 0) x.built ok in
        record {
          built = s.built;
          held = s.held;
          term = s.term ∙ rw x.term refl;
          nest = s.nest ∙ omega (arith, x.nest);
        }
    qualifier_stands (term.And f g) rs b h l =
        let x = qualifier_stands f rs b h.0 (omega arith) in
        let y = qualifier_stands g (put_qual f rs).rows x.built h.1 (omega arith) in
        let z = stands_on x (qualifier_longer g (put_qual f rs).rows) y.built in
        over_stands _ and_row _ _ (nest_qual f) (nest_qual g) (of_qualifier f) (of_qualifier g)
        (of_qualifier (term.And f g))
        z y
        (omega arith) (is_held_qualifier z) (is_held_qualifier y) refl (omega (arith, z.nest, y.nest)) (omega arith)
        (rw (z.term, y.term) refl)
    qualifier_stands (term.Or f g) rs b h l =
        let x = qualifier_stands f rs b h.0 (omega arith) in
        let y = qualifier_stands g (put_qual f rs).rows x.built h.1 (omega arith) in
        let z = stands_on x (qualifier_longer g (put_qual f rs).rows) y.built in
        over_stands _ or_row _ _ (nest_qual f) (nest_qual g) (of_qualifier f) (of_qualifier g)
        (of_qualifier (term.Or f g))
        z y
        (omega arith) (is_held_qualifier z) (is_held_qualifier y) refl (omega (arith, z.nest, y.nest)) (omega arith)
        (rw (z.term, y.term) refl)
    qualifier_stands (term.In p q) rs b h l =
        let x = path_stands p rs b h.0 (omega arith) in
        let y = path_stands q (put_path p rs).rows x.built h.1 (omega arith) in
        let z = stands_on x (path_longer q (put_path p rs).rows) y.built in
        over_stands _ inclusion_row _ _ (nest_path p) (nest_path q) (of_path p) (of_path q)
        (of_qualifier (term.In p q)) z y
        (omega arith)
        (is_held_path z) (is_held_path y) refl (omega (arith, z.nest, y.nest)) (omega arith)
        (rw (z.term, y.term) refl)
