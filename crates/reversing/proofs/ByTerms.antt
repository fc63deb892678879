-- On a table of accepted rows, what is put for a row's way back by row numbers is what is put for the way back of its
-- path.
use Prim.Native.Nat.{ℕ, zero, suc, ◌<◌, ◌≤◌, max}
use mathlib.Core.Path.{◌≡◌, refl, sym, ◌∙◌, ap, ap₂, subst}
use mathlib.Core.Bool.{Bool, true, false, cond, not, ◌||◌, ◌&&◌}
use mathlib.Core.List.{List}
use mathlib.Core.Option.{Option, none, some, map, none-ne-some, some-injective}
use native.Mathlib.Omega.{arith}
use lib.Dec.{T, eqb, leb, leb→le}
use lib.ListN.{length, get_or, take}
use lib.Seq.{get_or-take}
use borrow.Author.Tests.{ne_eqb}
use Rattle.std.specs.Prelude.{min}
use Rattle.std.proofs.lemmas.Bool.{le-leb}
use Rattle.common.proofs.Entries.{◌&◌}
use Rattle.common.specs.RowKinds.{step_row, union_row, composition_row, filter_row}
use Rattle.xpath.specs.Term as term
use Rattle.xpath.specs.Term.{Path, AxisStep, Union, Composition, Filter}
use Rattle.terms.specs.Row.{Row, row, row_at}
use Rattle.terms.specs.Fields.{fields_of, field_ok, bad_place, max_kind}
use Rattle.terms.specs.Nesting.{max_nesting, nesting, nesting_by, operand_nesting, nestings}
use Rattle.terms.specs.Terms.{path_at, qualifier_at}
use Rattle.terms.specs.AcceptedRows.{is_well_formed, Built}
use Rattle.terms.proofs.ByKind.{Kind, void_kind, root_kind, step_kind, union_kind, composition_kind, filter_kind}
use Rattle.terms.proofs.ByKind.{true_kind, false_kind, not_kind, and_kind, or_kind, in_kind, kind_of_lem}
use Rattle.terms.proofs.Entries.{entries_take, entry_at_lem}
use Rattle.terms.proofs.Terms.{step_path}
use Rattle.selector_grammar.specs.Denotes.{Put, put, put_path, put_qual, nest_path, nest_qual}
use Rattle.selector_grammar.proofs.Longer.{Longer, none_new, then_longer, put_longer, path_longer}
use Rattle.selector_grammar.proofs.Stands.{EachStep, well_formed_lem}
use Rattle.rules.specs.WayBack.{opposites, lookup, opposite, step_back, filter_back, joined, way_back}
use Rattle.rules.proofs.Orders.{pair_at}
use Rattle.rules.proofs.WayBackSound.{lookup_pair, joined_some}
use Rattle.matching.proofs.WayBackRows.{void_at, root_at, union_at, composition_at, filter_at, fields_of_kind}
use Rattle.reversing.specs.private.RowsBack.{Part, back, step, filter, Reversal, reversal, step_reversal, reversals}
use Rattle.reversing.specs.private.RowsBack.{reversal_of, above, part_nesting, over, reversal_nesting, nothing}
use Rattle.reversing.specs.private.RowsBack.{joined_put}
use Rattle.reversing.specs.private.RowsBack.{filter_put, part_put, reversal_put, back_nestings, nesting_after}
use Rattle.reversing.specs.private.RowsBack.{back_nesting}
use Rattle.reversing.specs.private.RowsBack.{back_puts, put_after, back_put}
use Rattle.reversing.proofs.HeldAgain.{stays_at, FineStep, path_again, qualifier_again}

-- the nesting of a path that may be there; 0 stands for none, and all that are too deep are counted as one
abbrev pub capped : ℕ → ℕ
capped n = min (suc max_nesting) n

abbrev pub nest_given : Option Path → ℕ
nest_given none = 0
nest_given (some w) = capped (nest_path w)

pub nest_least : (p : Path) → 1 ≤ nest_path p
unfolding nest_path
nest_least term.Void = omega arith
nest_least term.Root = omega arith
nest_least (AxisStep a t c) = omega arith
nest_least (Union p q) = omega arith
nest_least (Composition p q) = omega arith
nest_least (Filter p f) = omega arith

either : (b : Bool) (n : ℕ) → ◌≡◌ {A = ℕ} (cond (b || true) 0 n) 0
either true n = refl
either false n = refl

over_zero : (n : ℕ) → over n 0 ≡ 0
over_zero n = either (eqb n 0) (above n 0)

over_there : (m n : ℕ) → 1 ≤ m → 1 ≤ n → over m n ≡ above m n
over_there m n h k = rw (ne_eqb m 0 (λ e. omega arith), ne_eqb n 0 (λ e. omega arith)) refl

over_given : (make : Path → Path → Path) → ((p q : Path) → nest_path (make p q) ≡ suc (max (nest_path p) (nest_path q)))
    → (o q : Option Path) → over (nest_given o) (nest_given q) ≡ nest_given (joined make o q)
unfolding joined
over_given make e none none = refl
over_given make e none (some w) = refl
over_given make e (some v) none = over_zero (capped (nest_path v))
over_given make e (some v) (some w) =
    let more : above (capped (nest_path v)) (capped (nest_path w)) ≡ capped (nest_path (make v w)) =
    omega (arith, e v w) in
    over_there (capped (nest_path v)) (capped (nest_path w)) (omega (arith, nest_least v)) (omega (arith, nest_least w))
    ∙ more

-- the row of self::N is well formed where that of a::N is
self_fine : (u v w : Bool) → T (eqb (cond (not u) 1 (cond (not v) 2 (cond (not w) 3 0))) 0 && true)
    → T (eqb (cond (not v) 2 (cond (not w) 3 0)) 0 && true)
self_fine true v w t = t
self_fine false v w t = absurd t

fine_self : (a t c : ℕ) → FineStep a t c → FineStep 0 t c
unfolding is_well_formed bad_place fields_of field_ok nesting nesting_by operand_nesting
fine_self a t c h rs = self_fine (leb a 11) (leb t 6) (cond (eqb t 0 || eqb t 6) (leb 1 c) (eqb c 0)) (h rs)

opposite_small : (a b : ℕ) → opposite a ≡ some b → b ≤ 11
unfolding opposite opposites
opposite_small a b e =
    leb→le b 11
    (pair_at (λ a b. T (leb b 11)) opposites (tt & tt & tt & tt & tt & tt & tt) a b (lookup_pair opposites a b e))

fine_node : (b : ℕ) → b ≤ 11 → FineStep b 2 0
unfolding fields_of field_ok nesting nesting_by operand_nesting
fine_node b h rs = well_formed_lem rs 2 b 2 0 (omega arith) (le-leb b 11 h) refl refl (omega arith)

filter_joined : (f : term.Qualifier) (o : Option Path)
    → joined Composition (some (Filter (AxisStep 0 2 0) f)) o ≡ map (filter_back f) o
unfolding joined
filter_joined f none = refl
filter_joined f (some w) = refl

module _ {rs : List Row} (built : Built rs) where
  -- what is put for the way back o of a part of row i, and for that of row i
  pub record PartLaw (i : ℕ) (u : Part) (o : Option Path) : Type 0 where
    pub nest : part_nesting (nestings rs) (take i (back_nestings rs)) u ≡ nest_given o
    pub puts : (ts : List Row) → Longer rs ts → (w : Path) → o ≡ some w
        → part_put (take i (back_puts rs)) u ts ≡ put_path w ts
    pub steps : (w : Path) → o ≡ some w → EachStep FineStep w

  pub record BackLaw (i : ℕ) (o : Option Path) : Type 0 where
    pub nest : back_nesting rs i ≡ nest_given o
    pub puts : (ts : List Row) → Longer rs ts → (w : Path) → o ≡ some w → back_put rs i ts ≡ put_path w ts
    pub steps : (w : Path) → o ≡ some w → EachStep FineStep w

  module _ (i : ℕ) (h : i < length rs) where
    abbrev x : Row
    x = row_at rs i

    nest_level : back_nesting rs i ≡ reversal_nesting (nestings rs) (take i (back_nestings rs)) (reversal_of x)
    unfolding back_nestings
    nest_level =
        entry_at_lem (nesting_after rs) 0 rs i h
        ∙ ap (λ (bs : List ℕ). nesting_after rs bs x) (entries_take (nesting_after rs) i rs)

    put_level : back_put rs i ≡ reversal_put (take i (back_puts rs)) (reversal_of x)
    unfolding back_puts
    put_level =
        entry_at_lem (put_after rs) nothing rs i h
        ∙ ap (λ (fs : List (List Row → Put)). put_after rs fs x) (entries_take (put_after rs) i rs)

    kind_known : (k : ℕ) → x.kind ≡ k → reversal_of x ≡ get_or (reversals x) k none
    unfolding reversal_of
    kind_known k e = ap (λ (k : ℕ). get_or (reversals x) k none) e

    none_back : reversal_of x ≡ none → (o : Option Path) → o ≡ none → BackLaw i o
    unfolding reversal_nesting
    none_back r o e =
        let nest : reversal_nesting (nestings rs) (take i (back_nestings rs)) (reversal_of x) ≡ 0 =
        ap (reversal_nesting (nestings rs) (take i (back_nestings rs))) r in
        record {
          nest = nest_level ∙ nest ∙ sym (ap nest_given e);
          puts = λ ts l w q. absurd (none-ne-some w (sym e ∙ q));
          steps = λ w q. absurd (none-ne-some w (sym e ∙ q));
        }

    -- a row over two parts
    joined_back : (make : Path → Path → Path) (k : ℕ)
        → ((p q : Path) → nest_path (make p q) ≡ suc (max (nest_path p) (nest_path q)))
        → ((p q : Path) (ts : List Row) → put_path (make p q) ts ≡ joined_put k (put_path p) (put_path q) ts)
        → ((p q : Path) → EachStep FineStep p → EachStep FineStep q → EachStep FineStep (make p q))
        → (u v : Part) → reversal_of x ≡ some (reversal k u v) → (o q : Option Path) → PartLaw i u o → PartLaw i v q
        → BackLaw i (joined make o q)
    unfolding reversal_nesting reversal_put joined_put
    joined_back make k nest puts steps u v r o q a b =
        let nested : reversal_nesting (nestings rs) (take i (back_nestings rs)) (reversal_of x)
        ≡ over (part_nesting (nestings rs) (take i (back_nestings rs)) u)
        (part_nesting (nestings rs) (take i (back_nestings rs)) v) =
        ap (reversal_nesting (nestings rs) (take i (back_nestings rs))) r in
        let put_lem : reversal_put (take i (back_puts rs)) (reversal_of x)
        ≡ joined_put k (part_put (take i (back_puts rs)) u) (part_put (take i (back_puts rs)) v) =
        ap (reversal_put (take i (back_puts rs))) r in
        record {
          nest = nest_level ∙ nested ∙ ap₂ over a.nest b.nest ∙ over_given make nest o q;
          puts = λ ts l w e.
              let (p, s, f, g, m) = joined_some make o q w e in
              let first = a.puts ts l p f in
              let second = b.puts (put_path p ts).rows (then_longer rs ts _ l (path_longer p ts)) s g in
              ap (λ (f : List Row → Put). f ts) (put_level ∙ put_lem)
              ∙ ap (λ (z : Put). let y = part_put (take i (back_puts rs)) v z.rows in put y.rows (row k z.at y.at 0)) first
              ∙ ap (λ (y : Put). put y.rows (row k (put_path p ts).at y.at 0)) second
              ∙ sym (puts p s ts)
              ∙ ap (λ (p : Path). put_path p ts) m;
          steps = λ w e.
              let (p, s, f, g, m) = joined_some make o q w e in
              subst (EachStep FineStep) m (steps p s (a.steps p f) (b.steps s g));
        }

    step_part : (a t c : ℕ) → FineStep a t c → PartLaw i (step (row step_row a t c)) (some (AxisStep a t c))
    unfolding part_nesting part_put put_path nest_path
    step_part a t c fine =
        record {
          nest = refl;
          puts = λ ts l w e. ap (λ (p : Path). put_path p ts) (some-injective (AxisStep a t c) w e);
          steps = λ w e. subst (EachStep FineStep) (some-injective (AxisStep a t c) w e) fine;
        }

    filter_part : (f : ℕ) → f < length rs → 6 ≤ (row_at rs f).kind → (row_at rs f).kind ≤ max_kind
        → PartLaw i (filter f) (some (Filter (AxisStep 0 2 0) (qualifier_at rs f)))
    unfolding part_nesting part_put filter_put put_path nest_path
    filter_part f l m n =
        let q = qualifier_again built rs (none_new rs) f l m n in
        let filtered : Path = Filter (AxisStep 0 2 0) (qualifier_at rs f) in
        let nested = nest_qual (qualifier_at rs f) in
        let more : above 1 nested ≡ capped (suc (max 1 nested)) = omega arith in
        record {
          nest = ap (λ (n : ℕ). above 1 n) (sym q.nest) ∙ more;
          puts = λ ts longer w e.
              let dot = put ts (row step_row 0 2 0) in
              let held = qualifier_again built dot.rows (then_longer rs ts dot.rows longer (put_longer ts _)) f l m n in
              ap (λ (y : Put). put y.rows (row filter_row dot.at y.at 0)) (sym held.again)
              ∙ ap (λ (p : Path). put_path p ts) (some-injective filtered w e);
          steps = λ w e. subst (EachStep FineStep) (some-injective filtered w e) (fine_node 0 (omega arith), q.steps);
        }

    module _ (earlier : (p : ℕ) → p < i → (row_at rs p).kind ≤ 5 → BackLaw p (way_back (path_at rs p))) where
      back_part : (p : ℕ) → p < i → (row_at rs p).kind ≤ 5 → PartLaw i (back p) (way_back (path_at rs p))
      unfolding part_nesting part_put
      back_part p l k =
          let law = earlier p l k in
          record {
            nest = get_or-take i (back_nestings rs) p 0 l ∙ law.nest;
            puts = λ ts longer w e.
                ap (λ (f : List Row → Put). f ts) (get_or-take i (back_puts rs) p nothing l) ∙ law.puts ts longer w e;
            steps = law.steps;
          }

      step_law : x.kind ≡ 2 → BackLaw i (way_back (path_at rs i))
      unfolding way_back put_path nest_path joined_put joined
      step_law e = subst (λ (p : Path). BackLaw i (way_back p)) (sym (step_path rs i e)) (by (opposite x.a) refl)
        where
          by : (o : Option ℕ) → opposite x.a ≡ o → BackLaw i (way_back (AxisStep x.a x.b x.c))
          by none q =
              none_back (kind_known 2 e ∙ ap (map (step_reversal x)) q) (way_back (AxisStep x.a x.b x.c))
              (ap (map (λ b. step_back b x.b x.c)) q)
          by (some b) q =
              let held = path_again built rs (none_new rs) i h (omega (arith, e)) in
              let fine : FineStep x.a x.b x.c = subst (EachStep FineStep) (step_path rs i e) held.steps in
              let law =
              joined_back Composition 4 (λ p q. refl) (λ p q ts. refl) (λ p q a b. (a, b))
              (step (row step_row 0 x.b x.c)) (step (row step_row b 2 0)) (kind_known 2 e ∙ ap (map (step_reversal x)) q)
              (some (AxisStep 0 x.b x.c)) (some (AxisStep b 2 0)) (step_part 0 x.b x.c (fine_self x.a x.b x.c fine))
              (step_part b 2 0 (fine_node b (opposite_small x.a b q))) in
              subst (BackLaw i) (sym (ap (map (λ b. step_back b x.b x.c)) q)) law

      -- by the kind of row i; a path whose form is known
      path_law : {p : Path} → path_at rs i ≡ p → BackLaw i (way_back p) → BackLaw i (way_back (path_at rs i))
      path_law e law = subst (λ (p : Path). BackLaw i (way_back p)) (sym e) law

      level_law : {k : ℕ} → Kind k → x.kind ≡ k → k ≤ 5 → BackLaw i (way_back (path_at rs i))
      unfolding way_back put_path nest_path joined_put fields_of
      level_law void_kind e l = none_back (kind_known 0 e) _ (ap way_back (void_at built i h e))
      level_law root_kind e l = none_back (kind_known 1 e) _ (ap way_back (root_at built i h e))
      level_law step_kind e l = step_law e
      level_law union_kind e l =
          let (a, b) = fields_of_kind built i h 3 e in
          path_law (union_at built i h e)
          (joined_back Union 3 (λ p q. refl) (λ p q ts. refl) (λ p q a b. (a, b)) (back x.a) (back x.b) (kind_known 3 e)
          (way_back (path_at rs x.a)) (way_back (path_at rs x.b)) (back_part x.a a.0 a.1) (back_part x.b b.0 b.1))
      level_law composition_kind e l =
          let (a, b) = fields_of_kind built i h 4 e in
          path_law (composition_at built i h e)
          (joined_back Composition 4 (λ p q. refl) (λ p q ts. refl) (λ p q a b. (a, b)) (back x.b) (back x.a)
          (kind_known 4 e) (way_back (path_at rs x.b)) (way_back (path_at rs x.a)) (back_part x.b b.0 b.1)
          (back_part x.a a.0 a.1))
      level_law filter_kind e l =
          let (a, b) = fields_of_kind built i h 5 e in
          let filtered : Option Path = some (Filter (AxisStep 0 2 0) (qualifier_at rs x.b)) in
          let law =
          joined_back Composition 4 (λ p q. refl) (λ p q ts. refl) (λ p q a b. (a, b)) (filter x.b) (back x.a)
          (kind_known 5 e) filtered (way_back (path_at rs x.a)) (filter_part x.b (omega (arith, b.0, h)) b.1 b.2)
          (back_part x.a a.0 a.1) in
          path_law (filter_at built i h e)
          (subst (BackLaw i) (filter_joined (qualifier_at rs x.b) (way_back (path_at rs x.a))) law)
      level_law true_kind e l = absurd (omega arith)
      level_law false_kind e l = absurd (omega arith)
      level_law not_kind e l = absurd (omega arith)
      level_law and_kind e l = absurd (omega arith)
      level_law or_kind e l = absurd (omega arith)
      level_law in_kind e l = absurd (omega arith)

  below_law : (n i : ℕ) → i < n → i < length rs → (row_at rs i).kind ≤ 5 → BackLaw i (way_back (path_at rs i))
  below_law zero i l h k = absurd (omega arith)
  below_law (suc n) i l h k =
      level_law i h (λ p m. below_law n p (omega arith) (omega arith)) (kind_of_lem (row_at rs i).kind (omega arith)) refl k

  -- on a held path: the nesting of its way back, 0 for none, the rows that are put for it, and its steps
  pub back_law : (i : ℕ) → i < length rs → (row_at rs i).kind ≤ 5 → BackLaw i (way_back (path_at rs i))
  back_law i = below_law (suc i) i (omega arith)
