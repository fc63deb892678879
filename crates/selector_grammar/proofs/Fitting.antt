-- The steps of a text's term have well-formed rows: axes and tests are of the tables, names of the list.
use Prim.Native.Nat.{ℕ, zero, suc, ◌+◌, ◌-◌, ◌<◌, ◌≤◌}
use mathlib.Core.Path.{◌≡◌, refl, sym, ap}
use mathlib.Core.Bool.{Bool, true, false, cond}
use mathlib.Core.List.{List, [], ◌∷◌, ◌++◌}
use mathlib.Core.Option.{Option, none, some}
use native.Mathlib.Omega.{arith}
use Rattle.std.proofs.lemmas.Bool.{false≢true}
use lib.Dec.{eqb}
use lib.ListN.{length}
use borrow.Author.Tests.{le-leb}
use Rattle.common.specs.Axes.{max_axis}
use Rattle.lines.specs.Number.{max_number}
use Rattle.xpath.specs.Term as term
use Rattle.terms.specs.Fields.{fields_of, field_ok}
use Rattle.terms.specs.Nesting.{operand_nesting, nesting_by, nesting}
use Rattle.lines.specs.Line.{same_bytes}
use Rattle.selector_grammar.specs.Bytes.{Bytes}
use Rattle.selector_grammar.specs.Words.{find, next, is_some, or_zero, axes, types}
use Rattle.selector_grammar.specs.Grammar.{Axis, implied, attribute, axis, Test, any, called, kind, target}
use Rattle.selector_grammar.specs.Grammar.{LocationStep}
use Rattle.selector_grammar.specs.Grammar.{dot, dots, test, filter, Rel, one, slash, slashes, Path, relative, root}
use Rattle.selector_grammar.specs.Grammar.{rooted, anywhere, Union, single, union, Unary, paths, group, negation}
use Rattle.selector_grammar.specs.Grammar.{constant, And, operand, conj, Or, alone, disj, FineAxis, FineTest, FineStep}
use Rattle.selector_grammar.specs.Grammar.{FineRel, FinePath, FineUnion, FineUnary, FineAnd, FineOr}
use Rattle.selector_grammar.specs.Denotes.{axis_of, test_of, constant_of, step_of, rel_of, rel_after, path_of, union_of}
use Rattle.selector_grammar.specs.Denotes.{unary_of}
use Rattle.selector_grammar.specs.Denotes.{and_of, or_of, Named, test_names, step_names, rel_names, path_names}
use Rattle.selector_grammar.specs.Denotes.{union_names}
use Rattle.selector_grammar.specs.Denotes.{unary_names, and_names, or_names, unlisted}
use Rattle.selector_grammar.proofs.Stands.{well_formed_lem, StepFits, PathFits, QualifierFits}

-- a word that is found stands in the list
found_first : (k : ℕ) (b : Bool) (o : Option ℕ) → (is_some o ≡ true → or_zero o < k)
    → is_some (cond b (some 0) (next o)) ≡ true → or_zero (cond b (some 0) (next o)) < suc k
unfolding is_some or_zero next
found_first k true o h e = omega arith
found_first k false none h e = absurd (false≢true e)
found_first k false (some i) h e = omega (arith, h refl)

find_below : (n : Bytes) (ms : List Bytes) → is_some (find n ms) ≡ true → or_zero (find n ms) < length ms
unfolding find is_some
find_below n [] e = absurd (false≢true e)
find_below n (m ∷ ms) e = found_first (length ms) (same_bytes n m) (find n ms) (find_below n ms) e

axis_below_lem : (n : Bytes) → is_some (find n axes) ≡ true → or_zero (find n axes) ≤ max_axis
unfolding axes
axis_below_lem n e = omega (arith, find_below n axes e)

type_below : (n : Bytes) → is_some (find n types) ≡ true → or_zero (find n types) ≤ 3
unfolding types
type_below n e = omega (arith, find_below n types e)

-- a name, `*`, a target and node types
module _ (a : ℕ) (h : a ≤ max_axis) where
  called_fits : (c : ℕ) → 1 ≤ c → c ≤ max_number → StepFits a 0 c
  unfolding fields_of field_ok nesting nesting_by operand_nesting
  called_fits c l m = (
    λ rs. well_formed_lem rs 2 a 0 c (omega arith) (le-leb a max_axis h) refl (le-leb 1 c l) (omega arith),
    m,
  )

  any_fits : StepFits a 1 0
  unfolding fields_of field_ok nesting nesting_by operand_nesting
  any_fits = (λ rs. well_formed_lem rs 2 a 1 0 (omega arith) (le-leb a max_axis h) refl refl (omega arith), omega arith)

  target_fits : (c : ℕ) → 1 ≤ c → c ≤ max_number → StepFits a 6 c
  unfolding fields_of field_ok nesting nesting_by operand_nesting
  target_fits c l m = (
    λ rs. well_formed_lem rs 2 a 6 c (omega arith) (le-leb a max_axis h) refl (le-leb 1 c l) (omega arith),
    m,
  )

  type_fits : (k : ℕ) → k ≤ 3 → StepFits a (2 + k) 0
  unfolding fields_of field_ok nesting nesting_by operand_nesting
  type_fits zero l =
      (λ rs. well_formed_lem rs 2 a 2 0 (omega arith) (le-leb a max_axis h) refl refl (omega arith), omega arith)
  type_fits (suc zero) l =
      (λ rs. well_formed_lem rs 2 a 3 0 (omega arith) (le-leb a max_axis h) refl refl (omega arith), omega arith)
  type_fits (suc (suc zero)) l =
      (λ rs. well_formed_lem rs 2 a 4 0 (omega arith) (le-leb a max_axis h) refl refl (omega arith), omega arith)
  type_fits (suc (suc (suc zero))) l =
      (λ rs. well_formed_lem rs 2 a 5 0 (omega arith) (le-leb a max_axis h) refl refl (omega arith), omega arith)
  type_fits (suc (suc (suc (suc k)))) l = absurd (omega arith)

axis_fits : (x : Axis) → FineAxis x → axis_of x ≤ max_axis
unfolding axis_of
axis_fits implied h = omega arith
axis_fits (attribute w) h = omega arith
axis_fits (axis w n v) h = axis_below_lem n h.1

some_none : (i : ℕ) → some i ≡ none → ⊥
unfolding is_some
some_none i e = false≢true (sym (ap is_some e))

-- names that are all listed, in two lists one after the other
module _ (num : Bytes → ℕ) where
  both_listed : (xs ys : List Named) → unlisted num (xs ++ ys) ≡ none
      → (unlisted num xs ≡ none) × (unlisted num ys ≡ none)
  unfolding unlisted
  both_listed [] ys e = (refl, e)
  both_listed (x ∷ xs) ys e = go (eqb (num x.name) 0) (both_listed xs ys) e
    where
      go : (b : Bool)
          → (unlisted num (xs ++ ys) ≡ none → (unlisted num xs ≡ none) × (unlisted num ys ≡ none))
          → cond b (some x.place) (unlisted num (xs ++ ys)) ≡ none
          → (cond b (some x.place) (unlisted num xs) ≡ none) × (unlisted num ys ≡ none)
      go true f e = absurd (some_none x.place e)
      go false f e = f e

  one_listed : (i : ℕ) (n : Bytes) → unlisted num (record { place = i; name = n } ∷ []) ≡ none → 1 ≤ num n
  unfolding unlisted
  one_listed i n e = go (num n) e
    where
      go : (k : ℕ) → cond (eqb k 0) (some i) none ≡ none → 1 ≤ k
      go zero e = absurd (some_none i e)
      go (suc k) e = omega arith

-- the trees of a text whose names are all listed, with numbers of 16 bits
module _ (num : Bytes → ℕ) (most : (n : Bytes) → num n ≤ max_number) where
  test_fits : (a : ℕ) (t : Test) (i : ℕ) → a ≤ max_axis → FineTest t → unlisted num (test_names i t) ≡ none
      → PathFits (test_of num a t)
  unfolding test_of test_names
  test_fits a (any w) i l h e = any_fits a l
  test_fits a (called w n) i l h e = called_fits a l (num n) (one_listed num _ n e) (most n)
  test_fits a (kind w n v u) i l h e = type_fits a l (or_zero (find n types)) (type_below n h.1)
  test_fits a (target w v u q m y) i l h e = target_fits a l (num m) (one_listed num _ m e) (most m)

  constant_fits : (b : Bool) → QualifierFits (constant_of b)
  unfolding constant_of
  constant_fits true = tt
  constant_fits false = tt

  below_fits : StepFits 5 2 0
  below_fits = type_fits 5 (omega arith) 0 (omega arith)

  mutual
    unfolding step_of rel_of rel_after path_of union_of unary_of and_of or_of step_names rel_names path_names
        union_names unary_names
        and_names or_names

    step_fits : (s : LocationStep) (d i : ℕ) → FineStep s d → unlisted num (step_names s i) ≡ none
        → PathFits (step_of num s)
    step_fits (dot w) d i h e = type_fits 0 (omega arith) 0 (omega arith)
    step_fits (dots w) d i h e = type_fits 2 (omega arith) 0 (omega arith)
    step_fits (test a t) d i h e = test_fits (axis_of a) t _ (axis_fits a h.0) h.1 e
    step_fits (filter s w f v) d i h e =
        let l = both_listed num (step_names s i) _ e in
        (step_fits s d i h.0 l.0, or_fits f (d - 1) _ h.4 l.1)

    rel_fits : (r : Rel) (d i : ℕ) → FineRel r d → unlisted num (rel_names r i) ≡ none → PathFits (rel_of num r)
    rel_fits (one s) d i h e = step_fits s d i h e
    rel_fits (slash r w s) d i h e =
        let l = both_listed num (rel_names r i) _ e in (rel_fits r d i h.0 l.0, step_fits s d _ h.2 l.1)
    rel_fits (slashes r w s) d i h e =
        let l = both_listed num (rel_names r i) _ e in
        ((rel_fits r d i h.0 l.0, below_fits), step_fits s d _ h.2 l.1)

    after_fits : (r : Rel) (d i : ℕ) (p : term.Path) → PathFits p → FineRel r d → unlisted num (rel_names r i) ≡ none
        → PathFits (rel_after num r p)
    after_fits (one s) d i p g h e = (g, step_fits s d i h e)
    after_fits (slash r w s) d i p g h e =
        let l = both_listed num (rel_names r i) _ e in
        (after_fits r d i p g h.0 l.0, step_fits s d _ h.2 l.1)
    after_fits (slashes r w s) d i p g h e =
        let l = both_listed num (rel_names r i) _ e in
        ((after_fits r d i p g h.0 l.0, below_fits), step_fits s d _ h.2 l.1)

    path_fits : (p : Path) (d i : ℕ) → FinePath p d → unlisted num (path_names p i) ≡ none → PathFits (path_of num p)
    path_fits (relative r) d i h e = rel_fits r d i h e
    path_fits (root w) d i h e = tt
    path_fits (rooted w r) d i h e = after_fits r d _ term.Root tt h.1 e
    path_fits (anywhere w r) d i h e = after_fits r d _ _ (tt, below_fits) h.1 e

    pub union_fits : (u : Union) (d i : ℕ) → FineUnion u d → unlisted num (union_names u i) ≡ none
        → PathFits (union_of num u)
    union_fits (single p) d i h e = path_fits p d i h e
    union_fits (union u w p) d i h e =
        let l = both_listed num (union_names u i) _ e in (union_fits u d i h.0 l.0, path_fits p d _ h.2 l.1)

    unary_fits : (u : Unary) (d i : ℕ) → FineUnary u d → unlisted num (unary_names u i) ≡ none
        → QualifierFits (unary_of num u)
    unary_fits (paths u) d i h e = (union_fits u d i h e, tt)
    unary_fits (group w f v) d i h e = or_fits f (d - 1) _ h.2 e
    unary_fits (negation w v f u) d i h e = or_fits f (d - 1) _ h.3 e
    unary_fits (constant b w v u) d i h e = constant_fits b

    and_fits : (a : And) (d i : ℕ) → FineAnd a d → unlisted num (and_names a i) ≡ none → QualifierFits (and_of num a)
    and_fits (operand u) d i h e = unary_fits u d i h e
    and_fits (conj a w u) d i h e =
        let l = both_listed num (and_names a i) _ e in (and_fits a d i h.0 l.0, unary_fits u d _ h.2 l.1)

    or_fits : (o : Or) (d i : ℕ) → FineOr o d → unlisted num (or_names o i) ≡ none → QualifierFits (or_of num o)
    or_fits (alone a) d i h e = and_fits a d i h e
    or_fits (disj o w a) d i h e =
        let l = both_listed num (or_names o i) _ e in (or_fits o d i h.0 l.0, and_fits a d _ h.2 l.1)
