-- The laws of abbreviations and of predicates.
use Prim.Native.Nat.{ℕ, zero, suc, ◌<◌}
use mathlib.Core.Path.{◌≡◌, refl, sym, ap}
use mathlib.Core.Bool.{Bool, true, false, not, ◌&&◌, ◌||◌}
use native.Mathlib.Omega.{arith}
use lib.Dec.{ltb, eqb}
use lib.ListN.{length}
use borrow.Author.Tests.{lt-ltb, ne_eqb}
use Rattle.common.specs.Bounded.{any_below, all_below}
use Rattle.common.proofs.Reflect.{or-false}
use Rattle.lines.specs.Ascii.{ascii}
use Rattle.xpath.specs.Document.{Document}
use Rattle.xpath.specs.Term as term
use Rattle.xpath.specs.Meaning.{selects, holds}
use Rattle.lines.specs.Line.{same_bytes}
use Rattle.selector_grammar.specs.Bytes.{Bytes}
use Rattle.selector_grammar.specs.Words.{find, next, or_zero, axes, types}
use Rattle.selector_grammar.specs.Grammar.{Rel, one, slash, slashes}
use Rattle.selector_grammar.specs.Denotes.{axis_of, test_of, constant_of, step_of, rel_of, rel_after, path_of, union_of}
use Rattle.selector_grammar.specs.Denotes.{unary_of}
use Rattle.selector_grammar.specs.Denotes.{and_of, or_of, every_below}
use Rattle.common.proofs.Tests.{any_cong}
use Rattle.selector_grammar.specs.Abbreviations.{unabbreviated, any_node, before, Expansions, Meanings, Expanded, Meant}

-- of a test that only 0 can pass
only_zero : (n m : ℕ) (f : ℕ → Bool) → 0 < n → 0 < m → any_below n (λ z. ltb z m && eqb z 0 && f z) ≡ f 0
unfolding any_below
only_zero zero m f h k = absurd (omega arith)
only_zero (suc zero) m f h k = rw (lt-ltb 0 m k) refl
only_zero (suc (suc n)) m f h k =
    rw (only_zero (suc n) m f (omega arith) k, ne_eqb (suc n) 0 (λ e. omega arith))
    (last (ltb (suc n) m) (f (suc n)) (f 0))
  where
    last : (a b c : Bool) → (c || (a && false && b)) ≡ c
    last true b c = or-false c
    last false b c = or-false c

-- some p: not all that p selects is void
some_passes : (n : ℕ) (f : ℕ → Bool) → not (all_below n (λ y. not (f y) || false)) ≡ any_below n f
unfolding any_below all_below
some_passes zero f = refl
some_passes (suc n) f = go (all_below n (λ y. not (f y) || false)) (f n) (any_below n f) (some_passes n f)
  where
    go : (a b c : Bool) → not a ≡ c → not (a && (not b || false)) ≡ (c || b)
    go true true c e = rw (sym e) refl
    go true false c e = rw (sym e) refl
    go false b c e = rw (sym e) refl

-- steps after the root, and a step in front of others
module _ (num : Bytes → ℕ) where
  before_after : (r : Rel) (p : term.Path) → rel_after num (before (unabbreviated "descendant-or-self" any_node) r) p
      ≡ rel_after num r (term.Composition p every_below)
  unfolding before rel_after step_of test_of axis_of find next or_zero axes types same_bytes ascii
  before_after (one s) p = refl
  before_after (slash r w s) p = ap (λ (q : term.Path). term.Composition q (step_of num s)) (before_after r p)
  before_after (slashes r w s) p =
      ap (λ (q : term.Path). term.Composition (term.Composition q every_below) (step_of num s)) (before_after r p)

  pub expansions : Expansions num
  unfolding step_of rel_of path_of test_of axis_of find next or_zero axes types same_bytes ascii
  expansions =
      record {
        child = λ t. refl;
        attributes = λ w t. refl;
        self = λ w. refl;
        parent = λ w. refl;
        below = λ r w s. refl;
        anywhere = λ w r. sym (before_after r term.Root);
      }

  module _ (d : Document) (some-node : 0 < length d) (x : ℕ) where
    from_root : (r : Rel) (y : ℕ) → selects d (rel_after num r term.Root) x y ≡ selects d (rel_of num r) 0 y
    unfolding rel_after rel_of selects
    from_root (one s) y = only_zero (length d) (length d) (λ z. selects d (step_of num s) z y) some-node some-node
    from_root (slash r w s) y =
        any_cong _ _ (length d) (λ z _. ap (λ (b : Bool). b && selects d (step_of num s) z y) (from_root r z))
    from_root (slashes r w s) y =
        any_cong _ _ (length d) (λ z _. ap (λ (b : Bool). b && selects d (step_of num s) z y)
        (any_cong _ _ (length d) (λ v _. ap (λ (b : Bool). b && selects d every_below v z) (from_root r v))))

    constant_means : (b : Bool) → holds d (constant_of b) x ≡ b
    unfolding constant_of holds
    constant_means true = refl
    constant_means false = refl

    pub meanings : Meanings num d x
    unfolding step_of rel_of path_of union_of unary_of and_of or_of selects holds
    meanings =
        record {
          root = λ w y. refl;
          rooted = λ w r y. from_root r y;
          chain = λ r w s y. refl;
          either = λ u w p y. refl;
          predicate = λ s w e v y. refl;
          some = λ u. some_passes (length d) (selects d (union_of num u) x);
          group = λ w e v. refl;
          negation = λ w v e u. refl;
          constant = λ b w v u. constant_means b;
          both = λ a w u. refl;
          one_of = λ o w a. refl;
        }

pub expanded : Expanded
expanded num = expansions num

pub meant : Meant
meant num d h x = meanings num d h x
