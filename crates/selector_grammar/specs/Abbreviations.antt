-- What the abbreviations of XPath 1.0, clause 2.5, stand for, and what is meant in predicates: laws of the terms of
-- trees.
use Rattle.std.specs.Prelude.{ℕ, ◌<◌, ◌≡◌, Bool, not, ◌&&◌, ◌||◌, [], ltb, eqb, length}
use Prim.Native.String.{String}
use Rattle.common.specs.Bounded.{any_below}
use Rattle.lines.specs.Ascii.{ascii}
use Rattle.xpath.specs.Document.{Document}
use Rattle.xpath.specs.Meaning.{selects, holds}
use Rattle.selector_grammar.specs.Bytes.{Bytes}
use Rattle.selector_grammar.specs.Grammar.{implied, attribute, axis, Test, kind, LocationStep, dot, dots, test, filter}
use Rattle.selector_grammar.specs.Grammar.{Rel, one}
use Rattle.selector_grammar.specs.Grammar.{slash, slashes, Path, relative, root, rooted, anywhere, Union, union}
use Rattle.selector_grammar.specs.Grammar.{Unary, paths, group, negation, constant, And, conj, Or, disj}
use Rattle.selector_grammar.specs.Denotes.{step_of, rel_of, path_of, union_of, unary_of, and_of, or_of}

-- a step with its axis written out, and node()
abbrev pub unabbreviated : String → Test → LocationStep
unabbreviated a t = test (axis [] (ascii a) []) t

abbrev pub any_node : Test
any_node = kind [] (ascii "node") [] []

-- `/` between a step and further steps
unfoldable pub before : LocationStep → Rel → Rel
before s (one t) = slash (one s) [] t
before s (slash r w t) = slash (before s r) w t
before s (slashes r w t) = slashes (before s r) w t

-- an abbreviation has the very term of what it stands for, so it selects the same nodes of every document
pub record Expansions (num : Bytes → ℕ) : Type 0 where
  -- child by default, `@`, `.` and `..`
  pub child : (t : Test) → step_of num (test implied t) ≡ step_of num (unabbreviated "child" t)
  pub attributes : (w : Bytes) (t : Test) → step_of num (test (attribute w) t)
      ≡ step_of num (unabbreviated "attribute" t)
  pub self : (w : Bytes) → step_of num (dot w) ≡ step_of num (unabbreviated "self" any_node)
  pub parent : (w : Bytes) → step_of num (dots w) ≡ step_of num (unabbreviated "parent" any_node)
  -- `//` is `/descendant-or-self::node()/`, at the beginning too
  pub below : (r : Rel) (w : Bytes) (s : LocationStep)
      → rel_of num (slashes r w s) ≡ rel_of num (slash (slash r w (unabbreviated "descendant-or-self" any_node)) [] s)
  pub anywhere : (w : Bytes) (r : Rel)
      → path_of num (anywhere w r) ≡ path_of num (rooted w (before (unabbreviated "descendant-or-self" any_node) r))

-- on a document, which has a root, from node x
pub record Meanings (num : Bytes → ℕ) (d : Document) (x : ℕ) : Type 0 where
  -- `/` selects the root; after a leading `/`, what follows it selects from the root
  pub root : (w : Bytes) (y : ℕ) → selects d (path_of num (root w)) x y ≡ (ltb y (length d) && eqb y 0)
  pub rooted : (w : Bytes) (r : Rel) (y : ℕ)
      → selects d (path_of num (rooted w r)) x y ≡ selects d (path_of num (relative r)) 0 y
  -- a step is taken from every node that the steps before it select
  pub chain : (r : Rel) (w : Bytes) (s : LocationStep) (y : ℕ)
      → selects d (rel_of num (slash r w s)) x y
      ≡ any_below (length d) (λ z. selects d (rel_of num r) x z && selects d (step_of num s) z y)
  -- a union selects what either path does
  pub either : (u : Union) (w : Bytes) (p : Path) (y : ℕ)
      → selects d (union_of num (union u w p)) x y ≡ (selects d (union_of num u) x y || selects d (path_of num p) x y)
  -- a predicate keeps the nodes at which it is true
  pub predicate : (s : LocationStep) (w : Bytes) (e : Or) (v : Bytes) (y : ℕ)
      → selects d (step_of num (filter s w e v)) x y ≡ (selects d (step_of num s) x y && holds d (or_of num e) y)
  -- a path or union is true where it selects some node
  pub some : (u : Union) → holds d (unary_of num (paths u)) x ≡ any_below (length d) (selects d (union_of num u) x)
  -- groups, `not`, `true()` and `false()`
  pub group : (w : Bytes) (e : Or) (v : Bytes) → holds d (unary_of num (group w e v)) x ≡ holds d (or_of num e) x
  pub negation : (w v : Bytes) (e : Or) (u : Bytes)
      → holds d (unary_of num (negation w v e u)) x ≡ not (holds d (or_of num e) x)
  pub constant : (b : Bool) (w v u : Bytes) → holds d (unary_of num (constant b w v u)) x ≡ b
  -- `and` and `or`
  pub both : (a : And) (w : Bytes) (u : Unary)
      → holds d (and_of num (conj a w u)) x ≡ (holds d (and_of num a) x && holds d (unary_of num u) x)
  pub one_of : (o : Or) (w : Bytes) (a : And)
      → holds d (or_of num (disj o w a)) x ≡ (holds d (or_of num o) x || holds d (and_of num a) x)

abbrev pub Expanded : Type 0
Expanded = (num : Bytes → ℕ) → Expansions num

abbrev pub Meant : Type 0
Meant = (num : Bytes → ℕ) (d : Document) → 0 < length d → (x : ℕ) → Meanings num d x
