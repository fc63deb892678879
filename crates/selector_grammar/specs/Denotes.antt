-- The term of a tree, the names in it with their places, and the rows that a term needs.
use Rattle.std.specs.Prelude.{ℕ, suc, ◌+◌, max, Bool, true, false, cond, List, [], ◌∷◌, ◌++◌, eqb, ltb, length}
use Rattle.std.proofs.Math.Option.{Option, none, some}
use Rattle.selector_grammar.specs.Bytes.{Bytes, not_word}
use Rattle.selector_grammar.specs.Bytes.{open_byte, slash_byte, open_bracket, bar_byte, letter_a, letter_d, letter_n}
use Rattle.selector_grammar.specs.Bytes.{letter_o, letter_r}
use Rattle.selector_grammar.specs.Words.{axis_code, type_code, instruction_word}
use Rattle.common.specs.Axes.{self, child, parent, descendant_or_self, attribute as attribute-axis}
use Rattle.common.specs.NodeTests.{name_test, star_test, node_test, target_test}
use Rattle.common.specs.RowKinds.{void_row, root_row, step_row, union_row, composition_row, filter_row, true_row}
use Rattle.common.specs.RowKinds.{false_row, not_row, and_row, or_row, inclusion_row}
use Rattle.xpath.specs.Term as term
use Rattle.xpath.specs.Term.{some_of}
use Rattle.terms.specs.Row.{Row, row, find}
use Rattle.selector_grammar.specs.Grammar.{Axis, implied, attribute, axis, Test, any, called, kind, target}
use Rattle.selector_grammar.specs.Grammar.{LocationStep}
use Rattle.selector_grammar.specs.Grammar.{dot, dots, test, filter, Rel, one, slash, slashes, Path, relative, root}
use Rattle.selector_grammar.specs.Grammar.{rooted, anywhere, Union, single, union, Unary, paths, group, negation}
use Rattle.selector_grammar.specs.Grammar.{constant, And, operand, conj, Or, alone, disj, spell_axis}
use Rattle.selector_grammar.specs.Grammar.{spell_step, spell_rel, spell_union, spell_and}
use Rattle.selector_grammar.specs.Grammar.{spell_or}

unfoldable pub axis_of : Axis → ℕ
axis_of implied = child
axis_of (attribute w) = attribute-axis
axis_of (axis w n v) = axis_code n

-- descendant-or-self::node()
abbrev pub every_below : term.Path
every_below = term.AxisStep descendant_or_self node_test 0

unfoldable pub constant_of : Bool → term.Qualifier
constant_of true = term.True
constant_of false = term.False

module _ (num : Bytes → ℕ) where
  unfoldable pub test_of : ℕ → Test → term.Path
  test_of a (any w) = term.AxisStep a star_test 0
  test_of a (called w n) = term.AxisStep a name_test (num n)
  test_of a (kind w n v u) = term.AxisStep a (type_code n) 0
  test_of a (target w v u q m y) = term.AxisStep a target_test (num m)

  unfoldable mutual
    pub step_of : LocationStep → term.Path
    step_of (dot w) = term.AxisStep self node_test 0
    step_of (dots w) = term.AxisStep parent node_test 0
    step_of (test a t) = test_of (axis_of a) t
    step_of (filter s w e v) = term.Filter (step_of s) (or_of e)

    -- steps grouped from the left
    pub rel_of : Rel → term.Path
    rel_of (one s) = step_of s
    rel_of (slash r w s) = term.Composition (rel_of r) (step_of s)
    rel_of (slashes r w s) = term.Composition (term.Composition (rel_of r) every_below) (step_of s)

    -- the same after the path p
    pub rel_after : Rel → term.Path → term.Path
    rel_after (one s) = λ p. term.Composition p (step_of s)
    rel_after (slash r w s) = λ p. term.Composition (rel_after r p) (step_of s)
    rel_after (slashes r w s) = λ p. term.Composition (term.Composition (rel_after r p) every_below) (step_of s)

    pub path_of : Path → term.Path
    path_of (relative r) = rel_of r
    path_of (root w) = term.Root
    path_of (rooted w r) = rel_after r term.Root
    path_of (anywhere w r) = rel_after r (term.Composition term.Root every_below)

    pub union_of : Union → term.Path
    union_of (single p) = path_of p
    union_of (union u w p) = term.Union (union_of u) (path_of p)

    pub unary_of : Unary → term.Qualifier
    unary_of (paths u) = some_of (union_of u)
    unary_of (group w e v) = or_of e
    unary_of (negation w v e u) = term.Not (or_of e)
    unary_of (constant b w v u) = constant_of b

    pub and_of : And → term.Qualifier
    and_of (operand u) = unary_of u
    and_of (conj a w u) = term.And (and_of a) (unary_of u)

    pub or_of : Or → term.Qualifier
    or_of (alone a) = and_of a
    or_of (disj o w a) = term.Or (or_of o) (and_of a)

-- a name, of a test or of a target, and the place of its first byte
pub record Named : Type 0 where
  pub place : ℕ
  pub name : Bytes

unfoldable pub test_names : ℕ → Test → List Named
test_names i (any w) = []
test_names i (called w n) = record { place = i + length w; name = n } ∷ []
test_names i (kind w n v u) = []
test_names i (target w v u q m y) =
    record { place = i + length (w ++ (instruction_word ++ (v ++ (open_byte ∷ (u ++ (q ∷ [])))))); name = m } ∷ []

-- the names of a tree that begins at place i, of tests and of targets, in order
unfoldable mutual
  pub step_names : LocationStep → ℕ → List Named
  step_names (dot w) i = []
  step_names (dots w) i = []
  step_names (test a t) i = test_names (i + length (spell_axis a)) t
  step_names (filter s w e v) i = step_names s i ++ or_names e (i + length (spell_step s ++ (w ++ (open_bracket ∷ []))))

  pub rel_names : Rel → ℕ → List Named
  rel_names (one s) i = step_names s i
  rel_names (slash r w s) i = rel_names r i ++ step_names s (i + length (spell_rel r ++ (w ++ (slash_byte ∷ []))))
  rel_names (slashes r w s) i =
      rel_names r i ++ step_names s (i + length (spell_rel r ++ (w ++ (slash_byte ∷ slash_byte ∷ []))))

  pub path_names : Path → ℕ → List Named
  path_names (relative r) i = rel_names r i
  path_names (root w) i = []
  path_names (rooted w r) i = rel_names r (i + length (w ++ (slash_byte ∷ [])))
  path_names (anywhere w r) i = rel_names r (i + length (w ++ (slash_byte ∷ slash_byte ∷ [])))

  pub union_names : Union → ℕ → List Named
  union_names (single p) i = path_names p i
  union_names (union u w p) i = union_names u i ++ path_names p (i + length (spell_union u ++ (w ++ (bar_byte ∷ []))))

  pub unary_names : Unary → ℕ → List Named
  unary_names (paths u) i = union_names u i
  unary_names (group w e v) i = or_names e (i + length (w ++ (open_byte ∷ [])))
  unary_names (negation w v e u) i = or_names e (i + length (w ++ (not_word ++ (v ++ (open_byte ∷ [])))))
  unary_names (constant b w v u) i = []

  pub and_names : And → ℕ → List Named
  and_names (operand u) i = unary_names u i
  and_names (conj a w u) i =
      and_names a i ++ unary_names u (i + length (spell_and a ++ (w ++ (letter_a ∷ letter_n ∷ letter_d ∷ []))))

  pub or_names : Or → ℕ → List Named
  or_names (alone a) i = and_names a i
  or_names (disj o w a) i = or_names o i ++ and_names a (i + length (spell_or o ++ (w ++ (letter_o ∷ letter_r ∷ []))))

-- the place of the first name that is not in the list
unfoldable pub unlisted : (Bytes → ℕ) → List Named → Option ℕ
unlisted num [] = none
unlisted num (x ∷ xs) = cond (eqb (num x.name) 0) (some x.place) (unlisted num xs)

-- rows and the number of the row put last
pub record Put : Type 0 where
  pub rows : List Row
  pub at : ℕ

-- a row held already is used again, else it goes to the end
unfoldable pub put : List Row → Row → Put
put rs r = record { rows = cond (ltb (find rs r) (length rs)) rs (rs ++ (r ∷ [])); at = find rs r }

-- operands first, left first
unfoldable mutual
  pub put_path : term.Path → List Row → Put
  put_path term.Void rs = put rs (row void_row 0 0 0)
  put_path term.Root rs = put rs (row root_row 0 0 0)
  put_path (term.AxisStep a t c) rs = put rs (row step_row a t c)
  put_path (term.Union p q) rs =
      let x = put_path p rs in let y = put_path q x.rows in put y.rows (row union_row x.at y.at 0)
  put_path (term.Composition p q) rs =
      let x = put_path p rs in let y = put_path q x.rows in put y.rows (row composition_row x.at y.at 0)
  put_path (term.Filter p f) rs =
      let x = put_path p rs in let y = put_qual f x.rows in put y.rows (row filter_row x.at y.at 0)

  pub put_qual : term.Qualifier → List Row → Put
  put_qual term.True rs = put rs (row true_row 0 0 0)
  put_qual term.False rs = put rs (row false_row 0 0 0)
  put_qual (term.Not f) rs = let x = put_qual f rs in put x.rows (row not_row x.at 0 0)
  put_qual (term.And f g) rs =
      let x = put_qual f rs in let y = put_qual g x.rows in put y.rows (row and_row x.at y.at 0)
  put_qual (term.Or f g) rs =
      let x = put_qual f rs in let y = put_qual g x.rows in put y.rows (row or_row x.at y.at 0)
  put_qual (term.In p q) rs =
      let x = put_path p rs in let y = put_path q x.rows in put y.rows (row inclusion_row x.at y.at 0)

unfoldable mutual
  pub nest_path : term.Path → ℕ
  nest_path term.Void = 1
  nest_path term.Root = 1
  nest_path (term.AxisStep a t c) = 1
  nest_path (term.Union p q) = suc (max (nest_path p) (nest_path q))
  nest_path (term.Composition p q) = suc (max (nest_path p) (nest_path q))
  nest_path (term.Filter p f) = suc (max (nest_path p) (nest_qual f))

  pub nest_qual : term.Qualifier → ℕ
  nest_qual term.True = 1
  nest_qual term.False = 1
  nest_qual (term.Not f) = suc (nest_qual f)
  nest_qual (term.And f g) = suc (max (nest_qual f) (nest_qual g))
  nest_qual (term.Or f g) = suc (max (nest_qual f) (nest_qual g))
  nest_qual (term.In p q) = suc (max (nest_path p) (nest_path q))
