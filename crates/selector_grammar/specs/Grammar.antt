-- The grammar of selectors: XPath 1.0 cut down. A constructor is a production; a tree keeps the whitespace before each
-- of its tokens, so `spell..` is the very text. Bytes are w whitespace, n a name.
use Rattle.std.specs.Prelude.{ℕ, suc, ◌<◌, ◌≤◌, ◌-◌, ◌≡◌, Bool, true, false, [], ◌∷◌, ◌++◌, length, take}
use Rattle.common.specs.Lists.{all_of}
use Rattle.selector_grammar.specs.Bytes.{Bytes, is_space, is_quote, is_word, nonempty, apart, not_word}
use Rattle.selector_grammar.specs.Bytes.{true_word, false_word}
use Rattle.selector_grammar.specs.Bytes.{open_byte, close_byte, star_byte, dot_byte, slash_byte, colon_byte, at_byte}
use Rattle.selector_grammar.specs.Bytes.{open_bracket, close_bracket, bar_byte, letter_a, letter_d, letter_n}
use Rattle.selector_grammar.specs.Bytes.{letter_o, letter_r}
use Rattle.selector_grammar.specs.Words.{is_axis, is_type, instruction_word}

-- [5] AxisSpecifier: nothing or `@`, [13] AbbreviatedAxisSpecifier, or [6] AxisName and `::`
pub data Axis : Type 0 where
  implied : Axis
  attribute : (w : Bytes) → Axis
  axis : (w n v : Bytes) → Axis

-- [7] NodeTest: [37] NameTest, `*` or a name; [38] NodeType and `( )`; or `processing-instruction ( )` with a target m
-- in quotes q
pub data Test : Type 0 where
  any : (w : Bytes) → Test
  called : (w n : Bytes) → Test
  kind : (w n v u : Bytes) → Test
  target : (w v u : Bytes) (q : ℕ) (m y : Bytes) → Test

mutual
  -- [4] Step, [12] AbbreviatedStep, [8] Predicate, whose [9] PredicateExpr is an Or
  pub data LocationStep : Type 0 where
    dot dots : (w : Bytes) → LocationStep
    test : Axis → Test → LocationStep
    filter : LocationStep → (w : Bytes) → Or → (v : Bytes) → LocationStep

  -- [3] RelativeLocationPath, [11]
  pub data Rel : Type 0 where
    one : LocationStep → Rel
    slash slashes : Rel → (w : Bytes) → LocationStep → Rel

  -- [1] LocationPath, [2], [10]
  pub data Path : Type 0 where
    relative : Rel → Path
    root : (w : Bytes) → Path
    rooted anywhere : (w : Bytes) → Rel → Path

  -- [18] UnionExpr
  pub data Union : Type 0 where
    single : Path → Union
    union : Union → (w : Bytes) → Path → Union

  -- [19] PathExpr: paths, or a [15] PrimaryExpr: `( )`, or a [16] FunctionCall: `not( )`, `true()`, `false()`
  pub data Unary : Type 0 where
    paths : Union → Unary
    group : (w : Bytes) → Or → (v : Bytes) → Unary
    negation : (w v : Bytes) → Or → (u : Bytes) → Unary
    constant : Bool → (w v u : Bytes) → Unary

  -- [22] AndExpr
  pub data And : Type 0 where
    operand : Unary → And
    conj : And → (w : Bytes) → Unary → And

  -- [14] Expr, [21] OrExpr
  pub data Or : Type 0 where
    alone : And → Or
    disj : Or → (w : Bytes) → And → Or

unfoldable pub spell_axis : Axis → Bytes
spell_axis implied = []
spell_axis (attribute w) = w ++ (at_byte ∷ [])
spell_axis (axis w n v) = w ++ (n ++ (v ++ (colon_byte ∷ colon_byte ∷ [])))

unfoldable pub spell_test : Test → Bytes
spell_test (any w) = w ++ (star_byte ∷ [])
spell_test (called w n) = w ++ n
spell_test (kind w n v u) = w ++ (n ++ (v ++ (open_byte ∷ (u ++ (close_byte ∷ [])))))
spell_test (target w v u q m y) =
    w ++ (instruction_word ++ (v ++ (open_byte ∷ (u ++ (q ∷ (m ++ (q ∷ (y ++ (close_byte ∷ [])))))))))

unfoldable pub spell_bool : Bool → Bytes
spell_bool true = true_word
spell_bool false = false_word

unfoldable mutual
  pub spell_step : LocationStep → Bytes
  spell_step (dot w) = w ++ (dot_byte ∷ [])
  spell_step (dots w) = w ++ (dot_byte ∷ dot_byte ∷ [])
  spell_step (test a t) = spell_axis a ++ spell_test t
  spell_step (filter s w e v) = spell_step s ++ (w ++ (open_bracket ∷ (spell_or e ++ (v ++ (close_bracket ∷ [])))))

  pub spell_rel : Rel → Bytes
  spell_rel (one s) = spell_step s
  spell_rel (slash r w s) = spell_rel r ++ (w ++ (slash_byte ∷ spell_step s))
  spell_rel (slashes r w s) = spell_rel r ++ (w ++ (slash_byte ∷ slash_byte ∷ spell_step s))

  pub spell_path : Path → Bytes
  spell_path (relative r) = spell_rel r
  spell_path (root w) = w ++ (slash_byte ∷ [])
  spell_path (rooted w r) = w ++ (slash_byte ∷ spell_rel r)
  spell_path (anywhere w r) = w ++ (slash_byte ∷ slash_byte ∷ spell_rel r)

  pub spell_union : Union → Bytes
  spell_union (single p) = spell_path p
  spell_union (union u w p) = spell_union u ++ (w ++ (bar_byte ∷ spell_path p))

  pub spell_unary : Unary → Bytes
  spell_unary (paths u) = spell_union u
  spell_unary (group w e v) = w ++ (open_byte ∷ (spell_or e ++ (v ++ (close_byte ∷ []))))
  spell_unary (negation w v e u) = w ++ (not_word ++ (v ++ (open_byte ∷ (spell_or e ++ (u ++ (close_byte ∷ []))))))
  spell_unary (constant b w v u) = w ++ (spell_bool b ++ (v ++ (open_byte ∷ (u ++ (close_byte ∷ [])))))

  pub spell_and : And → Bytes
  spell_and (operand u) = spell_unary u
  spell_and (conj a w u) = spell_and a ++ (w ++ (letter_a ∷ letter_n ∷ letter_d ∷ spell_unary u))

  pub spell_or : Or → Bytes
  spell_or (alone a) = spell_and a
  spell_or (disj o w a) = spell_or o ++ (w ++ (letter_o ∷ letter_r ∷ spell_and a))

-- The last token: a name, the operator `/`, or another. Clause 3.7: a name right before a byte of a name would be one
-- longer token, and after the operator `/` the names `and` and `or` are no operators.
pub data Last : Type 0 where
  word slashed other : Last

unfoldable pub last_test : Test → Last
last_test (any w) = other
last_test (called w n) = word
last_test (kind w n v u) = other
last_test (target w v u q m y) = other

unfoldable pub last_step : LocationStep → Last
last_step (dot w) = other
last_step (dots w) = other
last_step (test a t) = last_test t
last_step (filter s w e v) = other

unfoldable pub last_rel : Rel → Last
last_rel (one s) = last_step s
last_rel (slash r w s) = last_step s
last_rel (slashes r w s) = last_step s

unfoldable pub last_path : Path → Last
last_path (relative r) = last_rel r
last_path (root w) = slashed
last_path (rooted w r) = last_rel r
last_path (anywhere w r) = last_rel r

unfoldable pub last_union : Union → Last
last_union (single p) = last_path p
last_union (union u w p) = last_path p

unfoldable pub last_unary : Unary → Last
last_unary (paths u) = last_union u
last_unary (group w e v) = other
last_unary (negation w v e u) = other
last_unary (constant b w v u) = other

unfoldable pub last_and : And → Last
last_and (operand u) = last_unary u
last_and (conj a w u) = last_unary u

unfoldable pub last_or : Or → Last
last_or (alone a) = last_and a
last_or (disj o w a) = last_and a

-- an operator name may stand after this token and whitespace w
unfoldable pub may_follow : Last → Bytes → Bool
may_follow word w = nonempty w
may_follow slashed w = false
may_follow other w = true

-- a predicate may follow: not after `.` and `..`
unfoldable pub takes_predicate : LocationStep → Bool
takes_predicate (dot w) = false
takes_predicate (dots w) = false
takes_predicate (test a t) = true
takes_predicate (filter s w e v) = true

abbrev pub Spaces : Bytes → Type 0
Spaces w = all_of is_space w ≡ true

abbrev pub FineAxis : Axis → Type 0
FineAxis implied = Unit {0}
FineAxis (attribute w) = Spaces w
FineAxis (axis w n v) = Spaces w × (is_axis n ≡ true) × Spaces v

abbrev pub FineTest : Test → Type 0
FineTest (any w) = Spaces w
FineTest (called w n) = Spaces w × (is_word n ≡ true)
FineTest (kind w n v u) = Spaces w × (is_type n ≡ true) × Spaces v × Spaces u
FineTest (target w v u q m y) = Spaces w × Spaces v × Spaces u × (is_quote q ≡ true) × (is_word m ≡ true) × Spaces y

-- whitespace is whitespace, names are names, tokens are the longest, and at most d more levels are opened
abbrev mutual
  pub FineStep : LocationStep → ℕ → Type 0
  FineStep (dot w) d = Spaces w
  FineStep (dots w) d = Spaces w
  FineStep (test a t) d = FineAxis a × FineTest t
  FineStep (filter s w e v) d = FineStep s d × (takes_predicate s ≡ true) × Spaces w × (0 < d) × FineOr e (d - 1)
      × Spaces v

  pub FineRel : Rel → ℕ → Type 0
  FineRel (one s) d = FineStep s d
  FineRel (slash r w s) d = FineRel r d × Spaces w × FineStep s d
  FineRel (slashes r w s) d = FineRel r d × Spaces w × FineStep s d

  pub FinePath : Path → ℕ → Type 0
  FinePath (relative r) d = FineRel r d
  FinePath (root w) d = Spaces w
  FinePath (rooted w r) d = Spaces w × FineRel r d
  FinePath (anywhere w r) d = Spaces w × FineRel r d

  pub FineUnion : Union → ℕ → Type 0
  FineUnion (single p) d = FinePath p d
  FineUnion (union u w p) d = FineUnion u d × Spaces w × FinePath p d

  pub FineUnary : Unary → ℕ → Type 0
  FineUnary (paths u) d = FineUnion u d
  FineUnary (group w e v) d = Spaces w × (0 < d) × FineOr e (d - 1) × Spaces v
  FineUnary (negation w v e u) d = Spaces w × Spaces v × (0 < d) × FineOr e (d - 1) × Spaces u
  FineUnary (constant b w v u) d = Spaces w × Spaces v × Spaces u

  pub FineAnd : And → ℕ → Type 0
  FineAnd (operand u) d = FineUnary u d
  FineAnd (conj a w u) d = FineAnd a d × Spaces w × FineUnary u d × (may_follow (last_and a) w ≡ true)
      × (apart (spell_unary u) ≡ true)

  pub FineOr : Or → ℕ → Type 0
  FineOr (alone a) d = FineAnd a d
  FineOr (disj o w a) d = FineOr o d × Spaces w × FineAnd a d × (may_follow (last_or o) w ≡ true)
      × (apart (spell_and a) ≡ true)

-- how deep expressions may nest, each `[`, group and `not` counted
abbrev pub max_levels : ℕ
max_levels = 32

-- the text t is a text of the grammar, with the tree u
pub record Spells (t : Bytes) (u : Union) : Type 0 where
  pub after : Bytes
  pub spaces : Spaces after
  pub fine : FineUnion u max_levels
  pub spelt : t ≡ spell_union u ++ after

-- some text of the grammar begins with t
pub record Viable (t : Bytes) : Type 0 where
  pub rest : Bytes
  pub tree : Union
  pub spells : Spells (t ++ rest) tree

-- t is outside the grammar, and k is the place of the first byte that can't continue it, or the length if it ends too
-- soon
pub record Outside (t : Bytes) (k : ℕ) : Type 0 where
  pub within : k ≤ length t
  pub viable : Viable (take k t)
  pub ends : k < length t → Viable (take (suc k) t) → ⊥
  pub outside : (u : Union) → Spells t u → ⊥
