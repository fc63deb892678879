-- A reader of the whole grammar, one byte at a time; what it has read is in its state, as trees.
use Rattle.std.specs.Prelude.{ℕ, suc, ◌-◌, Bool, true, false, cond, ◌&&◌, [], ◌∷◌, ◌++◌, eqb, ltb, length}
use Rattle.std.proofs.Math.Option.{Option, none, some}
use Rattle.lines.specs.Line.{same_bytes}
use Rattle.selector_grammar.specs.Bytes.{Bytes, is_space, is_start, is_name, is_quote, not_word, true_word}
use Rattle.selector_grammar.specs.Bytes.{false_word}
use Rattle.selector_grammar.specs.Bytes.{open_byte, close_byte, star_byte, dot_byte, slash_byte, colon_byte, at_byte}
use Rattle.selector_grammar.specs.Bytes.{open_bracket, close_bracket, bar_byte, letter_a, letter_d, letter_n}
use Rattle.selector_grammar.specs.Bytes.{letter_o, letter_r}
use Rattle.selector_grammar.specs.Words.{is_axis, is_type, instruction_word}
use Rattle.selector_grammar.specs.Grammar.{Axis, implied, attribute, axis, any, called, kind, target, LocationStep}
use Rattle.selector_grammar.specs.Grammar.{dot, dots, test, filter, Rel, one, slash, slashes, Path, relative, root}
use Rattle.selector_grammar.specs.Grammar.{rooted, anywhere, Union, single, union, Unary, paths, group, negation}
use Rattle.selector_grammar.specs.Grammar.{constant, And, operand, conj, Or, alone, disj, takes_predicate, max_levels}

-- how a path begins: with a step, `/` or `//`
pub data Prefix : Type 0 where
  bare : Prefix
  at_root at_any : Bytes → Prefix

-- what stands before a step in its path
pub data Lead : Type 0 where
  start : Prefix → Lead
  after1 after2 : Prefix → Rel → Bytes → Lead

-- what stands before a path in its union
pub data Alt : Type 0 where
  first : Alt
  more : Union → Bytes → Alt

-- what stands before an operand: the left side of an `or`, and after it that of an `and`
pub data Left : Type 0 where
  nothing : Left
  either : Or → Bytes → Left

pub data Pend : Type 0 where
  plain : Left → Pend
  both : Left → And → Bytes → Pend

-- where a union is read: at the top, or as an operand in something that was opened
mutual
  pub data Ctx : Type 0 where
    top : Ctx
    inside : Open → Pend → Ctx

  pub data Open : Type 0 where
    bracket : Ctx → Alt → Lead → LocationStep → Bytes → Open
    negate : Open → Pend → (w v : Bytes) → Open
    grouped : Open → Pend → (w : Bytes) → Open

pub data Keyword : Type 0 where
  k_a k_an k_and k_o k_or : Keyword

pub data State : Type 0 where
  need : Ctx → Alt → Lead → (w : Bytes) → State
  root1 : Ctx → Alt → (w : Bytes) → State
  slash1 : Ctx → Alt → Prefix → Rel → (w : Bytes) → State
  dot1 : Ctx → Alt → Lead → (w : Bytes) → State
  name : Ctx → Alt → Lead → Axis → (w n : Bytes) → State
  colon : Ctx → Alt → Lead → (w n v : Bytes) → State
  testing : Ctx → Alt → Lead → Axis → (w : Bytes) → State
  type_open : Ctx → Alt → Lead → Axis → (w n v u : Bytes) → State
  quote : Ctx → Alt → Lead → Axis → (w v u : Bytes) (q : ℕ) → State
  quoted : Ctx → Alt → Lead → Axis → (w v u : Bytes) (q : ℕ) (m : Bytes) → State
  unquoted : Ctx → Alt → Lead → Axis → (w v u : Bytes) (q : ℕ) (m y : Bytes) → State
  after : Ctx → Alt → Lead → LocationStep → (w : Bytes) → State
  const_open : Open → Pend → Bool → (w v u : Bytes) → State
  closed : Open → Pend → Unary → (w : Bytes) → State
  keyword : Open → Pend → Unary → (w : Bytes) → Keyword → State

unfoldable pub prefix_of : Lead → Prefix
prefix_of (start x) = x
prefix_of (after1 x r w) = x
prefix_of (after2 x r w) = x

unfoldable pub join : Lead → LocationStep → Rel
join (start x) s = one s
join (after1 x r w) s = slash r w s
join (after2 x r w) s = slashes r w s

unfoldable pub with_prefix : Prefix → Rel → Path
with_prefix bare r = relative r
with_prefix (at_root w) r = rooted w r
with_prefix (at_any w) r = anywhere w r

abbrev pub path_to : Lead → LocationStep → Path
path_to l s = with_prefix (prefix_of l) (join l s)

unfoldable pub join_alt : Alt → Path → Union
join_alt first p = single p
join_alt (more u w) p = union u w p

unfoldable pub wrap : Left → And → Or
wrap nothing x = alone x
wrap (either e w) x = disj e w x

unfoldable pub left_of : Pend → Left
left_of (plain l) = l
left_of (both l x w) = l

unfoldable pub and_to : Pend → Unary → And
and_to (plain l) u = operand u
and_to (both l x w) u = conj x w u

abbrev pub or_to : Pend → Unary → Or
or_to p u = wrap (left_of p) (and_to p u)

-- how many levels may still be opened
unfoldable mutual
  pub room : Ctx → ℕ
  room top = max_levels
  room (inside x p) = room_of x

  pub room_of : Open → ℕ
  room_of (bracket c g l s w) = room c - 1
  room_of (negate x p w v) = room_of x - 1
  room_of (grouped x p w) = room_of x - 1

abbrev pub Next : Type 0
Next = Option State

abbrev pub begin : Lead
begin = start bare

abbrev pub enter : Open → State
enter x = need (inside x (plain nothing)) first begin []

-- a closing byte
unfoldable pub shut : Open → Or → Bytes → ℕ → Next
shut (bracket c g l s w) e v b = cond (eqb b close_bracket) (some (after c g l (filter s w e v) [])) none
shut (negate x p w v) e u b = cond (eqb b close_byte) (some (closed x p (negation w v e u) [])) none
shut (grouped x p w) e u b = cond (eqb b close_byte) (some (closed x p (group w e u) [])) none

-- the byte after an operand of `and` or `or`
unfoldable pub unary_byte : Open → Pend → Unary → Bytes → ℕ → Next
unary_byte x p u w b =
    cond (eqb b letter_a) (some (keyword x p u w k_a))
    (cond (eqb b letter_o) (some (keyword x p u w k_o)) (shut x (or_to p u) w b))

unfoldable pub union_byte : Ctx → Union → Bytes → ℕ → Next
union_byte top u w b = none
union_byte (inside x p) u w b = unary_byte x p (paths u) w b

-- the byte after a path
unfoldable pub path_byte : Ctx → Alt → Path → Bytes → ℕ → Next
path_byte c g p w b =
    cond (eqb b bar_byte) (some (need c (more (join_alt g p) w) begin [])) (union_byte c (join_alt g p) w b)

-- `(` where an operand is due
unfoldable pub group_byte : Ctx → Alt → Bytes → ℕ → Next
group_byte top g w b = none
group_byte (inside x p) first w b = cond (eqb b open_byte && ltb 0 (room_of x)) (some (enter (grouped x p w))) none
group_byte (inside x p) (more u v) w b = none

-- a byte that begins no step: `/` at the beginning, `(`, or what follows the path `/`
unfoldable pub lead_byte : Ctx → Alt → Lead → Bytes → ℕ → Next
lead_byte c g (start bare) w b = cond (eqb b slash_byte) (some (root1 c g w)) (group_byte c g w b)
lead_byte c g (start (at_root v)) w b = path_byte c g (root v) w b
lead_byte c g (start (at_any v)) w b = none
lead_byte c g (after1 x r v) w b = none
lead_byte c g (after2 x r v) w b = none

unfoldable pub need_byte : Ctx → Alt → Lead → Bytes → ℕ → Next
need_byte c g l w b =
    cond (is_start b) (some (name c g l implied w (b ∷ [])))
    (cond (is_space b) (some (need c g l (w ++ (b ∷ []))))
    (cond (eqb b star_byte) (some (after c g l (test implied (any w)) []))
    (cond (eqb b at_byte) (some (testing c g l (attribute w) []))
    (cond (eqb b dot_byte) (some (dot1 c g l w))
    (lead_byte c g l w b)))))

-- `(` after a name that begins an operand
unfoldable pub call_byte : Ctx → Alt → Lead → Axis → (w n v : Bytes) → Next
call_byte (inside x p) first (start bare) implied w n v =
    cond (same_bytes n not_word) (cond (ltb 0 (room_of x)) (some (enter (negate x p w v))) none)
    (cond (same_bytes n true_word) (some (const_open x p true w v []))
    (cond (same_bytes n false_word) (some (const_open x p false w v [])) none))
call_byte top g l a w n v = none
call_byte (inside x p) (more u y) l a w n v = none
call_byte (inside x p) first (start (at_root y)) a w n v = none
call_byte (inside x p) first (start (at_any y)) a w n v = none
call_byte (inside x p) first (after1 y r z) a w n v = none
call_byte (inside x p) first (after2 y r z) a w n v = none
call_byte (inside x p) first (start bare) (attribute y) w n v = none
call_byte (inside x p) first (start bare) (axis y m z) w n v = none

-- `(` after a step
unfoldable pub paren_byte_next : Ctx → Alt → Lead → LocationStep → Bytes → Next
paren_byte_next c g l (test a (called w n)) v = cond (is_type n) (some (type_open c g l a w n v []))
    (call_byte c g l a w n v)
paren_byte_next c g l (test a (any w)) v = none
paren_byte_next c g l (test a (kind w n y u)) v = none
paren_byte_next c g l (test a (target w y u q m z)) v = none
paren_byte_next c g l (dot w) v = none
paren_byte_next c g l (dots w) v = none
paren_byte_next c g l (filter s w e u) v = none

-- `:` after a step
unfoldable pub colon_byte_next : Ctx → Alt → Lead → LocationStep → Bytes → Next
colon_byte_next c g l (test implied (called w n)) v = cond (is_axis n) (some (colon c g l w n v)) none
colon_byte_next c g l (test implied (any w)) v = none
colon_byte_next c g l (test implied (kind w n y u)) v = none
colon_byte_next c g l (test implied (target w y u q m z)) v = none
colon_byte_next c g l (test (attribute y) t) v = none
colon_byte_next c g l (test (axis y m z) t) v = none
colon_byte_next c g l (dot w) v = none
colon_byte_next c g l (dots w) v = none
colon_byte_next c g l (filter s w e u) v = none

-- the byte after a step
unfoldable pub after_byte : Ctx → Alt → Lead → LocationStep → Bytes → ℕ → Next
after_byte c g l s w b =
    cond (is_space b) (some (after c g l s (w ++ (b ∷ []))))
    (cond (eqb b slash_byte) (some (slash1 c g (prefix_of l) (join l s) w))
    (cond (eqb b open_bracket) (cond (takes_predicate s && ltb 0 (room c)) (some (enter (bracket c g l s w))) none)
    (cond (eqb b open_byte) (paren_byte_next c g l s w)
    (cond (eqb b colon_byte) (colon_byte_next c g l s w)
    (path_byte c g (path_to l s) w b)))))

-- the byte after the bytes of an operator name that were read
unfoldable pub keyword_byte : Open → Pend → Unary → Bytes → Keyword → ℕ → Next
keyword_byte x p u w k_a b = cond (eqb b letter_n) (some (keyword x p u w k_an)) none
keyword_byte x p u w k_an b = cond (eqb b letter_d) (some (keyword x p u w k_and)) none
keyword_byte x p u w k_and b =
    cond (is_name b) none (need_byte (inside x (both (left_of p) (and_to p u) w)) first begin [] b)
keyword_byte x p u w k_o b = cond (eqb b letter_r) (some (keyword x p u w k_or)) none
keyword_byte x p u w k_or b = cond (is_name b) none
    (need_byte (inside x (plain (either (or_to p u) w))) first begin [] b)

unfoldable pub step : State → ℕ → Next
step (need c g l w) b = need_byte c g l w b
step (root1 c g w) b =
    cond (eqb b slash_byte) (some (need c g (start (at_any w)) [])) (need_byte c g (start (at_root w)) [] b)
step (slash1 c g x r w) b =
    cond (eqb b slash_byte) (some (need c g (after2 x r w) [])) (need_byte c g (after1 x r w) [] b)
step (dot1 c g l w) b = cond (eqb b dot_byte) (some (after c g l (dots w) [])) (after_byte c g l (dot w) [] b)
step (name c g l a w n) b =
    cond (is_name b) (some (name c g l a w (n ++ (b ∷ [])))) (after_byte c g l (test a (called w n)) [] b)
step (colon c g l w n v) b = cond (eqb b colon_byte) (some (testing c g l (axis w n v) [])) none
step (testing c g l a w) b =
    cond (is_start b) (some (name c g l a w (b ∷ [])))
    (cond (is_space b) (some (testing c g l a (w ++ (b ∷ []))))
    (cond (eqb b star_byte) (some (after c g l (test a (any w)) [])) none))
step (type_open c g l a w n v u) b =
    cond (is_space b) (some (type_open c g l a w n v (u ++ (b ∷ []))))
    (cond (eqb b close_byte) (some (after c g l (test a (kind w n v u)) []))
    (cond (is_quote b && same_bytes n instruction_word) (some (quote c g l a w v u b)) none))
step (quote c g l a w v u q) b = cond (is_start b) (some (quoted c g l a w v u q (b ∷ []))) none
step (quoted c g l a w v u q m) b =
    cond (is_name b) (some (quoted c g l a w v u q (m ++ (b ∷ []))))
    (cond (eqb b q) (some (unquoted c g l a w v u q m [])) none)
step (unquoted c g l a w v u q m y) b =
    cond (is_space b) (some (unquoted c g l a w v u q m (y ++ (b ∷ []))))
    (cond (eqb b close_byte) (some (after c g l (test a (target w v u q m y)) [])) none)
step (after c g l s w) b = after_byte c g l s w b
step (const_open x p k w v u) b =
    cond (is_space b) (some (const_open x p k w v (u ++ (b ∷ []))))
    (cond (eqb b close_byte) (some (closed x p (constant k w v u) [])) none)
step (closed x p u w) b = cond (is_space b) (some (closed x p u (w ++ (b ∷ [])))) (unary_byte x p u w b)
step (keyword x p u w k) b = keyword_byte x p u w k b

pub record Text : Type 0 where
  pub tree : Union
  pub rest : Bytes

unfoldable pub at_top : Ctx → Alt → Path → Bytes → Option Text
at_top top g p w = some (record { tree = join_alt g p; rest = w })
at_top (inside x q) g p w = none

unfoldable pub lead_end : Ctx → Alt → Lead → Bytes → Option Text
lead_end c g (start bare) w = none
lead_end c g (start (at_root v)) w = at_top c g (root v) w
lead_end c g (start (at_any v)) w = none
lead_end c g (after1 x r v) w = none
lead_end c g (after2 x r v) w = none

-- what is read if the text ends here
unfoldable pub finish : State → Option Text
finish (need c g l w) = lead_end c g l w
finish (root1 c g w) = at_top c g (root w) []
finish (slash1 c g x r w) = none
finish (dot1 c g l w) = at_top c g (path_to l (dot w)) []
finish (name c g l a w n) = at_top c g (path_to l (test a (called w n))) []
finish (colon c g l w n v) = none
finish (testing c g l a w) = none
finish (type_open c g l a w n v u) = none
finish (quote c g l a w v u q) = none
finish (quoted c g l a w v u q m) = none
finish (unquoted c g l a w v u q m y) = none
finish (after c g l s w) = at_top c g (path_to l s) w
finish (const_open x p k w v u) = none
finish (closed x p u w) = none
finish (keyword x p u w k) = none

pub data Outcome : Type 0 where
  good : Text → Outcome
  bad : ℕ → Outcome

unfoldable pub outcome : Option Text → Outcome
outcome none = bad 0
outcome (some x) = good x

unfoldable pub follow : {A : Type 0} → Next → A → (State → A) → A
follow none x f = x
follow (some st) x f = f st

unfoldable pub run : Bytes → State → Outcome
run [] st = outcome (finish st)
run (b ∷ t) st = follow (step st b) (bad (suc (length t))) (λ x. run t x)

unfoldable pub walk : Bytes → State → Next
walk [] st = some st
walk (b ∷ t) st = follow (step st b) none (λ x. walk t x)

abbrev pub initial : State
initial = need top first begin []
