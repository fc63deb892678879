-- What the functions that read the head of a step promise, as a run of the grammar's reader.
use Rattle.std.specs.Prelude.{ℕ, suc, ◌+◌, ◌-◌, ◌≤◌, ◌≡◌, Bool, true, false, cond, ◌||◌, [], ◌∷◌, ◌++◌}
use Rattle.std.specs.Prelude.{eqb, length, drop, take}
use Rattle.std.specs.Prelude.{Option as Maybe, Some, None, Result, Ok, Err, IfOk, IfErr}
use Rattle.std.proofs.Math.Option.{Option, none, some}
use Rattle.common.specs.represent.Numbers.{axis_number, test_number}
use Rattle.common.specs.declared.axis.Axis.{Axis as CodeAxis}
use Rattle.common.specs.declared.node_test.NodeTest.{NodeTest}
use Rattle.common.specs.declared.node_test.NodeTest.TheVariants as Tests
use Rattle.xpath.specs.Term as term
use Rattle.lines.specs.Line.{same_bytes}
use Rattle.selector_grammar.specs.Bytes.{Bytes, is_space, is_start, is_name, is_word, not_word, true_word}
use Rattle.selector_grammar.specs.Bytes.{false_word}
use Rattle.selector_grammar.specs.Bytes.{open_byte, star_byte, colon_byte}
use Rattle.selector_grammar.specs.Words.{is_type, type_code, number_of}
use Rattle.selector_grammar.specs.Grammar.{Axis, implied, attribute, axis, Test, any, called, target, LocationStep}
use Rattle.selector_grammar.specs.Grammar.{test, Spaces, spell_test, spell_step, takes_predicate}
use Rattle.selector_grammar.specs.Denotes.{step_of, test_of, step_names, test_names, unlisted}
use Rattle.selector_grammar.specs.private.Reader.{State, Next, need, name, type_open, quote, after, Ctx, top, inside}
use Rattle.selector_grammar.specs.private.Reader.{Alt, first, more, Lead, start, bare, at_root, at_any, after1, after2}
use Rattle.selector_grammar.specs.private.Reader.{step}
use Rattle.selector_grammar.specs.private.Reader.{follow, Outcome, finish, run, bad, paren_byte_next, colon_byte_next}
use Rattle.selector_grammar.specs.private.Reader.{lead_byte, lead_end}
use Rattle.selector_heads.specs.declared.Head.{Head}
use Rattle.selector_heads.specs.declared.StepName.{StepName}
use Rattle.selector_heads.specs.declared.StepName.TheVariants as Naming
use Rattle.selector_heads.specs.declared.Opens.{Opens}
use Rattle.selector_heads.specs.declared.Opens.TheVariants as Opening
use Rattle.selector_words.specs.private.Scan.{byte_at, Passed, begins_step}

-- the run goes on with the byte at a place
unfoldable pub proceed : Bytes → ℕ → Next → Outcome
proceed s at n = follow n (bad (length s - at)) (λ st. run (drop (suc at) s) st)

-- the number of a step's name in its row, 0 where the list gives none
abbrev pub name_number : StepName → ℕ
name_number Naming.Unnamed = 0
name_number (Naming.Listed n) = n
name_number (Naming.Unlisted p) = 0

-- the place of a name that is not listed
abbrev pub name_place : StepName → Maybe ℕ
name_place Naming.Unnamed = None
name_place (Naming.Listed n) = None
name_place (Naming.Unlisted p) = Some p

-- a name at a place, whose number is 0 where it is not listed
abbrev pub name_by : (number place : ℕ) → StepName
name_by n p = cond (eqb n 0) (Naming.Unlisted p) (Naming.Listed n)

-- a head without a name
abbrev pub plain_head : ℕ → CodeAxis → NodeTest → Bool → Head
plain_head i a t f = record { at = i; axis = a; test = t; name = Naming.Unnamed; filters = f }

-- a head with a name
abbrev pub named_head : ℕ → CodeAxis → NodeTest → (number place : ℕ) → Head
named_head i a t n p = record { at = i; axis = a; test = t; name = name_by n p; filters = true }

-- the first place after a head; or the first byte that can't continue
abbrev pub end_of : Result Head ℕ → ℕ
end_of (Ok h) = h.at
end_of (Err i) = i

-- the place of a name that is not listed
abbrev pub place_of : Maybe ℕ → Option ℕ
place_of None = none
place_of (Some p) = some p

-- the bytes from one place up to another
abbrev pub part : Bytes → (from to : ℕ) → Bytes
part s from to = take (to - from) (drop from s)

pub record Between (s : Bytes) (at to : ℕ) : Type 0 where
  pub from : at ≤ to
  pub fits : to ≤ length s

-- a name from `at` up to `end`, and whitespace up to `to`
pub record NameAt (s : Bytes) (at end to : ℕ) : Type 0 where
  pub begins : is_start (byte_at s at) ≡ true
  pub names : Passed is_name s (at + 1) end
  pub spaces : Passed is_space s end to

-- an operand may begin with a call here
unfoldable pub callable : Ctx → Alt → Lead → Bool
callable (inside x p) first (start bare) = true
callable top g l = false
callable (inside x p) (more u w) l = false
callable (inside x p) first (start (at_root w)) = false
callable (inside x p) first (start (at_any w)) = false
callable (inside x p) first (after1 y r w) = false
callable (inside x p) first (after2 y r w) = false

unfoldable pub is_implied : Axis → Bool
is_implied implied = true
is_implied (attribute w) = false
is_implied (axis w n v) = false

-- `not`, `true`, `false`
unfoldable pub opens_call : Bytes → Bool
opens_call n = same_bytes n not_word || (same_bytes n true_word || same_bytes n false_word)

abbrev pub opened_by : Bytes → Opens
opened_by n = cond (same_bytes n not_word) Opening.Not
    (cond (same_bytes n true_word) Opening.True (cond (same_bytes n false_word) Opening.False Opening.Paths))

-- no call begins at a place
abbrev pub NoCall : Bytes → ℕ → Type 0
NoCall s at = (n v t : Bytes) → is_word n ≡ true → Spaces v → drop at s ≡ n ++ (v ++ (open_byte ∷ t))
    → opens_call n ≡ false

-- the state begins a test with the axis a and whitespace w, at the byte b
pub record Begins (st : State) (c : Ctx) (g : Alt) (l : Lead) (a : Axis) (w : Bytes) (b : ℕ) : Type 0 where
  pub named : is_start b ≡ true → step st b ≡ some (name c g l a w (b ∷ []))
  pub star : b ≡ star_byte → step st b ≡ some (after c g l (test a (any w)) [])

-- and no other byte can follow
abbrev pub Stuck : State → ℕ → Type 0
Stuck st b = is_start b ≡ false → eqb b star_byte ≡ false → (step st b ≡ none) × (finish st ≡ none)

-- what is promised of a test that was read, with whitespace after it; its name's place is known from where the
-- whitespace w before it ends
pub record TestTold (s list : Bytes) (at : ℕ) (noColon : Type 0) (tree : Bytes → Test) (spaces : Bytes)
    (h : Head) : Type 0 where
  pub term : (k : ℕ) (w : Bytes) → test_of (number_of list) k (tree w)
      ≡ term.AxisStep k (test_number h.test) (name_number h.name)
  pub names : (w : Bytes) (i : ℕ) → i + length w ≡ at → unlisted (number_of list) (test_names i (tree w))
      ≡ place_of (name_place h.name)
  pub paren : (c : Ctx) (g : Alt) (l : Lead) (a : Axis) (w : Bytes)
      → (is_implied a ≡ true → callable c g l ≡ true → NoCall s at) → byte_at s h.at ≡ open_byte
      → paren_byte_next c g l (test a (tree w)) spaces ≡ none
  pub colon : (c : Ctx) (g : Alt) (l : Lead) (a : Axis) (w : Bytes) → (is_implied a ≡ true → noColon)
      → byte_at s h.at ≡ colon_byte → colon_byte_next c g l (test a (tree w)) spaces ≡ none
  pub takes : h.filters ≡ true
  pub size : (w : Bytes) → at + length (spell_test (tree w) ++ spaces) ≡ length w + h.at
  pub stops : is_space (byte_at s h.at) ≡ false

pub record TestRead (s list : Bytes) (at : ℕ) (noColon : Type 0) (h : Head) : Type 0 where
  pub tree : Bytes → Test
  pub spaces : Bytes
  pub runs : (st : State) (c : Ctx) (g : Alt) (l : Lead) (a : Axis) (w : Bytes) → Begins st c g l a w (byte_at s at)
      → run (drop at s) st ≡ run (drop h.at s) (after c g l (test a (tree w)) spaces)
  pub told : TestTold s list at noColon tree spaces h

pub record TestMet (s list : Bytes) (at : ℕ) (ax : CodeAxis) (noColon : Type 0) (r : Result Head ℕ) : Type 0 where
  pub between : Between s at (end_of r)
  pub axis : IfOk r (λ h. h.axis ≡ ax)
  pub read : IfOk r (TestRead s list at noColon)
  pub failed : IfErr r (λ i. (st : State) (c : Ctx) (g : Alt) (l : Lead) (a : Axis) (w : Bytes)
      → Begins st c g l a w (byte_at s at) → Stuck st (byte_at s at) → run (drop at s) st ≡ bad (length s - i))

-- the same after a node type n, whitespace v and `(`
pub record TypeRead (s list : Bytes) (at : ℕ) (n v : Bytes) (h : Head) : Type 0 where
  pub tree : Bytes → Test
  pub spaces : Bytes
  pub runs : (c : Ctx) (g : Alt) (l : Lead) (a : Axis) (w : Bytes) → run (drop at s) (type_open c g l a w n v [])
      ≡ run (drop h.at s) (after c g l (test a (tree w)) spaces)
  pub term : (k : ℕ) (w : Bytes) → test_of (number_of list) k (tree w)
      ≡ term.AxisStep k (test_number h.test) (name_number h.name)
  pub names : (w : Bytes) (i : ℕ) → i + length (w ++ (n ++ (v ++ (open_byte ∷ [])))) ≡ at
      → unlisted (number_of list) (test_names i (tree w)) ≡ place_of (name_place h.name)
  pub paren : (c : Ctx) (g : Alt) (l : Lead) (a : Axis) (w : Bytes)
      → paren_byte_next c g l (test a (tree w)) spaces ≡ none
  pub colon : (c : Ctx) (g : Alt) (l : Lead) (a : Axis) (w : Bytes)
      → colon_byte_next c g l (test a (tree w)) spaces ≡ none
  pub takes : h.filters ≡ true
  pub size : (w : Bytes) → at + length (spell_test (tree w) ++ spaces)
      ≡ length (w ++ (n ++ (v ++ (open_byte ∷ [])))) + h.at
  pub stops : is_space (byte_at s h.at) ≡ false

pub record TypeMet (s list : Bytes) (at : ℕ) (ax : CodeAxis) (t : NodeTest) (r : Result Head ℕ) : Type 0 where
  pub between : Between s at (end_of r)
  pub axis : IfOk r (λ h. h.axis ≡ ax)
  pub read : IfOk r (λ h. (n v : Bytes) → is_type n ≡ true → test_number t ≡ type_code n → TypeRead s list at n v h)
  pub failed : IfErr r (λ i. (n v : Bytes) → is_type n ≡ true → test_number t ≡ type_code n
      → (c : Ctx) (g : Alt) (l : Lead) (a : Axis) (w : Bytes) → run (drop at s) (type_open c g l a w n v [])
      ≡ bad (length s - i))

-- the same after the quote of a target
pub record TargetRead (s list : Bytes) (at : ℕ) (h : Head) : Type 0 where
  pub word : Bytes
  pub inner : Bytes
  pub spaces : Bytes
  pub runs : (c : Ctx) (g : Alt) (l : Lead) (a : Axis) (w v u : Bytes)
      → run (drop (at + 1) s) (quote c g l a w v u (byte_at s at))
      ≡ run (drop h.at s) (after c g l (test a (target w v u (byte_at s at) word inner)) spaces)
  pub test : h.test ≡ Tests.Target
  pub name : h.name ≡ name_by (number_of list word) (at + 1)
  pub takes : h.filters ≡ true
  pub size : at + length word + length inner + length spaces + 3 ≡ h.at
  pub stops : is_space (byte_at s h.at) ≡ false

pub record TargetMet (s list : Bytes) (at : ℕ) (ax : CodeAxis) (r : Result Head ℕ) : Type 0 where
  pub between : Between s (at + 1) (end_of r)
  pub axis : IfOk r (λ h. h.axis ≡ ax)
  pub read : IfOk r (TargetRead s list at)
  pub failed : IfErr r (λ i. (c : Ctx) (g : Alt) (l : Lead) (a : Axis) (w v u : Bytes)
      → run (drop (at + 1) s) (quote c g l a w v u (byte_at s at)) ≡ bad (length s - i))

-- what stands before a step: no call is due, and a byte that begins no step can't follow
pub record Due (s : Bytes) (at : ℕ) (c : Ctx) (g : Alt) (l : Lead) (w : Bytes) : Type 0 where
  pub plain : callable c g l ≡ true → NoCall s at
  pub lead : begins_step (byte_at s at) ≡ false → (lead_byte c g l w (byte_at s at) ≡ none) × (lead_end c g l w ≡ none)

-- the head of a step, which may take predicates; its tree by the whitespace before it
pub record HeadRead (s list : Bytes) (at : ℕ) (h : Head) : Type 0 where
  pub tree : Bytes → LocationStep
  pub spaces : Bytes
  pub runs : (c : Ctx) (g : Alt) (l : Lead) (w : Bytes) → run (drop at s) (need c g l w)
      ≡ run (drop h.at s) (after c g l (tree w) spaces)
  pub term : (w : Bytes) → step_of (number_of list) (tree w)
      ≡ term.AxisStep (axis_number h.axis) (test_number h.test) (name_number h.name)
  pub names : (w : Bytes) (i : ℕ) → i + length w ≡ at → unlisted (number_of list) (step_names (tree w) i)
      ≡ place_of (name_place h.name)
  pub paren : (c : Ctx) (g : Alt) (l : Lead) (w : Bytes) → (callable c g l ≡ true → NoCall s at) → byte_at s h.at
      ≡ open_byte → paren_byte_next c g l (tree w) spaces ≡ none
  pub colon : (c : Ctx) (g : Alt) (l : Lead) (w : Bytes) → byte_at s h.at ≡ colon_byte
      → colon_byte_next c g l (tree w) spaces ≡ none
  pub takes : (w : Bytes) → takes_predicate (tree w) ≡ h.filters
  pub size : (w : Bytes) → at + length (spell_step (tree w) ++ spaces) ≡ length w + h.at
  pub stops : is_space (byte_at s h.at) ≡ false

pub record HeadMet (s list : Bytes) (at : ℕ) (r : Result Head ℕ) : Type 0 where
  pub between : Between s at (end_of r)
  pub read : IfOk r (HeadRead s list at)
  pub failed : IfErr r (λ i. (c : Ctx) (g : Alt) (l : Lead) (w : Bytes) → Due s at c g l w
      → run (drop at s) (need c g l w) ≡ bad (length s - i))

-- `.` or `..`: always read
pub record DotMet (s : Bytes) (at : ℕ) (h : Head) : Type 0 where
  pub between : Between s at h.at
  pub read : (list : Bytes) → HeadRead s list at h

-- `not`, `true` or `false`, whitespace, and `(` at `paren`
pub record CallAt (s : Bytes) (at paren : ℕ) (word : Bytes) : Type 0 where
  pub spaces : Bytes
  pub all : Spaces spaces
  pub runs : (c : Ctx) (g : Alt) (l : Lead) (w : Bytes) → run (drop at s) (need c g l w)
      ≡ run (drop paren s) (after c g l (test implied (called w word)) spaces)
  pub byte : byte_at s paren ≡ open_byte
  pub size : at + length word + length spaces ≡ paren

-- how an operand begins at a place without whitespace
abbrev pub OperandMet : Bytes → (at : ℕ) → Opens → (paren : ℕ) → Type 0
OperandMet s at Opening.Paths paren = NoCall s at × (byte_at s at ≡ open_byte → ⊥)
OperandMet s at Opening.Group paren = (byte_at s at ≡ open_byte) × (paren ≡ at)
OperandMet s at Opening.Not paren = CallAt s at paren not_word
OperandMet s at Opening.True paren = CallAt s at paren true_word
OperandMet s at Opening.False paren = CallAt s at paren false_word
