-- What the readers promise: a run of the grammar's reader from one place is one from another, and the rows, the
-- nesting and the first unlisted name are those of the tree that was read.
use Rattle.std.specs.Prelude.{ℕ, suc, ◌+◌, ◌-◌, ◌<◌, ◌≤◌, max, ◌≡◌, true, false, List, [], ◌∷◌, ◌++◌, eqb}
use Rattle.std.specs.Prelude.{length, drop, Result, Ok, Err}
use Rattle.std.proofs.Math.Option.{Option, none, some}
use Rattle.xpath.specs.Term as term
use Rattle.common.specs.RowKinds.{filter_row}
use Rattle.terms.specs.Row.{Row}
use Rattle.selector_grammar.specs.Bytes.{Bytes, is_space}
use Rattle.selector_grammar.specs.Bytes.{open_byte, letter_a}
use Rattle.selector_grammar.specs.Words.{number_of}
use Rattle.selector_grammar.specs.Grammar.{LocationStep, Path, Union, Unary, And, Or, filter, takes_predicate}
use Rattle.selector_grammar.specs.Grammar.{spell_step}
use Rattle.selector_grammar.specs.Grammar.{spell_path, spell_union, spell_unary, spell_and, spell_or}
use Rattle.selector_grammar.specs.Denotes.{Put, Named, step_of, path_of, union_of, unary_of, and_of, or_of, step_names}
use Rattle.selector_grammar.specs.Denotes.{path_names, union_names, unary_names, and_names, or_names, unlisted}
use Rattle.selector_grammar.specs.Denotes.{put_path}
use Rattle.selector_grammar.specs.Denotes.{put_qual, nest_path, nest_qual}
use Rattle.selector_grammar.specs.private.Reader.{need, after, Ctx, top, inside, Open, Alt, first, Lead, begin}
use Rattle.selector_grammar.specs.private.Reader.{Left, Pend, plain, left_of, and_to, room, room_of, enter}
use Rattle.selector_grammar.specs.private.Reader.{follow, run, outcome, Outcome, bad, at_top, path_byte, union_byte}
use Rattle.selector_grammar.specs.private.Reader.{unary_byte}
use Rattle.selector_grammar.specs.private.Reader.{shut, Text}
use Rattle.selector_grammar.specs.private.ReaderAnswer.{reply_to}
use Rattle.selector_readings.specs.declared.Reading.{Reading}
use Rattle.common.specs.declared.refusal.Refusal.{Refusal}
use Rattle.common.specs.represent.Refusal.{refusal_number, refusal_value}
use Rattle.selector_reader.specs.Promises.{held_rows}
use Rattle.selector_words.specs.private.Scan.{byte_at, Passed}
use Rattle.selector_heads.specs.private.Head.{proceed, callable, NoCall, Due}
use Rattle.selector_readings.specs.private.Build.{Standing, Sized, Made, joined}
use Rattle.selector_readings.specs.private.Build.{only_in_step, first_of, Beyond}

-- what follows a path, and a union
unfoldable pub after_path : Ctx → Alt → Path → Bytes → Bytes → Outcome
after_path c g p w [] = outcome (at_top c g p w)
after_path c g p w (b ∷ t) = follow (path_byte c g p w b) (bad (suc (length t))) (λ st. run t st)

unfoldable pub union_at_top : Ctx → Union → Bytes → Option Text
union_at_top top u w = some (record { tree = u; rest = w })
union_at_top (inside x p) u w = none

unfoldable pub after_union : Ctx → Union → Bytes → Bytes → Outcome
after_union c u w [] = outcome (union_at_top c u w)
after_union c u w (b ∷ t) = follow (union_byte c u w b) (bad (suc (length t))) (λ st. run t st)

-- a path, or a qualifier, was made of a text with these names
abbrev pub MadePath : Bytes → term.Path → List Named → List ℕ → Standing → List ℕ → Standing → Type 0
MadePath list p ns xs x ys y = Made (put_path p) (nest_path p) (unlisted (number_of list) ns) xs x ys y

abbrev pub MadeQual : Bytes → term.Qualifier → List Named → List ℕ → Standing → List ℕ → Standing → Type 0
MadeQual list f ns xs x ys y = Made (put_qual f) (nest_qual f) (unlisted (number_of list) ns) xs x ys y

-- before a reader: nothing was refused, the place is in the text, the table has its size
pub record Ready (s : Bytes) (xs : List ℕ) (x : Standing) : Type 0 where
  pub ok : x.ok ≡ true
  pub fits : x.at ≤ length s
  pub sized : Sized xs x.count

-- after one: the place is not before the first, and in the text; the table has its size
pub record Reached (s : Bytes) (at : ℕ) (ys : List ℕ) (y : Standing) : Type 0 where
  pub from : at ≤ y.at
  pub fits : y.at ≤ length s
  pub sized : Sized ys y.count

-- a predicate, after any step that takes one: the expression in it, and whitespace after its `]`
pub record PredicateRead (s list : Bytes) (left : ℕ) (xs : List ℕ) (x : Standing) (ys : List ℕ) (y : Standing)
    : Type 0 where
  pub tree : Or
  pub inner : Bytes
  pub spaces : Bytes
  pub size : x.at + length (spell_or tree ++ (inner ++ spaces)) + 2 ≡ y.at
  pub runs : (c : Ctx) (g : Alt) (l : Lead) (t : LocationStep) (w : Bytes) → room c ≡ left → takes_predicate t ≡ true
      → run (drop x.at s) (after c g l t w) ≡ run (drop y.at s) (after c g l (filter t w tree inner) spaces)
  pub made : (f : List Row → Put) (n : ℕ) (m : Option ℕ) (zs : List ℕ) (z : Standing) → Made f n m zs z xs x
      → Made (joined filter_row f (put_qual (or_of (number_of list) tree)))
      (suc (max n (nest_qual (or_of (number_of list) tree))))
      (first_of m (unlisted (number_of list) (or_names tree (x.at + 1)))) zs z ys y
  pub space : is_space (byte_at s y.at) ≡ false

pub record PredicateMet (s list : Bytes) (left : ℕ) (xs : List ℕ) (x : Standing) (ys : List ℕ) (y : Standing)
    : Type 0 where
  pub reached : Reached s x.at ys y
  pub further : y.ok ≡ true → x.at < y.at
  pub read : y.ok ≡ true → PredicateRead s list left xs x ys y
  pub failed : y.ok ≡ false → (c : Ctx) (g : Alt) (l : Lead) (t : LocationStep) (w : Bytes) → room c ≡ left
      → takes_predicate t ≡ true → run (drop x.at s) (after c g l t w) ≡ bad (length s - y.at)

-- a step, from a place without whitespace: its tree by the whitespace before it, and whitespace after it
pub record StepRead (s list : Bytes) (left : ℕ) (tree : Bytes → LocationStep) (spaces : Bytes)
    (xs : List ℕ) (x : Standing) (ys : List ℕ) (y : Standing) : Type 0 where
  pub size : (w : Bytes) → x.at + length (spell_step (tree w) ++ spaces) ≡ length w + y.at
  pub runs : (c : Ctx) (g : Alt) (l : Lead) (w : Bytes) → room c ≡ left
      → run (drop x.at s) (need c g l w) ≡ run (drop y.at s) (after c g l (tree w) spaces)
  pub made : (w : Bytes) (i : ℕ) → i + length w ≡ x.at
      → MadePath list (step_of (number_of list) (tree w)) (step_names (tree w) i) xs x ys y
  pub space : is_space (byte_at s y.at) ≡ false

abbrev pub StepFails : Bytes → (left at to : ℕ) → Type 0
StepFails s left at to = (c : Ctx) (g : Alt) (l : Lead) (w : Bytes) → room c ≡ left → Due s at c g l w
    → run (drop at s) (need c g l w) ≡ bad (length s - to)

pub record StepMet (s list : Bytes) (left : ℕ) (xs : List ℕ) (x : Standing) (ys : List ℕ) (y : Standing)
    : Type 0 where
  pub reached : Reached s x.at ys y
  pub read : y.ok ≡ true
      → (tree : Bytes → LocationStep) × (spaces : Bytes) × StepRead s list left tree spaces xs x ys y
  pub stops : y.ok ≡ true → only_in_step (byte_at s y.at) ≡ false
  pub failed : y.ok ≡ false → StepFails s left x.at y.at

-- where a path may begin: not with a call, nor with `(`, if it is an operand
abbrev pub NoOperand : Bytes → ℕ → Ctx → Alt → Type 0
NoOperand s at c g = callable c g begin ≡ true → (to : ℕ) → Passed is_space s at to
    → NoCall s to × (byte_at s to ≡ open_byte → ⊥)

-- a path, and whitespace after it
pub record PathRead (s list : Bytes) (left : ℕ) (xs : List ℕ) (x : Standing) (ys : List ℕ) (y : Standing)
    : Type 0 where
  pub tree : Path
  pub spaces : Bytes
  pub size : x.at + length (spell_path tree ++ spaces) ≡ y.at
  pub made : MadePath list (path_of (number_of list) tree) (path_names tree x.at) xs x ys y
  pub runs : (c : Ctx) (g : Alt) → room c ≡ left
      → run (drop x.at s) (need c g begin []) ≡ after_path c g tree spaces (drop y.at s)

abbrev pub PathFails : Bytes → (left at to : ℕ) → Type 0
PathFails s left at to = (c : Ctx) (g : Alt) → room c ≡ left → NoOperand s at c g
    → run (drop at s) (need c g begin []) ≡ bad (length s - to)

pub record PathMet (s list : Bytes) (left : ℕ) (xs : List ℕ) (x : Standing) (ys : List ℕ) (y : Standing)
    : Type 0 where
  pub reached : Reached s x.at ys y
  pub read : y.ok ≡ true → PathRead s list left xs x ys y
  pub failed : y.ok ≡ false → PathFails s left x.at y.at

-- a union, and whitespace after it
pub record UnionRead (s list : Bytes) (left : ℕ) (xs : List ℕ) (x : Standing) (ys : List ℕ) (y : Standing)
    : Type 0 where
  pub tree : Union
  pub spaces : Bytes
  pub size : x.at + length (spell_union tree ++ spaces) ≡ y.at
  pub made : MadePath list (union_of (number_of list) tree) (union_names tree x.at) xs x ys y
  pub runs : (c : Ctx) → room c ≡ left
      → run (drop x.at s) (need c first begin []) ≡ after_union c tree spaces (drop y.at s)

abbrev pub UnionFails : Bytes → (left at to : ℕ) → Type 0
UnionFails s left at to = (c : Ctx) → room c ≡ left → NoOperand s at c first
    → run (drop at s) (need c first begin []) ≡ bad (length s - to)

pub record UnionMet (s list : Bytes) (left : ℕ) (xs : List ℕ) (x : Standing) (ys : List ℕ) (y : Standing)
    : Type 0 where
  pub reached : Reached s x.at ys y
  pub read : y.ok ≡ true → UnionRead s list left xs x ys y
  pub failed : y.ok ≡ false → UnionFails s left x.at y.at

-- an operand of `and` or `or`, and whitespace after it
pub record UnaryRead (s list : Bytes) (left : ℕ) (xs : List ℕ) (x : Standing) (ys : List ℕ) (y : Standing)
    : Type 0 where
  pub tree : Unary
  pub spaces : Bytes
  pub size : x.at + length (spell_unary tree ++ spaces) ≡ y.at
  pub made : MadeQual list (unary_of (number_of list) tree) (unary_names tree x.at) xs x ys y
  pub runs : (o : Open) (p : Pend) → room_of o ≡ left
      → run (drop x.at s) (need (inside o p) first begin [])
      ≡ proceed s y.at (unary_byte o p tree spaces (byte_at s y.at))

abbrev pub UnaryFails : Bytes → (left at to : ℕ) → Type 0
UnaryFails s left at to = (o : Open) (p : Pend) → room_of o ≡ left
    → run (drop at s) (need (inside o p) first begin []) ≡ bad (length s - to)

pub record UnaryMet (s list : Bytes) (left : ℕ) (xs : List ℕ) (x : Standing) (ys : List ℕ) (y : Standing)
    : Type 0 where
  pub reached : Reached s x.at ys y
  pub read : y.ok ≡ true → UnaryRead s list left xs x ys y
  pub failed : y.ok ≡ false → UnaryFails s left x.at y.at

-- operands joined by `and`: the last one, and what stands before it
pub record AndRead (s list : Bytes) (left : ℕ) (xs : List ℕ) (x : Standing) (ys : List ℕ) (y : Standing)
    : Type 0 where
  pub tree : And
  pub pend : Left → Pend
  pub last : Unary
  pub spaces : Bytes
  pub parts : (l : Left) → (left_of (pend l) ≡ l) × (and_to (pend l) last ≡ tree)
  pub size : x.at + length (spell_and tree ++ spaces) ≡ y.at
  pub made : MadeQual list (and_of (number_of list) tree) (and_names tree x.at) xs x ys y
  pub runs : (o : Open) (l : Left) → room_of o ≡ left
      → run (drop x.at s) (need (inside o (plain l)) first begin [])
      ≡ proceed s y.at (unary_byte o (pend l) last spaces (byte_at s y.at))

abbrev pub AndFails : Bytes → (left at to : ℕ) → Type 0
AndFails s left at to = (o : Open) (l : Left) → room_of o ≡ left
    → run (drop at s) (need (inside o (plain l)) first begin []) ≡ bad (length s - to)

pub record AndMet (s list : Bytes) (left : ℕ) (xs : List ℕ) (x : Standing) (ys : List ℕ) (y : Standing)
    : Type 0 where
  pub reached : Reached s x.at ys y
  pub read : y.ok ≡ true → AndRead s list left xs x ys y
  pub stops : y.ok ≡ true → eqb (byte_at s y.at) letter_a ≡ false
  pub failed : y.ok ≡ false → AndFails s left x.at y.at

-- a whole expression, up to the byte that closes it
pub record OrRead (s list : Bytes) (left : ℕ) (xs : List ℕ) (x : Standing) (ys : List ℕ) (y : Standing)
    : Type 0 where
  pub tree : Or
  pub spaces : Bytes
  pub size : x.at + length (spell_or tree ++ spaces) ≡ y.at
  pub made : MadeQual list (or_of (number_of list) tree) (or_names tree x.at) xs x ys y
  pub runs : (o : Open) → room_of o ≡ left
      → run (drop x.at s) (enter o) ≡ proceed s y.at (shut o tree spaces (byte_at s y.at))

abbrev pub OrFails : Bytes → (left at to : ℕ) → Type 0
OrFails s left at to = (o : Open) → room_of o ≡ left → run (drop at s) (enter o) ≡ bad (length s - to)

pub record OrMet (s list : Bytes) (left : ℕ) (xs : List ℕ) (x : Standing) (ys : List ℕ) (y : Standing)
    : Type 0 where
  pub reached : Reached s x.at ys y
  pub read : y.ok ≡ true → OrRead s list left xs x ys y
  pub failed : y.ok ≡ false → OrFails s left x.at y.at

-- an answer, and how many rows are held
pub record TextEnd : Type 0 where
  pub number : ℕ
  pub value : ℕ
  pub count : ℕ

abbrev pub refusal_of : (number value count : ℕ) → TextEnd
refusal_of n v k = record { number = n; value = v; count = k }

-- that of the reading of a whole text
abbrev pub end_of : ℕ → Result Reading Refusal → TextEnd
end_of count (Ok r) = record { number = 0; value = r.row; count = r.count }
end_of count (Err e) = refusal_of (refusal_number e) (refusal_value e) count

-- the whole text on a table: the answer, and where it is accepted the rows, and what stands past them as it was
pub record TextMet (s list : Bytes) (xs : List ℕ) (count : ℕ) (ys : List ℕ) (a : TextEnd) : Type 0 where
  pub number : a.number ≡ (reply_to list s (held_rows xs count)).number
  pub value : a.value ≡ (reply_to list s (held_rows xs count)).value
  pub sized : Sized ys a.count
  pub accepted : a.number ≡ 0 → held_rows ys a.count ≡ (reply_to list s (held_rows xs count)).rows
  pub beyond : a.number ≡ 0 → Beyond xs count ys a.count
