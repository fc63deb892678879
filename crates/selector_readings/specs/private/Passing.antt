-- What the functions promise that pass over bytes and put rows.
use Rattle.std.specs.Prelude.{ℕ, suc, ◌+◌, ◌-◌, ◌<◌, ◌≤◌, max, ◌≡◌}
use Rattle.std.specs.Prelude.{Bool, true, false, cond, List, [], eqb, length, drop}
use Rattle.std.specs.Prelude.{get_or, Result, Ok, Err}
use Rattle.common.specs.RowKinds.{root_row, composition_row, not_row}
use Rattle.terms.specs.Row.{row}
use Rattle.selector_grammar.specs.Bytes.{Bytes, is_space, is_name}
use Rattle.selector_grammar.specs.Bytes.{close_byte, slash_byte}
use Rattle.selector_grammar.specs.Grammar.{Unary}
use Rattle.selector_grammar.specs.private.Reader.{need, inside, Open, first, begin, either, Pend, plain, both, left_of}
use Rattle.selector_grammar.specs.private.Reader.{and_to, or_to}
use Rattle.selector_grammar.specs.private.Reader.{run, bad, unary_byte}
use Rattle.selector_words.specs.private.Scan.{byte_at, Passed, begins_step}
use Rattle.selector_heads.specs.declared.Opens.{Opens}
use Rattle.selector_heads.specs.declared.Opens.TheVariants as Opening
use Rattle.selector_heads.specs.private.Head.{Between, proceed}
use Rattle.selector_readings.specs.declared.Start.{Start}
use Rattle.selector_readings.specs.declared.Start.TheVariants as Beginning
use Rattle.selector_readings.specs.private.Build.{Standing, stands, capped, moved_to, refused_at, Sized, PutMet, Grown}
use Rattle.selector_readings.specs.private.Build.{below_of}

-- the first n bytes of a name stand where r ends: its next byte does not, or a name's byte follows, or it is passed
pub record WordPassed (s word : Bytes) (r q : Standing) : Type 0 where
  pub n : ℕ
  pub few : n ≤ length word
  pub fits : r.at + n ≤ length s
  pub same : (k : ℕ) → k < n → byte_at s (r.at + k) ≡ get_or word k 0
  pub cut : n < length word → (byte_at s (r.at + n) ≡ get_or word n 0 → ⊥) × (q ≡ refused_at (r.at + n))
  pub touched : n ≡ length word → is_name (byte_at s (r.at + n)) ≡ true → q ≡ refused_at (r.at + n)
  pub whole : n ≡ length word → is_name (byte_at s (r.at + n)) ≡ false → q ≡ moved_to r (r.at + n)

-- `and` and `or`, of n bytes: only the place changes
pub record WordMet (s : Bytes) (r q : Standing) (n : ℕ) (next : Open → Pend → Unary → Bytes → Pend) : Type 0 where
  pub between : Between s (r.at + 1) q.at
  pub same : q ≡ cond q.ok (moved_to r q.at) (refused_at q.at)
  pub place : q.ok ≡ true → q.at ≡ r.at + n
  pub read : q.ok ≡ true → (x : Open) (p : Pend) (u : Unary) (w : Bytes)
      → proceed s r.at (unary_byte x p u w (byte_at s r.at))
      ≡ run (drop q.at s) (need (inside x (next x p u w)) first begin [])
  pub failed : q.ok ≡ false → (x : Open) (p : Pend) (u : Unary) (w : Bytes)
      → proceed s r.at (unary_byte x p u w (byte_at s r.at)) ≡ bad (length s - q.at)

abbrev pub after_and : Open → Pend → Unary → Bytes → Pend
after_and x p u w = both (left_of p) (and_to p u) w

abbrev pub after_or : Open → Pend → Unary → Bytes → Pend
after_or x p u w = plain (either (or_to p u) w)

-- the closing byte b is due where r ends
pub record CloseMet (s : Bytes) (r : Standing) (b : ℕ) (q : Standing) : Type 0 where
  pub count : q.ok ≡ true → q.count ≡ r.count
  pub wrong : (byte_at s r.at ≡ b → ⊥) → q ≡ refused_at r.at
  pub right : byte_at s r.at ≡ b → (to : ℕ) × (q ≡ moved_to r to) × Passed is_space s (r.at + 1) to

-- the first step of a path, over what stands before it
pub record FirstPut (rooted : Bool) (lead step : Standing) (xs ys : List ℕ) (q : Standing) : Type 0 where
  pub sized : Sized ys q.count
  pub joins : rooted ≡ true
      → PutMet (row composition_row lead.row step.row 0) (capped (suc (max lead.nesting step.nesting))) xs
      step ys q
  pub stays : rooted ≡ false → (ys ≡ xs) × (q ≡ step)

-- the whitespace, the `)` and the row of `true()` or `false()`; without the `)`, no row
pub record ConstPut (s : Bytes) (kind : ℕ) (xs : List ℕ) (r : Standing) (ys : List ℕ) (q : Standing) : Type 0 where
  pub to : ℕ
  pub passed : Passed is_space s r.at to
  pub sized : Sized ys q.count
  pub wrong : (byte_at s to ≡ close_byte → ⊥) → (q ≡ refused_at to) × (ys ≡ xs)
  pub right : byte_at s to ≡ close_byte
      → (end : ℕ) × Passed is_space s (to + 1) end × PutMet (row kind 0 0 0) 1 xs (moved_to r end) ys q

-- `/` or `//` after a path, and whitespace
pub record SlashPut (s : Bytes) (xs : List ℕ) (r : Standing) (ys : List ℕ) (q : Standing) : Type 0 where
  pub sized : Sized ys q.count
  pub two : byte_at s (r.at + 1) ≡ slash_byte
      → (to : ℕ) × (b : Standing) × Passed is_space s (r.at + 1 + 1) to
      × Grown below_of (λ n. suc (max n 1)) xs r ys b × (q ≡ moved_to b to)
  pub one : (byte_at s (r.at + 1) ≡ slash_byte → ⊥)
      → (to : ℕ) × Passed is_space s (r.at + 1) to × (ys ≡ xs) × (q ≡ moved_to r to)

-- a row of `not` over the expression in `not ( )`; a group is what it holds
abbrev pub NegatePut : Opens → List ℕ → Standing → List ℕ → Standing → Type 0
NegatePut Opening.Not xs r ys q = PutMet (row not_row r.row 0 0) (capped (suc r.nesting)) xs r ys q
NegatePut Opening.Group xs r ys q = (ys ≡ xs) × (q ≡ r)
NegatePut Opening.Paths xs r ys q = (ys ≡ xs) × (q ≡ r)
NegatePut Opening.True xs r ys q = (ys ≡ xs) × (q ≡ r)
NegatePut Opening.False xs r ys q = (ys ≡ xs) × (q ≡ r)

-- a path's beginning: `lead` has the row of what stands before its first step, if it is `rooted`; `steps`: a step must
-- follow
pub record Starting : Type 0 where
  pub lead : Standing
  pub rooted : Bool
  pub steps : Bool

abbrev pub start_of : Standing → (rooted steps : Bool) → Starting
start_of r x y = record { lead = r; rooted = x; steps = y }

-- what `begin_path` gave
abbrev pub started : Result Start ℕ → Starting
started (Ok (Beginning.First r)) = start_of (stands r) false true
started (Ok (Beginning.Below r)) = start_of (stands r) true true
started (Ok (Beginning.Root r)) = start_of (stands r) true false
started (Err to) = start_of (refused_at to) true false

-- after `/` and whitespace: a step, or nothing more of this path; a second `/` can't follow
unfoldable pub root_start : Bytes → Standing → Starting
root_start s r = cond (begins_step (byte_at s r.at)) (start_of r true true)
    (cond (eqb (byte_at s r.at) slash_byte) (start_of (refused_at r.at) true false) (start_of r true false))

pub record BeginPut (s : Bytes) (xs : List ℕ) (r : Standing) (ys : List ℕ) (q : Starting) : Type 0 where
  pub to : ℕ
  pub passed : Passed is_space s r.at to
  pub bare : (byte_at s to ≡ slash_byte → ⊥) → (ys ≡ xs) × (q ≡ start_of (moved_to r to) false true)
  pub root : byte_at s to ≡ slash_byte → (byte_at s (to + 1) ≡ slash_byte → ⊥)
      → (p : Standing) × (end : ℕ) × PutMet (row root_row 0 0 0) 1 xs (moved_to r to) ys p
      × Passed is_space s (to + 1) end
      × (q ≡ root_start s (moved_to p end))
  pub any : byte_at s to ≡ slash_byte → byte_at s (to + 1) ≡ slash_byte
      → (p b : Standing) × (zs : List ℕ) × (end : ℕ) × PutMet (row root_row 0 0 0) 1 xs (moved_to r to) zs p
      × Grown below_of (λ n. suc (max n 1)) zs p ys b × Passed is_space s (to + 1 + 1) end
      × (q ≡ start_of (moved_to b end) true true)
