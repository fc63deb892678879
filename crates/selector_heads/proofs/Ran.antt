-- Runs of the grammar's reader over parts of a text.
use Prim.Native.Nat.{ℕ, suc, ◌+◌, ◌-◌, ◌<◌, ◌≤◌}
use mathlib.Core.Path.{◌≡◌, refl, sym, ap, ◌∙◌}
use mathlib.Core.Bool.{Bool, true, false}
use mathlib.Core.List.{[], ◌∷◌, ◌++◌, append_assoc, append-nil}
use mathlib.Core.Option.{none, some}
use native.Mathlib.Omega.{arith}
use native.Mathlib.Decide.{dec_lt}
use native.Mathlib.Numerals.{add-one}
use Rattle.std.proofs.lemmas.Bool.{and_parts}
use lib.ListN.{length, get_or, drop, length-drop, length-append, drop_of_length-le}
use lib.Seq.{drop-cons, take_at}
use Rattle.common.specs.Lists.{all_of}
use Rattle.selector_grammar.specs.Bytes.{Bytes, is_space, is_start, is_name, is_word}
use Rattle.selector_grammar.specs.Grammar.{Axis, called, LocationStep, test}
use Rattle.selector_grammar.specs.private.Reader.{State, need, name, testing, type_open, quoted, unquoted, after}
use Rattle.selector_grammar.specs.private.Reader.{closed, Ctx, Open, Pend, Alt, Lead, step, follow}
use Rattle.selector_grammar.specs.private.Reader.{finish, run, outcome, bad, need_byte, after_byte}
use Rattle.selector_grammar.proofs.Basics.{space_start}
use Rattle.selector_words.specs.private.Scan.{byte_at, Passed}
use Rattle.selector_heads.specs.private.Head.{part, proceed}
use Rattle.selector_words.proofs.Scanned.{there, head_drop}

pub on_here : (s : Bytes) (at : ℕ) (st : State) → at < length s → run (drop at s) st
    ≡ proceed s at (step st (byte_at s at))
unfolding run proceed
on_here s at st h =
    let q : suc (length (drop (suc at) s)) ≡ length s - at = omega (arith, length-drop (suc at) s) in
    rw (drop-cons s at 0, q) refl

pub on_pass : (s : Bytes) (at : ℕ) (st x : State) → at < length s → step st (byte_at s at) ≡ some x
    → run (drop at s) st ≡ run (drop (at + 1) s) x
unfolding proceed follow
on_pass s at st x h e = on_here s at st h ∙ rw (e, add-one) refl

-- a byte, or the end, that can't follow
pub on_stop : (s : Bytes) (at : ℕ) (st : State) → at ≤ length s → step st (byte_at s at) ≡ none → finish st ≡ none
    → run (drop at s) st ≡ bad (length s - at)
unfolding run proceed outcome follow
on_stop s at st h e f = go (dec_lt at (length s))
  where
    go : Dec (at < length s) → run (drop at s) st ≡ bad (length s - at)
    go (yes i) = on_here s at st i ∙ rw e refl
    go (no i) =
        let q : length s ≤ at = omega (arith, i) in
        let z : length s - at ≡ 0 = omega (arith, q) in
        rw (drop_of_length-le s {i = at} q, f, z) refl

module _ (p : ℕ → Bool) (f : Bytes → State)
    (h : (w : Bytes) (c : ℕ) → p c ≡ true → step (f w) c ≡ some (f (w ++ (c ∷ [])))) where
  run_collect : (v : Bytes) (w : Bytes) (t : Bytes) → all_of p v ≡ true → run (v ++ t) (f w) ≡ run t (f (w ++ v))
  unfolding all_of run follow
  run_collect [] w t e = rw append-nil refl
  run_collect (c ∷ v) w t e =
      let u = and_parts (p c) (all_of p v) e in
      rw (h w c u.0) (run_collect v (w ++ (c ∷ [])) t u.1 ∙ rw append_assoc refl)

  pub over : (s : Bytes) (at to : ℕ) (q : Passed p s at to) (w : Bytes) → run (drop at s) (f w)
      ≡ run (drop to s) (f (w ++ q.bytes))
  over s at to q w = rw q.split (run_collect q.bytes w (drop to s) q.all)

module _ (s : Bytes) (at to : ℕ) (q : Passed is_space s at to) where
  pub need_over : (c : Ctx) (g : Alt) (l : Lead) → run (drop at s) (need c g l [])
      ≡ run (drop to s) (need c g l q.bytes)
  unfolding step need_byte
  need_over c g l = over is_space (need c g l) (λ w b e. rw (space_start b e, e)) s at to q []

  pub after_over : (c : Ctx) (g : Alt) (l : Lead) (x : LocationStep) → run (drop at s) (after c g l x [])
      ≡ run (drop to s) (after c g l x q.bytes)
  unfolding step after_byte
  after_over c g l x = over is_space (after c g l x) (λ w b e. rw e) s at to q []

  pub testing_over : (c : Ctx) (g : Alt) (l : Lead) (a : Axis) → run (drop at s) (testing c g l a [])
      ≡ run (drop to s) (testing c g l a q.bytes)
  unfolding step
  testing_over c g l a = over is_space (testing c g l a) (λ w b e. rw (space_start b e, e)) s at to q []

  pub type_over : (c : Ctx) (g : Alt) (l : Lead) (a : Axis) (w n v : Bytes)
      → run (drop at s) (type_open c g l a w n v []) ≡ run (drop to s) (type_open c g l a w n v q.bytes)
  unfolding step
  type_over c g l a w n v = over is_space (type_open c g l a w n v) (λ y b e. rw e) s at to q []

  pub unquoted_over : (c : Ctx) (g : Alt) (l : Lead) (a : Axis) (w v u : Bytes) (k : ℕ) (m : Bytes)
      → run (drop at s) (unquoted c g l a w v u k m []) ≡ run (drop to s) (unquoted c g l a w v u k m q.bytes)
  unfolding step
  unquoted_over c g l a w v u k m = over is_space (unquoted c g l a w v u k m) (λ y b e. rw e) s at to q []

  pub closed_over : (x : Open) (p : Pend) → (u : _) → run (drop at s) (closed x p u [])
      ≡ run (drop to s) (closed x p u q.bytes)
  unfolding step
  closed_over x p u = over is_space (closed x p u) (λ w b e. rw e) s at to q []

module _ (s : Bytes) (at to : ℕ) (q : Passed is_name s at to) where
  pub name_over : (c : Ctx) (g : Alt) (l : Lead) (a : Axis) (w n : Bytes) → run (drop at s) (name c g l a w n)
      ≡ run (drop to s) (name c g l a w (n ++ q.bytes))
  unfolding step
  name_over c g l a w n = over is_name (name c g l a w) (λ u b e. rw e) s at to q n

  pub quoted_over : (c : Ctx) (g : Alt) (l : Lead) (a : Axis) (w v u : Bytes) (k : ℕ) (n : Bytes)
      → run (drop at s) (quoted c g l a w v u k n) ≡ run (drop to s) (quoted c g l a w v u k (n ++ q.bytes))
  unfolding step
  quoted_over c g l a w v u k n = over is_name (quoted c g l a w v u k) (λ y b e. rw e) s at to q n

name_ends : (t : Bytes) (c : Ctx) (g : Alt) (l : Lead) (a : Axis) (w n : Bytes) → is_name (get_or t 0 0) ≡ false
    → run t (name c g l a w n) ≡ run t (after c g l (test a (called w n)) [])
unfolding run finish step
name_ends [] c g l a w n h = refl
name_ends (b ∷ t) c g l a w n h = rw h refl

-- a name that stands in the text
module _ (s : Bytes) (at end : ℕ) (h : is_start (byte_at s at) ≡ true) (q : Passed is_name s (at + 1) end) where
  pub name_there : at < length s
  unfolding is_start
  name_there = there is_start s at refl h

  abbrev pub word_of : Bytes
  word_of = byte_at s at ∷ q.bytes

  pub word_split : drop at s ≡ word_of ++ drop end s
  word_split = drop-cons s at 0 name_there ∙ ap (λ (t : Bytes). byte_at s at ∷ t) (rw (← add-one) q.split)

  pub word_length : length word_of ≡ end - at
  word_length =
      let z : length s - (at + 1) ≡ length q.bytes + (length s - end) = sym (length-drop (at + 1) s)
      ∙ ap length q.split ∙ length-append q.bytes (drop end s) ∙ rw length-drop refl in
      omega (arith, z, q.from, q.fits, name_there)

  pub word_part : part s at end ≡ word_of
  word_part = rw word_split (take_at word_of (drop end s) (end - at) word_length)

  pub word_is : is_word word_of ≡ true
  unfolding is_word
  word_is = rw (h, q.all) refl

  pub part_is : is_word (part s at end) ≡ true
  part_is = rw word_part word_is

  -- from where the name has begun to its end
  pub word_runs : (c : Ctx) (g : Alt) (l : Lead) (a : Axis) (w : Bytes)
      → run (drop (at + 1) s) (name c g l a w (byte_at s at ∷ []))
      ≡ run (drop end s) (after c g l (test a (called w word_of)) [])
  word_runs c g l a w = name_over s (at + 1) end q c g l a w (byte_at s at ∷ [])
      ∙ name_ends (drop end s) c g l a w word_of (rw (head_drop s end) q.stops)
