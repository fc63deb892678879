-- One law for each way through the functions that read a step's head.
use Prim.Native.Nat.{ℕ, zero, suc, ◌+◌, ◌-◌, ◌<◌, ◌≤◌}
use mathlib.Core.Path.{◌≡◌, refl, sym, ap, ◌∙◌, subst}
use mathlib.Core.Bool.{Bool, true, false, cond, ◌&&◌, ◌||◌, and-false}
use mathlib.Core.List.{List, [], ◌∷◌, ◌++◌, append_assoc}
use mathlib.Core.Option.{Option, none, some}
use native.Mathlib.Omega.{arith}
use Rattle.std.proofs.lemmas.Bool.{and_from, and_parts, false_from_ne_true, false≢true, ne_eqb}
use lib.Dec.{eqb, eqb_refl}
use lib.ListN.{length, get_or, drop, length-drop, length-append}
use lib.Seq.{drop-cons}
use Rattle.std.specs.Prelude.{Option as Maybe, Some, None, unwrap_or, Result, Ok, Err}
use Rattle.common.specs.NodeTests.{node_test}
use Rattle.common.specs.represent.Numbers.{axis_number, test_number}
use Rattle.common.specs.declared.axis.Axis.{Axis as CodeAxis}
use Rattle.common.specs.declared.axis.Axis.TheVariants as Axes
use Rattle.common.specs.declared.node_test.NodeTest.{NodeTest}
use Rattle.common.specs.declared.node_test.NodeTest.TheVariants as Tests
use Rattle.xpath.specs.Term as term
use Rattle.lines.specs.Ascii.{ascii}
use Rattle.lines.specs.Line.{same_bytes}
use Rattle.common.specs.Lists.{all_of}
use Rattle.selector_grammar.specs.Bytes.{Bytes, is_space, is_start, is_name, is_quote, is_word, not_word}
use Rattle.selector_grammar.specs.Bytes.{true_word, false_word}
use Rattle.selector_grammar.specs.Words.{find, next, types, axes, is_some, or_zero, is_type, type_code, is_axis}
use Rattle.selector_grammar.specs.Words.{axis_code}
use Rattle.selector_grammar.specs.Words.{instruction_word, number_of}
use Rattle.selector_grammar.specs.Grammar.{Axis, implied, attribute, axis, Test, any, called, kind, target, dot}
use Rattle.selector_grammar.specs.Grammar.{dots, test, Spaces, spell_axis, spell_test, spell_step, takes_predicate}
use Rattle.selector_grammar.specs.Denotes.{step_of, test_of, axis_of, step_names, test_names, unlisted}
use Rattle.selector_grammar.specs.private.Reader.{State, need, name, testing, colon, type_open, quote, quoted, unquoted}
use Rattle.selector_grammar.specs.private.Reader.{after, dot1, Ctx, top, inside, Alt, first, more, Lead, start, bare}
use Rattle.selector_grammar.specs.private.Reader.{at_root}
use Rattle.selector_grammar.specs.private.Reader.{at_any, after1, after2, step, follow, finish, run, bad}
use Rattle.selector_grammar.specs.private.Reader.{need_byte, after_byte, paren_byte_next, colon_byte_next, call_byte}
use Rattle.lines.proofs.SameBytes.{same_bytes_lem}
use Rattle.selector_grammar.proofs.Basics.{is_true, space_name}
use Rattle.selector_grammar.proofs.Forward.{quote_cases}
use Rattle.selector_heads.specs.declared.Head.{Head}
use Rattle.selector_heads.specs.declared.StepName.{StepName}
use Rattle.selector_heads.specs.declared.StepName.TheVariants as Naming
use Rattle.selector_heads.specs.declared.Opens.{Opens}
use Rattle.selector_heads.specs.declared.Opens.TheVariants as Opening
use Rattle.selector_words.specs.private.Names.{pick_from, given}
use Rattle.selector_words.specs.private.Scan.{byte_at, Passed, begins_step}
use Rattle.selector_heads.specs.private.Head.{name_number, name_place, name_by, place_of, Between, NameAt, callable}
use Rattle.selector_heads.specs.private.Head.{part, plain_head, named_head, is_implied}
use Rattle.selector_heads.specs.private.Head.{opens_call, NoCall, Begins, Stuck, TestMet}
use Rattle.selector_heads.specs.private.Head.{TypeMet, TargetMet, HeadMet, DotMet, CallAt}
use Rattle.selector_heads.specs.private.Head.{OperandMet, opened_by, proceed}
use Rattle.selector_words.proofs.Named.{word_names}
use Rattle.selector_words.proofs.Scanned.{there, head_drop}
use Rattle.selector_heads.proofs.Ran.{on_here, on_pass, on_stop, after_over, testing_over, type_over}
use Rattle.selector_heads.proofs.Ran.{unquoted_over, quoted_over, word_of, name_there, word_split, word_length}
use Rattle.selector_heads.proofs.Ran.{word_part, word_is, word_runs}

pub byte_there : (s : Bytes) (at b : ℕ) → eqb 0 b ≡ false → byte_at s at ≡ b → at < length s
byte_there s at b h e = there (λ c. eqb c b) s at h (rw e (eqb_self b))
  where
    eqb_self : (n : ℕ) → eqb n n ≡ true
    eqb_self n = is_true (eqb n n) (eqb_refl n)

pub passed_length : (p : ℕ → Bool) (s : Bytes) (at to : ℕ) (q : Passed p s at to) → length q.bytes ≡ to - at
passed_length p s at to q =
    let z : length s - at ≡ length q.bytes + (length s - to) = sym (length-drop at s) ∙ ap length q.split
    ∙ length-append q.bytes (drop to s) ∙ rw length-drop refl in
    omega (arith, z, q.from, q.fits)

-- what is passed is as long as its places say
pub passed_to : (p : ℕ → Bool) (s : Bytes) (at to : ℕ) (q : Passed p s at to) → at + length q.bytes ≡ to
passed_to p s at to q = omega (arith, passed_length p s at to q, q.from)

pub on_fail : (s : Bytes) (at : ℕ) (st : State) → at < length s → step st (byte_at s at) ≡ none → run (drop at s) st
    ≡ bad (length s - at)
unfolding proceed follow
on_fail s at st h e = on_here s at st h ∙ rw e refl

pub no : {A : Type 0} → ◌≡◌ {A = Bool} false true → A
no e = absurd (false≢true e)

pub yes_no : {A : Type 0} → ◌≡◌ {A = Bool} true false → A
yes_no e = absurd (false≢true (sym e))

-- `.` and `..`
dot_ends : (t : Bytes) (c : Ctx) (g : Alt) (l : Lead) (w : Bytes) → eqb (get_or t 0 0) 46 ≡ false
    → run t (dot1 c g l w)
    ≡ run t (after c g l (dot w) [])
unfolding run finish step
dot_ends [] c g l w h = refl
dot_ends (b ∷ t) c g l w h = rw h refl

module _ (s : Bytes) (at : ℕ) (b : byte_at s at ≡ 46) where
  dot_there : at < length s
  dot_there = byte_there s at 46 refl b

  dot_first : (c : Ctx) (g : Alt) (l : Lead) (w : Bytes) → run (drop at s) (need c g l w)
      ≡ run (drop (at + 1) s) (dot1 c g l w)
  unfolding step need_byte is_start is_space
  dot_first c g l w = on_pass s at (need c g l w) (dot1 c g l w) dot_there (rw b refl)

  pub dot_two : (to : ℕ) → byte_at s (at + 1) ≡ 46 → Passed is_space s (at + 1 + 1) to
      → DotMet s at (plain_head to Axes.Parent Tests.Node false)
  unfolding step step_of step_names unlisted paren_byte_next colon_byte_next takes_predicate spell_step
  dot_two to e q =
      record {
        between = record { from = omega (arith, q.from); fits = q.fits };
        read = λ list. record {
          tree = λ w. dots w;
          spaces = q.bytes;
          runs = λ c g l w. dot_first c g l w
              ∙ on_pass s (at + 1) (dot1 c g l w) (after c g l (dots w) []) (byte_there s (at + 1) 46 refl e)
              (rw e refl) ∙ after_over s (at + 1 + 1) to q c g l (dots w);
          term = λ w. refl;
          names = λ w i h. refl;
          paren = λ c g l w n h. refl;
          colon = λ c g l w h. refl;
          takes = λ w. refl;
          size = λ w. simp length-append (omega (arith, passed_length is_space s (at + 1 + 1) to q, q.from));
          stops = q.stops;
        };
      }

  pub dot_one : (to : ℕ) → (byte_at s (at + 1) ≡ 46 → ⊥) → Passed is_space s (at + 1) to
      → DotMet s at (plain_head to Axes.Itself Tests.Node false)
  unfolding step step_of step_names unlisted paren_byte_next colon_byte_next takes_predicate spell_step
  dot_one to e q =
      record {
        between = record { from = omega (arith, q.from); fits = q.fits };
        read = λ list. record {
          tree = λ w. dot w;
          spaces = q.bytes;
          runs = λ c g l w. dot_first c g l w
              ∙ dot_ends (drop (at + 1) s) c g l w (rw (head_drop s (at + 1)) (ne_eqb (byte_at s (at + 1)) 46 e))
              ∙ after_over s (at + 1) to q c g l (dot w);
          term = λ w. refl;
          names = λ w i h. refl;
          paren = λ c g l w n h. refl;
          colon = λ c g l w h. refl;
          takes = λ w. refl;
          size = λ w. simp length-append (omega (arith, passed_length is_space s (at + 1) to q, q.from));
          stops = q.stops;
        };
      }

-- named_head, by the number that the list gives to the name
module _ (i : ℕ) (a : CodeAxis) (t : NodeTest) (p : ℕ) where
  pub named_some : (n k : ℕ) → Some k ≡ given n
      → ◌≡◌ {A = Head} (record { at = i; axis = a; test = t; name = Naming.Listed k; filters = true })
      (named_head i a t n p)
  named_some zero k e = absurd (apart e)
    where
      apart : ◌≡◌ {A = Maybe ℕ} (Some k) None → ⊥
      apart q = cc
  named_some (suc n) k e =
      let q : k ≡ suc n = cc in
      let z : eqb (suc n) 0 ≡ false = ne_eqb (suc n) 0 (λ x. omega (arith, x)) in
      rw (q, z) refl

  pub named_none : (n : ℕ) → None ≡ given n
      → ◌≡◌ {A = Head} (record { at = i; axis = a; test = t; name = Naming.Unlisted p; filters = true })
      (named_head i a t n p)
  named_none zero e = refl
  named_none (suc n) e = absurd (apart e)
    where
      apart : ◌≡◌ {A = Maybe ℕ} None (Some (suc n)) → ⊥
      apart q = cc

-- a target
pub quote_there : (s : Bytes) (at : ℕ) → is_quote (byte_at s at) ≡ true → at < length s
unfolding is_quote
quote_there s at h = there is_quote s at refl h

module _ (s list : Bytes) (at : ℕ) (ax : CodeAxis) (k : is_quote (byte_at s at) ≡ true) where
  pub target_none : is_start (byte_at s (at + 1)) ≡ false → TargetMet s list at ax (Err (at + 1))
  unfolding step finish
  target_none h =
      let i = quote_there s at k in
      record {
        between = record { from = omega arith; fits = omega (arith, i) };
        axis = tt;
        read = tt;
        failed = λ c g l a w v u. on_stop s (at + 1) (quote c g l a w v u (byte_at s at)) (omega (arith, i))
            (rw h refl) refl;
      }

  module _ (h : is_start (byte_at s (at + 1)) ≡ true) (end : ℕ) (q : Passed is_name s (at + 1 + 1) end) where
    target_word : (c : Ctx) (g : Alt) (l : Lead) (a : Axis) (w v u : Bytes)
        → run (drop (at + 1) s) (quote c g l a w v u (byte_at s at))
        ≡ run (drop end s) (quoted c g l a w v u (byte_at s at) (word_of s (at + 1) end h q))
    unfolding step
    target_word c g l a w v u =
        on_pass s (at + 1) (quote c g l a w v u (byte_at s at))
        (quoted c g l a w v u (byte_at s at) (byte_at s (at + 1) ∷ [])) (name_there s (at + 1) end h q) (rw h refl)
        ∙ quoted_over s (at + 1 + 1) end q c g l a w v u (byte_at s at) (byte_at s (at + 1) ∷ [])

    pub target_open : (byte_at s end ≡ byte_at s at → ⊥) → TargetMet s list at ax (Err end)
    unfolding step finish
    target_open e =
        record {
          between = record { from = omega (arith, q.from); fits = q.fits };
          axis = tt;
          read = tt;
          failed = λ c g l a w v u. target_word c g l a w v u
              ∙ on_stop s end (quoted c g l a w v u (byte_at s at) (word_of s (at + 1) end h q)) q.fits
              (rw (q.stops, ne_eqb (byte_at s end) (byte_at s at) e) refl) refl;
        }

    module _ (e : byte_at s end ≡ byte_at s at) (close : ℕ) (z : Passed is_space s (end + 1) close) where
      pub end_there : end < length s
      end_there = quote_there s end (rw e k)

      target_inner : (c : Ctx) (g : Alt) (l : Lead) (a : Axis) (w v u : Bytes)
          → run (drop (at + 1) s) (quote c g l a w v u (byte_at s at))
          ≡ run (drop close s) (unquoted c g l a w v u (byte_at s at) (word_of s (at + 1) end h q) z.bytes)
      unfolding step
      target_inner c g l a w v u =
          target_word c g l a w v u
          ∙ on_pass s end (quoted c g l a w v u (byte_at s at) (word_of s (at + 1) end h q))
          (unquoted c g l a w v u (byte_at s at) (word_of s (at + 1) end h q) []) end_there
          (rw (q.stops, e, is_true (eqb (byte_at s at) (byte_at s at)) (eqb_refl (byte_at s at))) refl)
          ∙ unquoted_over s (end + 1) close z c g l a w v u (byte_at s at) (word_of s (at + 1) end h q)

      pub target_unclosed : (byte_at s close ≡ 41 → ⊥) → TargetMet s list at ax (Err close)
      unfolding step finish
      target_unclosed f =
          record {
            between = record { from = omega (arith, q.from, z.from); fits = z.fits };
            axis = tt;
            read = tt;
            failed = λ c g l a w v u. target_inner c g l a w v u
                ∙ on_stop s close (unquoted c g l a w v u (byte_at s at) (word_of s (at + 1) end h q) z.bytes)
                z.fits (rw (z.stops, ne_eqb (byte_at s close) 41 f) refl) refl;
          }

      pub target_read : (to : ℕ) → byte_at s close ≡ 41 → Passed is_space s (close + 1) to
          → TargetMet s list at ax (Ok (named_head to ax Tests.Target (number_of list (part s (at + 1) end)) (at + 1)))
      unfolding step
      target_read to f y =
          record {
            between = record { from = omega (arith, q.from, z.from, y.from); fits = y.fits };
            axis = refl;
            read = record {
              word = word_of s (at + 1) end h q;
              inner = z.bytes;
              spaces = y.bytes;
              runs = λ c g l a w v u. target_inner c g l a w v u
                  ∙ on_pass s close (unquoted c g l a w v u (byte_at s at) (word_of s (at + 1) end h q) z.bytes)
                  (after c g l (test a (target w v u (byte_at s at) (word_of s (at + 1) end h q) z.bytes)) [])
                  (byte_there s close 41 refl f) (rw (z.stops, f) refl)
                  ∙ after_over s (close + 1) to y c g l
                  (test a (target w v u (byte_at s at) (word_of s (at + 1) end h q) z.bytes));
              test = refl;
              name = ap (λ (m : Bytes). name_by (number_of list m) (at + 1)) (word_part s (at + 1) end h q);
              takes = refl;
              size = omega (
                arith,
                word_length s (at + 1) end h q,
                passed_length is_space s (end + 1) close z,
                passed_length is_space s (close + 1) to y,
                q.from,
                z.from,
                y.from,
              );
              stops = y.stops;
            };
            failed = tt;
          }

-- the number that a table gives to a word, and the word's place in its list
unfoldable counted : ℕ → Option ℕ → Maybe ℕ
counted i none = None
counted i (some k) = Some (i + k)

counted_next : (i : ℕ) (x : Option ℕ) → counted (suc i) x ≡ counted i (next x)
unfolding counted next
counted_next i none = refl
counted_next i (some k) = let e : suc i + k ≡ i + suc k = omega arith in ap (λ (n : ℕ). Some n) e

picked : (i : ℕ) (ms : List Bytes) (n : Bytes) → pick_from i ms n ≡ counted i (find n ms)
unfolding pick_from find counted
picked i [] n = refl
picked i (m ∷ ms) n = go (same_bytes n m) refl (picked (suc i) ms n)
  where
    go : (b : Bool) → same_bytes n m ≡ b → pick_from (suc i) ms n ≡ counted (suc i) (find n ms)
        → cond (same_bytes n m) (Some i) (pick_from (suc i) ms n)
        ≡ counted i (cond (same_bytes n m) (some 0) (next (find n ms)))
    go true e k = let z : i ≡ i + 0 = omega arith in rw e (ap (λ (n : ℕ). Some n) z)
    go false e k = rw e (k ∙ counted_next i (find n ms))

picked_none : (i : ℕ) (ms : List Bytes) (n : Bytes) → None ≡ pick_from i ms n → is_some (find n ms) ≡ false
unfolding is_some counted
picked_none i ms n e = go (find n ms) (e ∙ picked i ms n)
  where
    go : (x : Option ℕ) → None ≡ counted i x → is_some x ≡ false
    go none h = refl
    go (some k) h = absurd (apart h)
      where
        apart : ◌≡◌ {A = Maybe ℕ} None (Some (i + k)) → ⊥
        apart q = cc

picked_some : (i : ℕ) (ms : List Bytes) (n : Bytes) (t : ℕ) → Some t ≡ pick_from i ms n
    → (is_some (find n ms) ≡ true) × (t ≡ i + or_zero (find n ms))
unfolding is_some counted or_zero
picked_some i ms n t e = go (find n ms) (e ∙ picked i ms n)
  where
    go : (x : Option ℕ) → Some t ≡ counted i x → (is_some x ≡ true) × (t ≡ i + or_zero x)
    go none h = absurd (apart h)
      where
        apart : ◌≡◌ {A = Maybe ℕ} (Some t) None → ⊥
        apart q = cc
    go (some k) h = (refl, cc)

pub type_none : (n : Bytes) → None ≡ pick_from node_test types n → is_type n ≡ false
type_none n e = picked_none 2 types n e

pub type_some : (n : Bytes) (t : ℕ) → Some t ≡ pick_from node_test types n → (is_type n ≡ true) × (t ≡ type_code n)
type_some n t e = picked_some 2 types n t e

pub axis_none : (n : Bytes) → None ≡ pick_from 0 axes n → is_axis n ≡ false
axis_none n e = picked_none 0 axes n e

pub axis_some : (n : Bytes) (t : ℕ) → Some t ≡ pick_from 0 axes n → (is_axis n ≡ true) × (t ≡ axis_code n)
axis_some n t e = let u = picked_some 0 axes n t e in (u.0, u.1 ∙ omega arith)

-- node types
instruction_code : type_code instruction_word ≡ 5
unfolding instruction_word types find same_bytes next or_zero
instruction_code = refl

instruction : (t : NodeTest) → test_number t ≡ 5 → t ≡ Tests.Instruction
instruction Tests.Name e = absurd (omega (arith, e))
instruction Tests.Star e = absurd (omega (arith, e))
instruction Tests.Node e = absurd (omega (arith, e))
instruction Tests.Text e = absurd (omega (arith, e))
instruction Tests.Comment e = absurd (omega (arith, e))
instruction Tests.Instruction e = refl
instruction Tests.Target e = absurd (omega (arith, e))

not_instruction : (n : Bytes) (t : NodeTest) → test_number t ≡ type_code n → (t ≡ Tests.Instruction → ⊥)
    → same_bytes n instruction_word ≡ false
not_instruction n t e f = false_from_ne_true (same_bytes n instruction_word)
    (λ h. absurd (f (instruction t (e ∙ ap type_code (same_bytes_lem n instruction_word h) ∙ instruction_code))))

-- a type of code 5 is `processing-instruction`
is_instruction : (n : Bytes) → is_type n ≡ true → 5 ≡ type_code n → same_bytes n instruction_word ≡ true
unfolding types find is_some next or_zero instruction_word
is_instruction n h e = go _ _ _ _ refl refl refl refl
  where
    go : (a b c d : Bool) → same_bytes n (ascii "node") ≡ a → same_bytes n (ascii "text") ≡ b
        → same_bytes n (ascii "comment") ≡ c → same_bytes n instruction_word ≡ d → same_bytes n instruction_word ≡ true
    go a b c true i j k l = l
    go true b c false i j k l = absurd (omega (arith, rw i at e))
    go false true c false i j k l = absurd (omega (arith, rw (i, j) at e))
    go false false true false i j k l = absurd (omega (arith, rw (i, j, k) at e))
    go false false false false i j k l = no (rw (i, j, k, l) at h)

-- the place of a name is told where it isn't listed, and its number where it is
one_name : (k p q : ℕ) → p ≡ q → cond (eqb k 0) (some p) none ≡ place_of (name_place (name_by k q))
one_name k p q e = go (eqb k 0)
  where
    go : (b : Bool) → cond b (some p) none ≡ place_of (name_place (cond b (Naming.Unlisted q) (Naming.Listed k)))
    go true = ap some e
    go false = refl

number_by : (k p : ℕ) → name_number (name_by k p) ≡ k
number_by zero p = refl
number_by (suc k) p =
    let e : eqb (suc k) 0 ≡ false = ne_eqb (suc k) 0 (λ x. omega (arith, x)) in rw e refl

-- after a node type and `(`
module _ (s list : Bytes) (at : ℕ) (ax : CodeAxis) (t : NodeTest) (inner : ℕ) (q : Passed is_space s at inner) where
  pub type_close : (to : ℕ) → byte_at s inner ≡ 41 → Passed is_space s (inner + 1) to
      → TypeMet s list at ax t (Ok (plain_head to ax t true))
  unfolding step is_space test_of test_names unlisted paren_byte_next colon_byte_next spell_test
  type_close to b z =
      record {
        between = record { from = omega (arith, q.from, z.from); fits = z.fits };
        axis = refl;
        read = λ n v i j. record {
          tree = λ w. kind w n v q.bytes;
          spaces = z.bytes;
          runs = λ c g l a w. type_over s at inner q c g l a w n v
              ∙ on_pass s inner (type_open c g l a w n v q.bytes) (after c g l (test a (kind w n v q.bytes)) [])
              (byte_there s inner 41 refl b) (rw b refl)
              ∙ after_over s (inner + 1) to z c g l (test a (kind w n v q.bytes));
          term = λ k w. ap (λ (x : ℕ). term.AxisStep k x 0) (sym j);
          names = λ w i h. refl;
          paren = λ c g l a w. refl;
          colon = λ c g l a w. colon_kind c g l a w n v q.bytes z.bytes;
          takes = refl;
          size = λ w. simp length-append
              (omega (
                arith,
                passed_length is_space s at inner q,
                passed_length is_space s (inner + 1) to z,
                q.from,
                z.from,
              ));
          stops = z.stops;
        };
        failed = tt;
      }
    where
      colon_kind : (c : Ctx) (g : Alt) (l : Lead) (a : Axis) (w n v u y : Bytes)
          → colon_byte_next c g l (test a (kind w n v u)) y ≡ none
      colon_kind c g l implied w n v u y = refl
      colon_kind c g l (attribute x) w n v u y = refl
      colon_kind c g l (axis x m o) w n v u y = refl

  type_fails : (byte_at s inner ≡ 41 → ⊥)
      → ((n : Bytes) → is_type n ≡ true → test_number t ≡ type_code n
      → (is_quote (byte_at s inner) && same_bytes n instruction_word) ≡ false)
      → TypeMet s list at ax t (Err inner)
  unfolding step finish
  type_fails b f =
      record {
        between = record { from = q.from; fits = q.fits };
        axis = tt;
        read = tt;
        failed = λ n v i j c g l a w. type_over s at inner q c g l a w n v
            ∙ on_stop s inner (type_open c g l a w n v q.bytes) q.fits
            (rw (q.stops, ne_eqb (byte_at s inner) 41 b, f n i j) refl) refl;
      }

  pub type_plain : (byte_at s inner ≡ 41 → ⊥) → (t ≡ Tests.Instruction → ⊥) → TypeMet s list at ax t (Err inner)
  type_plain b f = type_fails b (λ n i j. rw (not_instruction n t j f) (and-false (is_quote (byte_at s inner))))

  pub type_unquoted : (byte_at s inner ≡ 41 → ⊥) → is_quote (byte_at s inner) ≡ false
      → TypeMet s list at ax t (Err inner)
  type_unquoted b f = type_fails b (λ n i j. rw f refl)

  pub type_target : (o : Result Head ℕ) → t ≡ Tests.Instruction → is_quote (byte_at s inner) ≡ true
      → TargetMet s list inner ax o
      → TypeMet s list at ax t o
  unfolding step is_space is_quote test_of test_names unlisted paren_byte_next colon_byte_next spell_test
  type_target o f k m = go o m
    where
      not_close : eqb (byte_at s inner) 41 ≡ false
      not_close = quote_cases (λ c. eqb c 41 ≡ false) (byte_at s inner) k refl refl

      opens : (c : Ctx) (g : Alt) (l : Lead) (a : Axis) (w n v : Bytes) → is_type n ≡ true → test_number t ≡ type_code n
          → run (drop at s) (type_open c g l a w n v [])
          ≡ run (drop (inner + 1) s) (quote c g l a w v q.bytes (byte_at s inner))
      opens c g l a w n v i j =
          type_over s at inner q c g l a w n v
          ∙ on_pass s inner (type_open c g l a w n v q.bytes) (quote c g l a w v q.bytes (byte_at s inner))
          (quote_there s inner k)
          (rw (
            q.stops,
            not_close,
            and_from (is_quote (byte_at s inner)) (same_bytes n instruction_word) k
                (is_instruction n i (sym (ap test_number f) ∙ j)),
          )
          refl)

      lengths : (w n v u : Bytes) (b : ℕ) → length (w ++ (n ++ (v ++ (40 ∷ (u ++ (b ∷ []))))))
          ≡ length (w ++ (n ++ (v ++ (40 ∷ [])))) + length u + 1
      lengths w n v u b = rw
          (length-append, length-append, length-append, length-append, length-append, length-append, length-append)
          (omega arith)

      place : (w n v : Bytes) (x : ℕ) → is_type n ≡ true → test_number t ≡ type_code n
          → x + length (w ++ (n ++ (v ++ (40 ∷ [])))) ≡ at
          → x + length (w ++ (instruction_word ++ (v ++ (40 ∷ (q.bytes ++ (byte_at s inner ∷ [])))))) ≡ inner + 1
      place w n v x i j g =
          rw (← same_bytes_lem n instruction_word (is_instruction n i (sym (ap test_number f) ∙ j)))
          (omega (
            arith,
            lengths w n v q.bytes (byte_at s inner),
            g,
            passed_length is_space s at inner q,
            q.from,
          ))

      colon_target : (c : Ctx) (g : Alt) (l : Lead) (a : Axis) (w v u : Bytes) (b : ℕ) (m y z : Bytes)
          → colon_byte_next c g l (test a (target w v u b m y)) z ≡ none
      colon_target c g l implied w v u b m y z = refl
      colon_target c g l (attribute x) w v u b m y z = refl
      colon_target c g l (axis x n o) w v u b m y z = refl

      go : (o : Result Head ℕ) → TargetMet s list inner ax o → TypeMet s list at ax t o
      go (Ok h) m =
          let r = m.read in
          record {
            between = record { from = omega (arith, q.from, m.between.from); fits = m.between.fits };
            axis = m.axis;
            read = λ n v i j. record {
              tree = λ w. target w v q.bytes (byte_at s inner) r.word r.inner;
              spaces = r.spaces;
              runs = λ c g l a w. opens c g l a w n v i j ∙ r.runs c g l a w v q.bytes;
              term = λ x w. λ y. term.AxisStep x (sym (ap test_number r.test) y)
                  (sym (ap name_number r.name ∙ number_by (number_of list r.word) (inner + 1)) y);
              names = λ w x g. one_name (number_of list r.word) _ (inner + 1) (place w n v x i j g)
                  ∙ sym (ap (λ (z : StepName). place_of (name_place z)) r.name);
              paren = λ c g l a w. refl;
              colon = λ c g l a w. colon_target c g l a w v q.bytes (byte_at s inner) r.word r.inner r.spaces;
              takes = r.takes;
              size = λ w. rw (same_bytes_lem n instruction_word (is_instruction n i (sym (ap test_number f) ∙ j)))
                  (simp length-append
                  (omega (arith, r.size, passed_length is_space s at inner q, q.from)));
              stops = r.stops;
            };
            failed = tt;
          }
      go (Err e) m =
          record {
            between = record { from = omega (arith, q.from, m.between.from); fits = m.between.fits };
            axis = tt;
            read = tt;
            failed = λ n v i j c g l a w. opens c g l a w n v i j ∙ m.failed c g l a w v q.bytes;
          }

-- a call is due only where an operand begins
call_none : (c : Ctx) (g : Alt) (l : Lead) (a : Axis) (w n v : Bytes)
    → (is_implied a ≡ true → callable c g l ≡ true → opens_call n ≡ false) → call_byte c g l a w n v ≡ none
unfolding call_byte callable is_implied opens_call
call_none (inside x p) first (start bare) implied w n v h =
    go (same_bytes n not_word) (same_bytes n true_word) (same_bytes n false_word) refl refl refl (h refl refl)
  where
    go : (b d e : Bool) → same_bytes n not_word ≡ b → same_bytes n true_word ≡ d → same_bytes n false_word ≡ e
        → (same_bytes n not_word || (same_bytes n true_word || same_bytes n false_word)) ≡ false
        → call_byte (inside x p) first (start bare) implied w n v ≡ none
    go false false false i j k f = rw (i, j, k) refl
    go true d e i j k f = yes_no (rw i at f)
    go false true e i j k f = yes_no (rw (i, j) at f)
    go false false true i j k f = yes_no (rw (i, j, k) at f)
call_none top g l a w n v h = refl
call_none (inside x p) (more u y) l a w n v h = refl
call_none (inside x p) first (start (at_root y)) a w n v h = refl
call_none (inside x p) first (start (at_any y)) a w n v h = refl
call_none (inside x p) first (after1 y r z) a w n v h = refl
call_none (inside x p) first (after2 y r z) a w n v h = refl
call_none (inside x p) first (start bare) (attribute y) w n v h = refl
call_none (inside x p) first (start bare) (axis y m z) w n v h = refl

-- a name and what follows it
colon_axis : (c : Ctx) (g : Alt) (l : Lead) (a : Axis) (t : Test) (v : Bytes) → is_implied a ≡ false
    → colon_byte_next c g l (test a t) v ≡ none
unfolding colon_byte_next is_implied
colon_axis c g l implied t v h = yes_no h
colon_axis c g l (attribute x) t v h = refl
colon_axis c g l (axis x n o) t v h = refl

module _ (s list : Bytes) (at end to : ℕ) (m : NameAt s at end to) where
  abbrev named_word : Bytes
  named_word = word_of s at end m.begins m.names

  named_runs : (st : State) (c : Ctx) (g : Alt) (l : Lead) (a : Axis) (w : Bytes) → Begins st c g l a w (byte_at s at)
      → run (drop at s) st ≡ run (drop to s) (after c g l (test a (called w named_word)) m.spaces.bytes)
  named_runs st c g l a w b =
      on_pass s at st (name c g l a w (byte_at s at ∷ [])) (name_there s at end m.begins m.names)
      (b.named m.begins)
      ∙ word_runs s at end m.begins m.names c g l a w
      ∙ after_over s end to m.spaces c g l (test a (called w named_word))

  name_between : Between s at to
  name_between = record { from = omega (arith, m.names.from, m.spaces.from); fits = m.spaces.fits }

  name_as : (ax : CodeAxis) → ((c : Ctx) (g : Alt) (l : Lead) (a : Axis) (w : Bytes)
      → (is_implied a ≡ true → callable c g l ≡ true → NoCall s at) → byte_at s to ≡ 40
      → paren_byte_next c g l (test a (called w named_word)) m.spaces.bytes ≡ none)
      → TestMet s list at ax (byte_at s to ≡ 58 → ⊥)
      (Ok (named_head to ax Tests.Name (number_of list (part s at end)) at))
  unfolding test_of test_names unlisted spell_test
  name_as ax f =
      record {
        between = name_between;
        axis = refl;
        read = record {
          tree = λ w. called w named_word;
          spaces = m.spaces.bytes;
          runs = named_runs;
          told = record {
            term = λ k w. ap (λ (n : ℕ). term.AxisStep k 0 n)
                (ap (number_of list) (sym (word_part s at end m.begins m.names))
                ∙ sym (number_by (number_of list (part s at end)) at));
            names = λ w i h. rw (word_part s at end m.begins m.names)
                (one_name (number_of list named_word) (i + length w) at h);
            paren = f;
            colon = λ c g l a w h b. implied_colon a (λ e. h e b) c g l w;
            takes = refl;
            size = λ w. simp length-append (omega (
              arith,
              word_length s at end m.begins m.names,
              passed_length is_space s end to m.spaces,
              m.names.from,
              m.spaces.from,
            ));
            stops = m.spaces.stops;
          };
        };
        failed = tt;
      }
    where
      implied_colon : (a : Axis) → (is_implied a ≡ true → ⊥) → (c : Ctx) (g : Alt) (l : Lead) (w : Bytes)
          → colon_byte_next c g l (test a (called w named_word)) m.spaces.bytes ≡ none
      implied_colon a h c g l w = go (is_implied a) refl
        where
          go : (b : Bool) → is_implied a ≡ b
              → colon_byte_next c g l (test a (called w named_word)) m.spaces.bytes ≡ none
          go true e = absurd (h e)
          go false e = colon_axis c g l a (called w named_word) m.spaces.bytes e

  pub name_plain : (ax : CodeAxis) → (byte_at s to ≡ 40 → ⊥)
      → TestMet s list at ax (byte_at s to ≡ 58 → ⊥)
      (Ok (named_head to ax Tests.Name (number_of list (part s at end)) at))
  name_plain ax e = name_as ax (λ c g l a w h b. absurd (e b))

  pub name_call : (ax : CodeAxis) → byte_at s to ≡ 40 → is_type (part s at end) ≡ false
      → TestMet s list at ax (byte_at s to ≡ 58 → ⊥)
      (Ok (named_head to ax Tests.Name (number_of list (part s at end)) at))
  unfolding paren_byte_next
  name_call ax e f =
      let split : drop at s ≡ named_word ++ (m.spaces.bytes ++ (40 ∷ drop (suc to) s)) =
      word_split s at end m.begins m.names
      ∙ ap (λ (t : Bytes). named_word ++ t)
      (m.spaces.split ∙ ap (λ (t : Bytes). m.spaces.bytes ++ t)
      (drop-cons s to 0 (byte_there s to 40 refl e) ∙ rw e refl)) in
      let no_type : is_type named_word ≡ false = rw (word_part s at end m.begins m.names) at f in
      name_as ax (λ c g l a w h b. rw no_type
      (call_none c g l a w named_word m.spaces.bytes
      (λ i j. h i j named_word m.spaces.bytes (drop (suc to) s) (word_is s at end m.begins m.names)
      m.spaces.all split)))

  pub name_type : (ax : CodeAxis) (t : NodeTest) (o : Result Head ℕ) → byte_at s to ≡ 40
      → is_type (part s at end) ≡ true
      → test_number t ≡ type_code (part s at end)
      → TypeMet s list (to + 1) ax t o → TestMet s list at ax (byte_at s to ≡ 58 → ⊥) o
  unfolding step after_byte paren_byte_next is_space
  name_type ax t o e f k x = go o x
    where
      i : is_type named_word ≡ true
      i = rw (word_part s at end m.begins m.names) at f

      j : test_number t ≡ type_code named_word
      j = rw (word_part s at end m.begins m.names) at k

      opened : (st : State) (c : Ctx) (g : Alt) (l : Lead) (a : Axis) (w : Bytes)
          → Begins st c g l a w (byte_at s at) → run (drop at s) st
          ≡ run (drop (to + 1) s) (type_open c g l a w named_word m.spaces.bytes [])
      opened st c g l a w b = named_runs st c g l a w b
          ∙ on_pass s to (after c g l (test a (called w named_word)) m.spaces.bytes)
          (type_open c g l a w named_word m.spaces.bytes []) (byte_there s to 40 refl e) (rw (e, i) refl)

      lengths : (w n v : Bytes) → length (w ++ (n ++ (v ++ (40 ∷ [])))) ≡ length w + length n + length v + 1
      lengths w n v = rw (length-append, length-append, length-append) (omega arith)

      places : (w : Bytes) (y : ℕ) → y + length w ≡ at
          → y + length (w ++ (named_word ++ (m.spaces.bytes ++ (40 ∷ [])))) ≡ to + 1
      places w y z = omega (
        arith,
        lengths w named_word m.spaces.bytes,
        word_length s at end m.begins m.names,
        passed_length is_space s end to m.spaces,
        m.names.from,
        m.spaces.from,
        z,
      )

      go : (o : Result Head ℕ) → TypeMet s list (to + 1) ax t o → TestMet s list at ax (byte_at s to ≡ 58 → ⊥) o
      go (Ok h) x =
          record {
            between = record { from = omega (arith, name_between.from, x.between.from); fits = x.between.fits };
            axis = x.axis;
            read = let r = x.read named_word m.spaces.bytes i j in record {
              tree = r.tree;
              spaces = r.spaces;
              runs = λ st c g l a w b. opened st c g l a w b ∙ r.runs c g l a w;
              told = record {
                term = r.term;
                names = λ w y z. r.names w y (places w y z);
                paren = λ c g l a w _ _. r.paren c g l a w;
                colon = λ c g l a w _ _. r.colon c g l a w;
                takes = r.takes;
                size = λ w. omega (
                  arith,
                  r.size w,
                  lengths w named_word m.spaces.bytes,
                  word_length s at end m.begins m.names,
                  passed_length is_space s end to m.spaces,
                  m.names.from,
                  m.spaces.from,
                );
                stops = r.stops;
              };
            };
            failed = tt;
          }
      go (Err y) x =
          record {
            between = record { from = omega (arith, name_between.from, x.between.from); fits = x.between.fits };
            axis = tt;
            read = tt;
            failed = λ st c g l a w b _. opened st c g l a w b
                ∙ x.failed named_word m.spaces.bytes i j c g l a w;
          }

colon_any : (c : Ctx) (g : Alt) (l : Lead) (a : Axis) (w v : Bytes) → colon_byte_next c g l (test a (any w)) v ≡ none
unfolding colon_byte_next
colon_any c g l implied w v = refl
colon_any c g l (attribute x) w v = refl
colon_any c g l (axis x n o) w v = refl

-- a node test
module _ (s list : Bytes) (at : ℕ) (ax : CodeAxis) where
  pub test_star : (to : ℕ) → byte_at s at ≡ 42 → Passed is_space s (at + 1) to
      → TestMet s list at ax (is_start (byte_at s at) ≡ false) (Ok (plain_head to ax Tests.Star true))
  unfolding test_of test_names unlisted paren_byte_next spell_test
  test_star to b q =
      record {
        between = record { from = omega (arith, q.from); fits = q.fits };
        axis = refl;
        read = record {
          tree = λ w. any w;
          spaces = q.bytes;
          runs = λ st c g l a w n. on_pass s at st (after c g l (test a (any w)) []) (byte_there s at 42 refl b)
              (n.star b) ∙ after_over s (at + 1) to q c g l (test a (any w));
          told = record {
            term = λ k w. refl;
            names = λ w i h. refl;
            paren = λ c g l a w h n. refl;
            colon = λ c g l a w h n. colon_any c g l a w q.bytes;
            takes = refl;
            size = λ w. simp length-append (omega (arith, passed_length is_space s (at + 1) to q, q.from));
            stops = q.stops;
          };
        };
        failed = tt;
      }

  pub test_none : at ≤ length s → (byte_at s at ≡ 42 → ⊥) → is_start (byte_at s at) ≡ false
      → TestMet s list at ax (is_start (byte_at s at) ≡ false) (Err at)
  test_none i b h =
      record {
        between = record { from = omega arith; fits = i };
        axis = tt;
        read = tt;
        failed = λ st c g l a w n z. let u = z h (ne_eqb (byte_at s at) 42 b) in on_stop s at st i u.0 u.1;
      }

  pub test_name : (Q : Type 0) (o : Result Head ℕ) → is_start (byte_at s at) ≡ true → TestMet s list at ax Q o
      → TestMet s list at ax (is_start (byte_at s at) ≡ false) o
  test_name Q (Ok h) b m =
      let r = m.read in
      let t = r.told in
      record {
        between = m.between;
        axis = m.axis;
        read = record {
          tree = r.tree;
          spaces = r.spaces;
          runs = r.runs;
          told = record {
            term = t.term;
            names = t.names;
            paren = t.paren;
            colon = λ c g l a w n. t.colon c g l a w (λ i. yes_no (sym b ∙ n i));
            takes = t.takes;
            size = t.size;
            stops = t.stops;
          };
        };
        failed = tt;
      }
  test_name Q (Err i) b m = record { between = m.between; axis = tt; read = tt; failed = m.failed }

pub start_there : (s : Bytes) (at : ℕ) → is_start (byte_at s at) ≡ true → at < length s
unfolding is_start
start_there s at h = there is_start s at refl h

-- a test after an axis
testing_begins : (c : Ctx) (g : Alt) (l : Lead) (a : Axis) (w : Bytes) (b : ℕ) → is_space b ≡ false
    → Begins (testing c g l a w) c g l a w b
unfolding step is_start is_space
testing_begins c g l a w b h = record { named = λ e. rw e refl; star = λ e. rw e refl }

testing_stuck : (c : Ctx) (g : Alt) (l : Lead) (a : Axis) (w : Bytes) (b : ℕ) → is_space b ≡ false
    → Stuck (testing c g l a w) b
unfolding step finish
testing_stuck c g l a w b h i j = (rw (i, h, j) refl, refl)

-- the axis is spelt up to the place `from` of whitespace, and the test begins at `to`
module _ (s list : Bytes) (at from to : ℕ) (ax : CodeAxis) (Q : Type 0) (o : Result Head ℕ) (i : at ≤ from)
    (q : Passed is_space s from to)
    (m : TestMet s list to ax Q o)
    (a : Bytes → Axis) (k : (w : Bytes) → is_implied (a w) ≡ false) (n : (w : Bytes) → axis_of (a w) ≡ axis_number ax)
    (y : (w : Bytes) → length (spell_axis (a w)) ≡ length w + (from - at))
    (r : (c : Ctx) (g : Alt) (l : Lead) (w : Bytes) → run (drop at s) (need c g l w)
    ≡ run (drop from s) (testing c g l (a w) [])) where
  pub head_axis : HeadMet s list at o
  unfolding step_of step_names takes_predicate spell_step
  head_axis = go o m
    where
      go : (o : Result Head ℕ) → TestMet s list to ax Q o → HeadMet s list at o
      go (Ok h) m =
          let t = m.read in
          let x = t.told in
          record {
            between = record { from = omega (arith, i, q.from, m.between.from); fits = m.between.fits };
            read = record {
              tree = λ w. test (a w) (t.tree q.bytes);
              spaces = t.spaces;
              runs = λ c g l w. r c g l w ∙ testing_over s from to q c g l (a w)
                  ∙ t.runs (testing c g l (a w) q.bytes) c g l (a w) q.bytes
                  (testing_begins c g l (a w) q.bytes (byte_at s to) q.stops);
              term = λ w. x.term (axis_of (a w)) q.bytes
                  ∙ ap (λ (z : ℕ). term.AxisStep z (test_number h.test) (name_number h.name))
                  (n w ∙ ap axis_number (sym m.axis));
              names = λ w j f. x.names q.bytes (j + length (spell_axis (a w)))
                  (omega (arith, f, y w, i, passed_length is_space s from to q, q.from));
              paren = λ c g l w f b. x.paren c g l (a w) q.bytes (λ z. yes_no (sym z ∙ k w)) b;
              colon = λ c g l w b. x.colon c g l (a w) q.bytes (λ z. yes_no (sym z ∙ k w)) b;
              takes = λ w. sym x.takes;
              size = λ w. rw append_assoc
                  (rw (length-append (spell_axis (a w)) (spell_test (t.tree q.bytes) ++ t.spaces))
                  (omega (arith, x.size q.bytes, y w, i, passed_length is_space s from to q, q.from)));
              stops = x.stops;
            };
            failed = tt;
          }
      go (Err e) m =
          record {
            between = record { from = omega (arith, i, q.from, m.between.from); fits = m.between.fits };
            read = tt;
            failed = λ c g l w d. r c g l w ∙ testing_over s from to q c g l (a w)
                ∙ m.failed (testing c g l (a w) q.bytes) c g l (a w) q.bytes
                (testing_begins c g l (a w) q.bytes (byte_at s to) q.stops)
                (testing_stuck c g l (a w) q.bytes (byte_at s to) q.stops);
          }

pub head_at : (s list : Bytes) (at to : ℕ) (Q : Type 0) (o : Result Head ℕ) → byte_at s at ≡ 64
    → Passed is_space s (at + 1) to
    → TestMet s list to Axes.Attribute Q o → HeadMet s list at o
unfolding is_implied axis_of spell_axis step need_byte is_start is_space
head_at s list at to Q o b q m =
    head_axis s list at (at + 1) to Axes.Attribute Q o (omega arith) q m (λ w. attribute w) (λ w. refl) (λ w. refl)
    (λ w. length-append w (64 ∷ []) ∙ omega arith)
    (λ c g l w. on_pass s at (need c g l w) (testing c g l (attribute w) []) (byte_there s at 64 refl b) (rw b refl))

-- the name, where an axis or a step may begin
need_begins : (c : Ctx) (g : Alt) (l : Lead) (w : Bytes) (b : ℕ) → Begins (need c g l w) c g l implied w b
unfolding step need_byte is_start is_space
need_begins c g l w b = record { named = λ e. rw e refl; star = λ e. rw e refl }

module _ (s list : Bytes) (at end to : ℕ) (m : NameAt s at end to) (b : byte_at s to ≡ 58) where
  colon_there : to < length s
  colon_there = byte_there s to 58 refl b

  pub axis_no : is_axis (part s at end) ≡ false → HeadMet s list at (Err to)
  unfolding step after_byte colon_byte_next is_space
  axis_no f =
      let g : is_axis (named_word s list at end to m) ≡ false =
      rw (word_part s at end m.begins m.names) at f in
      record {
        between = name_between s list at end to m;
        read = tt;
        failed = λ c g' l w d. named_runs s list at end to m (need c g' l w) c g' l implied w
            (need_begins c g' l w (byte_at s at))
            ∙ on_fail s to (after c g' l (test implied (called w (named_word s list at end to m)))
            m.spaces.bytes) colon_there (rw (b, g) refl);
      }

  module _ (f : is_axis (part s at end) ≡ true) where
    axis_runs : (c : Ctx) (g : Alt) (l : Lead) (w : Bytes) → run (drop at s) (need c g l w)
        ≡ run (drop (to + 1) s) (colon c g l w (named_word s list at end to m) m.spaces.bytes)
    unfolding step after_byte colon_byte_next is_space
    axis_runs c g l w =
        let h : is_axis (named_word s list at end to m) ≡ true =
        rw (word_part s at end m.begins m.names) at f in
        named_runs s list at end to m (need c g l w) c g l implied w (need_begins c g l w (byte_at s at))
        ∙ on_pass s to (after c g l (test implied (called w (named_word s list at end to m))) m.spaces.bytes)
        (colon c g l w (named_word s list at end to m) m.spaces.bytes) colon_there (rw (b, h) refl)

    pub axis_one : (byte_at s (to + 1) ≡ 58 → ⊥) → HeadMet s list at (Err (to + 1))
    unfolding step finish
    axis_one h =
        record {
          between = record {
            from = omega (arith, (name_between s list at end to m).from);
            fits = omega (arith, colon_there);
          };
          read = tt;
          failed = λ c g l w d. axis_runs c g l w
              ∙ on_stop s (to + 1) (colon c g l w (named_word s list at end to m) m.spaces.bytes)
              (omega (arith, colon_there)) (rw (ne_eqb (byte_at s (to + 1)) 58 h) refl) refl;
        }

    pub axis_two : (ax : CodeAxis) (from : ℕ) (Q : Type 0) (o : Result Head ℕ)
        → axis_number ax ≡ axis_code (part s at end)
        → byte_at s (to + 1) ≡ 58 → Passed is_space s (to + 1 + 1) from → TestMet s list from ax Q o
        → HeadMet s list at o
    unfolding is_implied axis_of spell_axis step
    axis_two ax from Q o x d q t =
        head_axis s list at (to + 1 + 1) from ax Q o (omega (arith, (name_between s list at end to m).from)) q t
        (λ w. axis w (named_word s list at end to m) m.spaces.bytes) (λ w. refl)
        (λ w. sym (x ∙ ap axis_code (word_part s at end m.begins m.names)))
        (λ w. lengths w (named_word s list at end to m) m.spaces.bytes
        ∙ omega (
          arith,
          word_length s at end m.begins m.names,
          passed_length is_space s end to m.spaces,
          m.names.from,
          m.spaces.from,
        ))
        (λ c g l w. axis_runs c g l w
        ∙ on_pass s (to + 1) (colon c g l w (named_word s list at end to m) m.spaces.bytes)
        (testing c g l (axis w (named_word s list at end to m) m.spaces.bytes) [])
        (byte_there s (to + 1) 58 refl d) (rw d refl))
      where
        lengths : (w n v : Bytes) → length (w ++ (n ++ (v ++ (58 ∷ 58 ∷ [])))) ≡ length w + (length n + length v + 2)
        lengths w n v = rw (length-append, length-append, length-append) (omega arith)

-- the head without an axis
module _ (s list : Bytes) (at : ℕ) (sp : is_space (byte_at s at) ≡ false) (b : byte_at s at ≡ 46 → ⊥)
    (d : byte_at s at ≡ 64 → ⊥) where
  pub head_test : (Q : Type 0) (o : Result Head ℕ) → Q → TestMet s list at Axes.Child Q o → HeadMet s list at o
  unfolding step_of step_names takes_predicate axis_of spell_axis spell_step step need_byte finish begins_step
  head_test Q (Ok h) z m =
      let t = m.read in
      let x = t.told in
      record {
        between = m.between;
        read = record {
          tree = λ w. test implied (t.tree w);
          spaces = t.spaces;
          runs = λ c g l w. t.runs (need c g l w) c g l implied w (need_begins c g l w (byte_at s at));
          term = λ w. x.term 1 w
              ∙ ap (λ (y : CodeAxis). term.AxisStep (axis_number y) (test_number h.test) (name_number h.name))
              (sym m.axis);
          names = λ w i f. x.names w (i + 0) (omega (arith, f));
          paren = λ c g l w f k. x.paren c g l implied w (λ _. f) k;
          colon = λ c g l w k. x.colon c g l implied w (λ _. z) k;
          takes = λ w. sym x.takes;
          size = x.size;
          stops = x.stops;
        };
        failed = tt;
      }
  head_test Q (Err e) z m =
      record {
        between = m.between;
        read = tt;
        failed = λ c g l w u. m.failed (need c g l w) c g l implied w (need_begins c g l w (byte_at s at))
            (λ i j. let n = u.lead (rw (i, j, ne_eqb (byte_at s at) 64 d, ne_eqb (byte_at s at) 46 b) refl) in
            (rw (i, sp, j, ne_eqb (byte_at s at) 64 d, ne_eqb (byte_at s at) 46 b) n.0, n.1));
      }

pub head_dot : (s list : Bytes) (at : ℕ) (h : Head) → DotMet s at h → HeadMet s list at (Ok h)
head_dot s list at h m = record { between = m.between; read = m.read list; failed = tt }

-- the longest run of bytes that pass a test is one
module _ (p : ℕ → Bool) where
  pub same_split : (x r y q : Bytes) → all_of p x ≡ true → all_of p y ≡ true → p (get_or r 0 0) ≡ false
      → p (get_or q 0 0)
      ≡ false → x ++ r ≡ y ++ q → (x ≡ y) × (r ≡ q)
  unfolding all_of
  same_split [] r [] q h i j k e = (refl, e)
  same_split [] r (b ∷ y) q h i j k e =
      yes_no (sym (and_parts (p b) (all_of p y) i).0 ∙ ap (λ (t : Bytes). p (get_or t 0 0)) (sym e) ∙ j)
  same_split (a ∷ x) r [] q h i j k e =
      yes_no (sym (and_parts (p a) (all_of p x) h).0 ∙ ap (λ (t : Bytes). p (get_or t 0 0)) e ∙ k)
  same_split (a ∷ x) r (b ∷ y) q h i j k e =
      let f : a ≡ b = ap (λ (t : Bytes). get_or t 0 0) e in
      let g : x ++ r ≡ y ++ q = ap (λ (t : Bytes). drop 1 t) e in
      let z = same_split x r y q (and_parts (p a) (all_of p x) h).1 (and_parts (p b) (all_of p y) i).1 j k g in
      ((λ u. f u ∷ z.0 u), z.1)

word_first : (n t : Bytes) → is_word n ≡ true → is_start (get_or (n ++ t) 0 0) ≡ true
unfolding is_word
word_first [] t h = no h
word_first (b ∷ n) t h = (and_parts (is_start b) (all_of is_name n) h).0

after_spaces_name : (v t : Bytes) → Spaces v → is_name (get_or (v ++ (40 ∷ t)) 0 0) ≡ false
unfolding all_of is_name is_start
after_spaces_name [] t h = refl
after_spaces_name (b ∷ v) t h = space_name b (and_parts (is_space b) (all_of is_space v) h).0

-- opened_by: the first word of the table that it is
pub opened : (a b c : Bool) → unwrap_or (cond a (Some Opening.Not) (cond b (Some Opening.True)
    (cond c (Some Opening.False) None))) Opening.Paths
    ≡ cond a Opening.Not (cond b Opening.True (cond c Opening.False Opening.Paths))
opened true b c = refl
opened false true c = refl
opened false false true = refl
opened false false false = refl

-- operand_at
pub operand_group : (s : Bytes) (at : ℕ) → byte_at s at ≡ 40 → OperandMet s at Opening.Group at
operand_group s at b = (b, refl)

pub operand_other : (s : Bytes) (at : ℕ) → (byte_at s at ≡ 40 → ⊥) → is_start (byte_at s at) ≡ false
    → OperandMet s at Opening.Paths at
operand_other s at b h =
    (λ n v t i j e. yes_no (sym (rw (← e, head_drop s at) at (word_first n (v ++ (40 ∷ t)) i)) ∙ h), b)

module _ (s : Bytes) (at end paren : ℕ) (m : NameAt s at end paren) where
  abbrev operand_word : Bytes
  operand_word = word_of s at end m.begins m.names

  no_open : byte_at s at ≡ 40 → ⊥
  unfolding is_start
  no_open e = false≢true (rw e at m.begins)

  -- a word that stands there, whitespace, and `(`
  same_call : (n v t : Bytes) → is_word n ≡ true → Spaces v → drop at s ≡ n ++ (v ++ (40 ∷ t)) → (n ≡ operand_word)
      × (byte_at s paren ≡ 40)
  unfolding is_space
  same_call n v t i j e =
      let z = same_split is_name n (v ++ (40 ∷ t)) operand_word (drop end s) (word_names n i)
      (word_names operand_word (word_is s at end m.begins m.names)) (after_spaces_name v t j)
      (rw (head_drop s end) m.names.stops) (sym e ∙ word_split s at end m.begins m.names) in
      let y = same_split is_space v (40 ∷ t) m.spaces.bytes (drop paren s) j m.spaces.all refl
      (rw (head_drop s paren) m.spaces.stops) (z.1 ∙ m.spaces.split) in
      (z.0, sym (head_drop s paren) ∙ ap (λ (x : Bytes). get_or x 0 0) (sym y.1))

  pub operand_named : (byte_at s paren ≡ 40 → ⊥) → OperandMet s at Opening.Paths at
  operand_named b = (λ n v t i j e. absurd (b (same_call n v t i j e).1), no_open)

  operand_call : (word : Bytes) → byte_at s paren ≡ 40 → same_bytes operand_word word ≡ true → CallAt s at paren word
  operand_call word b e =
      record {
        spaces = m.spaces.bytes;
        all = m.spaces.all;
        runs = λ c g l w. named_runs s [] at end paren m (need c g l w) c g l implied w
            (need_begins c g l w (byte_at s at))
            ∙ ap (λ (n : Bytes). run (drop paren s) (after c g l (test implied (called w n)) m.spaces.bytes))
            (same_bytes_lem operand_word word e);
        byte = b;
        size = omega (
          arith,
          ap length (same_bytes_lem operand_word word e),
          word_length s at end m.begins m.names,
          passed_length is_space s end paren m.spaces,
          m.names.from,
          m.spaces.from,
        );
      }

  pub operand_opened : (x : Opens) → byte_at s paren ≡ 40 → x ≡ opened_by (part s at end) → OperandMet s at x paren
  unfolding opens_call
  operand_opened x b e =
      subst (λ (y : Opens). OperandMet s at y paren)
      (sym (e ∙ ap opened_by (word_part s at end m.begins m.names))) (go _ _ _ refl refl refl)
    where
      go : (p q r : Bool) → same_bytes operand_word not_word ≡ p → same_bytes operand_word true_word ≡ q
          → same_bytes operand_word false_word ≡ r → OperandMet s at (opened_by operand_word) paren
      go true q r i j k = rw i (operand_call not_word b i)
      go false true r i j k = rw (i, j) (operand_call true_word b j)
      go false false true i j k = rw (i, j, k) (operand_call false_word b k)
      go false false false i j k =
          rw (i, j, k) ((λ n v t f g h. rw ((same_call n v t f g h).0, i, j, k) refl), no_open)
