-- The search for a name in a list.
use Prim.Native.Nat.{ℕ, suc, ◌+◌, ◌-◌, ◌<◌, ◌≤◌}
use mathlib.Core.Path.{◌≡◌, refl, sym, ap, ◌∙◌}
use mathlib.Core.Bool.{Bool, true, false, cond, ◌&&◌, ◌||◌}
use mathlib.Core.List.{List, [], ◌∷◌}
use mathlib.Core.Option.{Option, none, some}
use native.Mathlib.Nat.{add_assoc}
use native.Mathlib.Omega.{arith}
use Rattle.std.proofs.lemmas.Bool.{and_from, and_parts, eqb-true, false_from_ne_true, false≢true, or_parts}
use Rattle.std.proofs.lemmas.List.{drop_more}
use Rattle.std.specs.Prelude.{None, Result, Ok, Err, MatchResult}
use Rattle.std.specs.Result.{result_ok}
use lib.Dec.{eqb, leb}
use lib.ListN.{length, get_or, drop, drop_of_length-le}
use lib.Seq.{drop-cons, drop-drop, get_or-drop}
use Rattle.common.proofs.Tests.{at_most_one}
use Rattle.lines.specs.Line.{Line, lines, in_first_line}
use Rattle.lines.specs.private.NumbersRead.{starts_with}
use Rattle.selector_grammar.specs.Bytes.{Bytes, is_word}
use Rattle.selector_grammar.specs.Words.{find, next, bytes_of, numbered, number_of}
use Rattle.selector_words.specs.private.Scan.{byte_at}
use Rattle.selector_words.specs.private.Names.{first_line_is, numbered_from, LinesPassed, Sought, Searched}
use Rattle.selector_words.specs.private.Index.{ended}
use Rattle.selector_words.proofs.Named.{line_is, starts_byte, word_there}

-- the lines after the first, one byte on
pub after_byte_lem : (b : ℕ) (t : Bytes) → eqb b 10 ≡ false → drop 1 (lines (b ∷ t)) ≡ drop 1 (lines t)
unfolding lines in_first_line
after_byte_lem b t e = rw e (go (lines t))
  where
    go : (ls : List Line) → drop 1 (in_first_line b ls) ≡ drop 1 ls
    go [] = refl
    go (l ∷ ls) = refl

pub after_end : (b : ℕ) (t : Bytes) → eqb b 10 ≡ true → drop 1 (lines (b ∷ t)) ≡ lines t
unfolding lines
after_end b t e = rw e refl

pub find_hit : (n : Bytes) (ls : List Line) → first_line_is n ls ≡ true → find n (bytes_of ls) ≡ some 0
unfolding first_line_is find bytes_of
find_hit n [] h = absurd (false≢true h)
find_hit n (l ∷ ls) h = rw h refl

pub find_past : (n : Bytes) (ls : List Line) → first_line_is n ls ≡ false → find n (bytes_of ls)
    ≡ next (find n (bytes_of (drop 1 ls)))
unfolding first_line_is find bytes_of next
find_past n [] h = refl
find_past n (l ∷ ls) h = rw h refl

pub numbered_one : (o : Option ℕ) → numbered o ≡ numbered_from 1 o
unfolding numbered numbered_from
numbered_one none = refl
numbered_one (some i) = let e : 1 + i ≡ suc i = omega arith in rw e refl

pub next_from : (k : ℕ) (o : Option ℕ) → numbered_from k (next o) ≡ numbered_from (k + 1) o
unfolding numbered_from next
next_from k none = refl
next_from k (some i) = let e : k + suc i ≡ k + 1 + i = omega arith in rw e refl

-- a search that ends in an Err
pub missed : (P Q : ℕ → Type 0) (r : Result ℕ ℕ) → MatchResult r P Q → result_ok r ≡ None → (n : ℕ) × Q n
missed P Q (Ok n) m e = let z : ◌≡◌ {A = ℕ} 0 1 = cc in absurd (omega arith)
missed P Q (Err n) m e = (n, m)

-- a look so far, which may find that none of the lines is the name
pub record LookMet (list name : Bytes) (from to ends : ℕ) (may : Bool) : Type 0 where
  pub none : may ≡ false → Searched list name from to ends false
  pub few : from + ends ≤ to

module _ (list n : Bytes) where
  -- a newline at i, and the name after it
  abbrev Begins : ℕ → Bool
  Begins i = first_line_is n (lines (drop (i + 1) list))

  -- may_follow
  pub follows : (i : ℕ) → is_word n ≡ true → i + length n + 1 < length list → (a b r : Bool)
      → a ≡ (eqb (byte_at list i) 10 && eqb (byte_at list (i + length n + 1)) 10)
      → b ≡ (eqb (byte_at list (i + 1)) (get_or n 0 0) && eqb (byte_at list (i + length n)) (get_or n (length n - 1) 0))
      → r ≡ (a && b) → r ≡ false → byte_at list i ≡ 10 → Begins i ≡ false
  unfolding ended
  follows i w h a b r p q o f e =
      false_from_ne_true (Begins i) (λ x.
      let u = and_parts (starts_with n (drop (i + 1) list)) (ended (drop (length n) (drop (i + 1) list)))
      (sym (line_is n list (i + 1) w) ∙ x) in
      let lined = p ∙ and_from (eqb (byte_at list i) 10) (eqb (byte_at list (i + length n + 1)) 10)
      (ap (λ (x : ℕ). eqb x 10) e) (at_end u.1) in
      let edged = q ∙ and_from (eqb (byte_at list (i + 1)) (get_or n 0 0))
      (eqb (byte_at list (i + length n)) (get_or n (length n - 1) 0))
      (at_byte 0 (i + 1) (omega arith) size u.0)
      (at_byte (length n - 1) (i + length n) (omega (arith, size)) (omega (arith, size)) u.0) in
      false≢true (sym f ∙ o ∙ and_from a b lined edged))
    where
      size : 0 < length n
      size = word_there n w

      at_byte : (j to : ℕ) → i + 1 + j ≡ to → j < length n → starts_with n (drop (i + 1) list) ≡ true
          → eqb (byte_at list to) (get_or n j 0) ≡ true
      at_byte j to x y z = rw (← x, ← get_or-drop (i + 1) list j 0) (starts_byte n (drop (i + 1) list) j z y)

      at_end : ended (drop (length n) (drop (i + 1) list)) ≡ true → eqb (byte_at list (i + length n + 1)) 10 ≡ true
      at_end z =
          let x : i + 1 + length n ≡ i + length n + 1 = omega arith in
          rw (
            drop-drop (length n) (i + 1) list,
            x,
            drop-cons list (i + length n + 1) 0 h,
          ) at z

  -- where a search stands
  pub sought_first : (at k : ℕ) → LinesPassed list n at k → first_line_is n (lines (drop at list)) ≡ false
      → Sought list n at k
  sought_first at k p h = p.others ∙ ap (numbered_from (suc k)) (find_past n (lines (drop at list)) h)

  pub first_hit : (k : ℕ) (ls : List Line) → number_of list n ≡ numbered_from (suc k) (find n (bytes_of ls))
      → first_line_is n ls ≡ true → number_of list n ≡ cond (leb (k + 1) 65535) (k + 1) 0
  unfolding numbered_from
  first_hit k ls p h =
      let z : suc k + 0 ≡ k + 1 = omega arith in
      p ∙ rw (find_hit n ls h, z) refl

  pub sought_all : (at k : ℕ) → Sought list n at k → length list ≤ at → 0 ≡ number_of list n
  unfolding numbered_from next lines find bytes_of
  sought_all at k g h = sym (g ∙ rw (drop_of_length-le list {i = at} h) refl)

  module _ (i k : ℕ) (h : i < length list) (g : Sought list n i k) where
    sought_end : eqb (byte_at list i) 10 ≡ true → number_of list n
        ≡ numbered_from (suc k) (next (find n (bytes_of (lines (drop (i + 1) list)))))
    sought_end e = g ∙ ap (λ (ls : List Line). numbered_from (suc k) (next (find n (bytes_of ls))))
        (ap (λ (t : Bytes). drop 1 (lines t)) (drop_more list i 0 h)
        ∙ after_end (byte_at list i) (drop (i + 1) list) e)

    sought_byte : (byte_at list i ≡ 10 → Begins i ≡ false)
        → Sought list n (i + 1) (k + cond (eqb (byte_at list i) 10) 1 0)
    sought_byte f = go (eqb (byte_at list i) 10) refl
      where
        go : (b : Bool) → eqb (byte_at list i) 10 ≡ b → Sought list n (i + 1) (k + cond b 1 0)
        go false e =
            let z : k + 0 ≡ k = omega arith in
            rw z (g ∙ ap (λ (ls : List Line). numbered_from (suc k) (next (find n (bytes_of ls))))
            (ap (λ (t : Bytes). drop 1 (lines t)) (drop_more list i 0 h)
            ∙ after_byte_lem (byte_at list i) (drop (i + 1) list) e))
        go true e =
            let rest = find n (bytes_of (drop 1 (lines (drop (i + 1) list)))) in
            let z : suc k + 1 ≡ suc (k + 1) = omega arith in
            sought_end e
            ∙ ap (λ (o : Option ℕ). numbered_from (suc k) (next o))
            (find_past n (lines (drop (i + 1) list)) (f (eqb-true (byte_at list i) 10 e)))
            ∙ next_from (suc k) (next rest)
            ∙ ap (λ (j : ℕ). numbered_from j (next rest)) z

    sought_hit : eqb (byte_at list i) 10 ≡ true → Begins i ≡ true → number_of list n
        ≡ cond (leb (k + 1 + 1) 65535) (k + 1 + 1) 0
    unfolding numbered_from next
    sought_hit e f =
        let z : suc k + 1 ≡ k + 1 + 1 = omega arith in
        sought_end e ∙ rw (find_hit n (lines (drop (i + 1) list)) f, z) refl

  -- walk
  module _ (from i ends one : ℕ) (s : Searched list n from i ends false) (h : i < length list)
      (q : one ≡ cond (eqb (byte_at list i) 10) 1 0) where
    pub searched_byte : (byte_at list i ≡ 10 → Begins i ≡ false) → Searched list n from (i + 1) (ends + one) false
    searched_byte f =
        record {
          on = λ _ k g. rw (q, sym (add_assoc k ends (cond (eqb (byte_at list i) 10) 1 0)))
              (sought_byte i (k + ends) h (s.on refl k g) f);
          hit = λ e. absurd (false≢true e);
          few = omega (arith, s.few, q, at_most_one (eqb (byte_at list i) 10));
        }

    pub searched_hit : (to : ℕ) → i < to → eqb (byte_at list i) 10 ≡ true → Begins i ≡ true
        → Searched list n from to (ends + one) true
    searched_hit to l e f =
        let one_is : one ≡ 1 = q ∙ rw e refl in
        record {
          on = λ x. absurd (false≢true (sym x));
          hit = λ _ k g.
              let z : k + (ends + one) + 1 ≡ k + ends + 1 + 1 = omega (arith, one_is) in
              rw z (sought_hit i (k + ends) h (s.on refl k g) e f);
          few = omega (arith, s.few, one_is, l);
        }

  -- one byte of a walk
  module _ (from i ends : ℕ) (s : Searched list n from i ends false) (h : i < length list) where
    pub walk_hit : byte_at list i ≡ 10 → Begins i ≡ true → (to : ℕ) → i < to → Searched list n from to (ends + 1) true
    walk_hit b f to l = searched_hit from i ends 1 s h (rw b refl) to l (rw b refl) f

    pub walk_miss : byte_at list i ≡ 10 → Begins i ≡ false → Searched list n from (i + 1) (ends + 1) false
    walk_miss b f = searched_byte from i ends 1 s h (rw b refl) (λ _. f)

    pub walk_byte : (byte_at list i ≡ 10 → ⊥) → Searched list n from (i + 1) ends false
    walk_byte x = go (eqb (byte_at list i) 10) refl
      where
        go : (b : Bool) → eqb (byte_at list i) 10 ≡ b → Searched list n from (i + 1) ends false
        go true e = absurd (x (eqb-true (byte_at list i) 10 e))
        go false e =
            let z : ends + 0 ≡ ends = omega arith in
            rw z at (searched_byte from i ends 0 s h (rw e refl) (λ y. absurd (x y)))

  -- look
  pub look_byte : (from i to ends one : ℕ) (may here more : Bool) → LookMet list n from i ends may → i < length list
      → one ≡ cond (eqb (byte_at list i) 10) 1 0 → (here ≡ false → byte_at list i ≡ 10 → Begins i ≡ false)
      → more ≡ (may || here) → to ≡ i + 1 → LookMet list n from to (ends + one) more
  look_byte from i to ends one may here more l h q f o e =
      rw (e, o) (record {
        none = λ x. let u = or_parts may here x in searched_byte from i ends one (l.none u.0) h q (f u.1);
        few = omega (arith, l.few, q, at_most_one (eqb (byte_at list i) 10));
      })
