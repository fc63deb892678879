-- Words, and the lines of the lent list.
use Prim.Native.Nat.{ℕ, zero, suc, ◌+◌, ◌-◌, ◌<◌, ◌≤◌}
use mathlib.Core.Path.{◌≡◌, refl, sym, ap, ◌∙◌}
use mathlib.Core.Bool.{Bool, true, false, cond, ◌&&◌}
use mathlib.Core.List.{List, [], ◌∷◌}
use native.Mathlib.Omega.{arith}
use Rattle.std.proofs.lemmas.Bool.{and_parts, eqb-true, false_from_ne_true, false≢true}
use lib.Dec.{eqb}
use lib.ListN.{length, get_or, drop, length-drop}
use lib.Seq.{drop-drop, get_or-drop}
use Rattle.std.specs.Borrow.{Bor}
use Rattle.std.specs.Prelude.{Option as Maybe, Some, None, MatchOption, option_map, map}
use Rattle.std.specs.List.{AllWithin, HoldsAt, range_with_len}
use Rattle.common.proofs.Tests.{eqb_turned}
use Rattle.lines.specs.Line.{Line, line, lines, in_first_line, same_bytes}
use Rattle.lines.specs.private.NumbersRead.{starts_with}
use Rattle.common.specs.Lists.{all_of}
use Rattle.selector_grammar.specs.Bytes.{Bytes, is_start, is_name, is_word}
use Rattle.selector_grammar.proofs.Basics.{start_name}
use Rattle.lines.proofs.SameBytes.{same_bytes_lem, same_itself}
use Rattle.selector_words.specs.private.Names.{pick_from, found, first_line_is}
use Rattle.selector_words.specs.private.Index.{line_of, ended}

-- the bytes of the first line
unfoldable pub first_bytes : List Line → Bytes
first_bytes [] = []
first_bytes (l ∷ ls) = l.bytes

pub first_bytes_lem : (t : Bytes) → first_bytes (lines t) ≡ line_of t
unfolding first_bytes line_of lines in_first_line
first_bytes_lem [] = refl
first_bytes_lem (x ∷ t) = go (eqb x 10) refl (first_bytes_lem t)
  where
    over : (ls : List Line) → first_bytes ls ≡ line_of t → first_bytes (in_first_line x ls) ≡ x ∷ line_of t
    over [] e = ap (λ (u : Bytes). x ∷ u) e
    over (l ∷ ls) e = ap (λ (u : Bytes). x ∷ u) e

    go : (b : Bool) → eqb x 10 ≡ b → first_bytes (lines t) ≡ line_of t
        → first_bytes (cond (eqb x 10) (line [] true ∷ lines t) (in_first_line x (lines t)))
        ≡ cond (eqb x 10) [] (x ∷ line_of t)
    go true e k = rw e refl
    go false e k = rw e (over (lines t) k)

pub first_line : (n : Bytes) (ls : List Line) → is_word n ≡ true → first_line_is n ls ≡ same_bytes n (first_bytes ls)
unfolding first_line_is first_bytes is_word same_bytes
first_line [] ls h = absurd (false≢true h)
first_line (b ∷ n) [] h = refl
first_line (b ∷ n) (l ∷ ls) h = refl

name_newline : (b : ℕ) → is_name b ≡ true → eqb 10 b ≡ false
unfolding is_name is_start
name_newline b h = false_from_ne_true (eqb 10 b) (λ e. false≢true (rw (← eqb-true 10 b e) at h))

line_same : (n t : Bytes) → all_of is_name n ≡ true
    → same_bytes n (line_of t) ≡ (starts_with n t && ended (drop (length n) t))
unfolding same_bytes line_of starts_with ended all_of
line_same [] [] h = refl
line_same [] (x ∷ t) h = go (eqb x 10) refl
  where
    go : (b : Bool) → eqb x 10 ≡ b → same_bytes [] (cond (eqb x 10) [] (x ∷ line_of t)) ≡ eqb x 10
    go true e = rw e refl
    go false e = rw e refl
line_same (c ∷ n) [] h = refl
line_same (c ∷ n) (x ∷ t) h =
    let u = and_parts (is_name c) (all_of is_name n) h in
    go (eqb x 10) refl u.0 (line_same n t u.1)
  where
    both : (a p q : Bool) → (a && (p && q)) ≡ ((a && p) && q)
    both true p q = refl
    both false p q = refl

    go : (b : Bool) → eqb x 10 ≡ b → is_name c ≡ true → same_bytes n (line_of t)
        ≡ (starts_with n t && ended (drop (length n) t))
        → same_bytes (c ∷ n) (cond (eqb x 10) [] (x ∷ line_of t))
        ≡ ((eqb x c && starts_with n t) && ended (drop (length n) t))
    go true e i k = rw (e, eqb-true x 10 e, name_newline c i) refl
    go false e i k = rw (e, k, eqb_turned c x) (both (eqb x c) (starts_with n t) (ended (drop (length n) t)))

pub word_names : (n : Bytes) → is_word n ≡ true → all_of is_name n ≡ true
unfolding is_word all_of
word_names [] h = absurd (false≢true h)
word_names (b ∷ n) h = let u = and_parts (is_start b) (all_of is_name n) h in rw (start_name b u.0, u.1) refl

starts_length : (n t : Bytes) → starts_with n t ≡ true → length n ≤ length t
unfolding starts_with
starts_length [] t h = omega arith
starts_length (c ∷ n) [] h = absurd (false≢true h)
starts_length (c ∷ n) (x ∷ t) h = omega (arith, starts_length n t (and_parts (eqb x c) (starts_with n t) h).1)

-- the bytes of what a text starts with
pub starts_byte : (n t : Bytes) (j : ℕ) → starts_with n t ≡ true → j < length n → eqb (get_or t j 0) (get_or n j 0) ≡ true
unfolding starts_with
starts_byte [] t j h i = absurd (omega (arith, i))
starts_byte (c ∷ n) [] j h i = absurd (false≢true h)
starts_byte (c ∷ n) (x ∷ t) zero h i = (and_parts (eqb x c) (starts_with n t) h).0
starts_byte (c ∷ n) (x ∷ t) (suc j) h i =
    starts_byte n t j (and_parts (eqb x c) (starts_with n t) h).1 (omega (arith, i))

pub word_there : (n : Bytes) → is_word n ≡ true → 0 < length n
unfolding is_word
word_there [] h = absurd (false≢true h)
word_there (b ∷ n) h = omega arith

-- is_name_line
module _ (n list : Bytes) (at : ℕ) (h : is_word n ≡ true) where
  pub line_is : first_line_is n (lines (drop at list))
      ≡ (starts_with n (drop at list) && ended (drop (length n) (drop at list)))
  line_is = first_line n (lines (drop at list)) h ∙ ap (same_bytes n) (first_bytes_lem (drop at list))
      ∙ line_same n (drop at list) (word_names n h)

  pub line_other : starts_with n (drop at list) ≡ false → false ≡ first_line_is n (lines (drop at list))
  line_other e = sym (line_is ∙ rw e refl)

  -- where the word stands, the list has room for it
  pub word_fits : starts_with n (drop at list) ≡ true → at + length n ≤ length list
  word_fits s = omega (arith, starts_length n (drop at list) s, length-drop at list, word_there n h)

  -- where there is no room for the word, no line is the word
  pub line_short : length list < at + length n → false ≡ first_line_is n (lines (drop at list))
  line_short l =
      line_other
      (false_from_ne_true (starts_with n (drop at list)) (λ s. absurd (omega (arith, word_fits s))))

  -- a line that has another byte than the word is not the word
  line_differs : (j k : ℕ) → k ≡ at + j → j < length n → eqb (get_or list k 0) (get_or n j 0) ≡ false
      → false ≡ first_line_is n (lines (drop at list))
  line_differs j k p l e =
      line_other
      (false_from_ne_true (starts_with n (drop at list))
      (λ s. false≢true (sym e ∙ ap (λ i. eqb (get_or list i 0) (get_or n j 0)) p
      ∙ ap (λ b. eqb b (get_or n j 0)) (sym (get_or-drop at list j 0)) ∙ starts_byte n (drop at list) j s l)))

  pub line_begins : eqb (get_or list at 0) (get_or n 0 0) ≡ false → false ≡ first_line_is n (lines (drop at list))
  line_begins = line_differs 0 at (omega arith) (word_there n h)

  pub line_closes : eqb (get_or list (at + length n - 1) 0) (get_or n (length n - 1) 0) ≡ false
      → false ≡ first_line_is n (lines (drop at list))
  line_closes =
      line_differs (length n - 1) (at + length n - 1) (omega (arith, word_there n h)) (omega (arith, word_there n h))

  -- where the word stands, its line is the word if it ends there
  module _ (e : starts_with n (drop at list) ≡ true) where
    pub line_ends : ended (drop (at + length n) list) ≡ first_line_is n (lines (drop at list))
    line_ends = sym (line_is ∙ rw (e, drop-drop (length n) at list) refl)

-- find
pub same_of : (t u : Bytes) → t ≡ u → same_bytes t u ≡ true
same_of t u h = rw h (same_itself u)

pub not_same : (t u : Bytes) → (t ≡ u → ⊥) → same_bytes t u ≡ false
not_same t u h = false_from_ne_true (same_bytes t u) (λ f. h (same_bytes_lem t u f))

module _ {T : Type 0} (n : Bytes) where
  abbrev pub Hit : Bor Bytes × T → Type 0
  Hit e = same_bytes n e.0.now ≡ true

  abbrev pub Miss : Bor Bytes × T → Type 0
  Miss e = same_bytes n e.0.now ≡ false

  pub hit : (e : Bor Bytes × T) → e.0.now ≡ n → Hit e
  hit e h = same_of n e.0.now (sym h)

  pub miss : (e : Bor Bytes × T) → (e.0.now ≡ n → ⊥) → Miss e
  miss e h = not_same n e.0.now (λ f. h (sym f))

  none_found : (t : List (Bor Bytes × T)) → AllWithin Miss t 0 (length t) → None ≡ found n t
  unfolding found
  none_found [] a = refl
  none_found (e ∷ t) a =
      rw (a 0 e (omega arith) (omega arith)) (none_found t (λ k d l h. a (suc k) d (omega arith) (omega (arith, h))))

  one_found : (t : List (Bor Bytes × T)) (x : Bor Bytes × T) (i : ℕ) → i < length t → HoldsAt (λ y. y ≡ x) t i
      → AllWithin Miss t 0 i → Hit x → Some x.1 ≡ found n t
  unfolding found
  one_found [] x i h y a z = absurd (omega (arith, h))
  one_found (e ∷ t) x zero h y a z = rw (y e, z) refl
  one_found (e ∷ t) x (suc i) h y a z =
      rw (a 0 e (omega arith) (omega arith)) (one_found t x i (omega (arith, h)) (λ d. y d)
      (λ k d l j. a (suc k) d (omega arith) (omega (arith, j))) z)

  -- what a search of the table finds
  pub found_first : (t : List (Bor Bytes × T)) (r : Maybe (Bor (Bor Bytes × T))) (m : Maybe T)
      → MatchOption r (AllWithin Miss t 0 (length t))
      (λ x. Hit x.now × (i : ℕ) × (i < length t) × HoldsAt (λ y. y ≡ x.now) t i × AllWithin Miss t 0 i)
      → MatchOption r (m ≡ None) (λ x. m ≡ Some x.now.1) → m ≡ found n t
  found_first t None m a e = e ∙ none_found t a
  found_first t (Some x) m a e = e ∙ one_found t x.now a.1 a.2 a.3 a.4 a.0

-- a table of words whose values have the numbers from i up has for a word what its place is
pub picked_by : {T : Type 0} (f : T → ℕ) (n : Bytes) (t : List (Bor Bytes × T)) (i : ℕ)
    → map (λ e. f e.1) t ≡ range_with_len i (length t)
    → option_map f (found n t) ≡ pick_from i (map (λ e. e.0.now) t) n
unfolding found pick_from
picked_by f n [] i h = refl
picked_by f n (e ∷ t) i h =
    let z : i + 1 ≡ suc i = omega arith in
    go (same_bytes n e.0.now) (ap (λ (ns : List ℕ). get_or ns 0 i) h)
    (rw z at (picked_by f n t (i + 1) (ap (drop 1) h)))
  where
    go : (b : Bool) → f e.1 ≡ i → option_map f (found n t) ≡ pick_from (suc i) (map (λ x. x.0.now) t) n
        → option_map f (cond b (Some e.1) (found n t)) ≡ cond b (Some i) (pick_from (suc i) (map (λ x. x.0.now) t) n)
    go true x y = ap (λ (k : ℕ). Some k) x
    go false x y = y
