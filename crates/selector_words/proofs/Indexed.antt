-- The index of the lent list: how it is made, and the search in it.
use Prim.Native.Nat.{ℕ, suc, ◌+◌, ◌<◌, ◌≤◌, min}
use Rattle.std.specs.List.{fold}
use Rattle.std.specs.Borrow.{Bor}
use Rattle.std.specs.Prelude.{Option as Maybe, Some, None, MatchOption}
use mathlib.Core.Path.{◌≡◌, refl, sym, ap, ◌∙◌}
use mathlib.Core.Bool.{Bool, true, false, cond, false≢true}
use mathlib.Core.Logic.{◌⊎◌, inl, inr}
use mathlib.Core.List.{List, [], ◌∷◌}
use native.Mathlib.Omega.{arith}
use Rattle.std.proofs.lemmas.Bool.{eqb-true, false_from_ne_true, ne_eqb}
use Rattle.std.proofs.lemmas.List.{drop_more}
use lib.Dec.{eqb, leb}
use lib.ListN.{length, get_or, set, drop, drop_of_length-le}
use lib.Seq.{drop-drop, get_or-set_same, get_or-set_other}
use Rattle.common.proofs.Reflect.{le_or_lt}
use Rattle.lines.specs.Line.{lines, same_bytes}
use Rattle.selector_grammar.specs.Bytes.{Bytes, is_word}
use Rattle.selector_grammar.specs.Words.{find, bytes_of, number_of}
use Rattle.lines.proofs.SameBytes.{same_bytes_lem}
use Rattle.selector_words.specs.private.Scan.{byte_at}
use Rattle.selector_words.specs.private.Names.{first_line_is, numbered_from}
use Rattle.selector_words.specs.private.Index.{signed_by, signature_of, line_of, ended}
use Rattle.selector_words.specs.private.Index.{LineMet, LineAt, LineIndexed}
use Rattle.selector_words.specs.declared.index.IndexedLine.{IndexedLine}
use Rattle.selector_words.proofs.Named.{first_bytes_lem, first_line}
use Rattle.selector_words.proofs.Listed.{after_byte_lem, after_end, find_past, numbered_one, next_from, first_hit}

-- ends_at
ends_here : (t : Bytes) (at : ℕ) → at < length t → eqb (byte_at t at) 10 ≡ ended (drop at t)
unfolding ended
ends_here t at h = rw (drop_more t at 0 h) refl

ends_past : (t : Bytes) (at : ℕ) → length t ≤ at → true ≡ ended (drop at t)
unfolding ended
ends_past t at h = rw (drop_of_length-le t {i = at} h) refl

pub ended_get : (t : Bytes) (at : ℕ) (o : Maybe (Bor ℕ)) (r : Bool)
    → MatchOption o (length t ≤ at) (λ b. (at < length t) × (b.now ≡ byte_at t at))
    → MatchOption o (r ≡ true) (λ b. r ≡ eqb b.now 10) → r ≡ ended (drop at t)
ended_get t at None r l e = e ∙ ends_past t at l
ended_get t at (Some b) r l e = e ∙ ap (λ (x : ℕ). eqb x 10) l.1 ∙ ends_here t at l.0

-- a place at which a line doesn't end has a byte; where it ends, the byte is a newline, or the list ends
pub goes_on : (t : Bytes) (at : ℕ) → ended (drop at t) ≡ false → (at < length t) × (byte_at t at ≡ 10 → ⊥)
goes_on t at e = go (le_or_lt (length t) at)
  where
    go : (length t ≤ at) ⊎ (at < length t) → (at < length t) × (byte_at t at ≡ 10 → ⊥)
    go (inl h) = absurd (false≢true (sym e ∙ sym (ends_past t at h)))
    go (inr h) = (h, λ q. false≢true (sym e ∙ sym (ends_here t at h) ∙ rw q))

pub newline_there : (t : Bytes) (at : ℕ) → ended (drop at t) ≡ true → at < length t → byte_at t at ≡ 10
newline_there t at e h = eqb-true (byte_at t at) 10 (ends_here t at h ∙ e)

-- pass_line: what is left of the line that begins at `at`, from i on, where the bytes before i have a signature
pub record LineLeft (list : Bytes) (at i signature : ℕ) : Type 0 where
  pub rest : drop 1 (lines (drop i list)) ≡ drop 1 (lines (drop at list))
  pub signed : signature_of signature (line_of (drop i list)) ≡ signature_of 0 (line_of (drop at list))

module _ (list : Bytes) (at i h : ℕ) (p : LineLeft list at i h) where
  pub left_more : i < length list → (byte_at list i ≡ 10 → ⊥)
      → LineLeft list at (i + 1) (signed_by h (byte_at list i))
  unfolding line_of signature_of
  left_more l e =
      let b = ne_eqb (byte_at list i) 10 e in
      let q : signature_of h (line_of (drop i list))
      ≡ signature_of (signed_by h (byte_at list i)) (line_of (drop (i + 1) list)) =
      rw (drop_more list i 0 l, b) refl in
      record {
        rest = sym (ap (λ (t : Bytes). drop 1 (lines t)) (drop_more list i 0 l)
            ∙ after_byte_lem (byte_at list i) (drop (i + 1) list) b) ∙ p.rest;
        signed = sym q ∙ p.signed;
      }

  left_ends : i < length list → byte_at list i ≡ 10 → at ≤ i → LineMet list at (i + 1) h
  unfolding line_of signature_of
  left_ends l e f =
      let b : eqb (byte_at list i) 10 ≡ true = rw e refl in
      let q : signature_of h (line_of (drop i list)) ≡ h = rw (drop_more list i 0 l, b) refl in
      record {
        on = omega (arith, f);
        fits = omega (arith, l);
        rest = sym (ap (λ (t : Bytes). drop 1 (lines t)) (drop_more list i 0 l)
            ∙ after_end (byte_at list i) (drop (i + 1) list) b) ∙ p.rest;
        signed = sym q ∙ p.signed;
      }

  left_none : length list ≤ i → at < length list → LineMet list at (length list) h
  unfolding lines line_of signature_of
  left_none l f =
      let none = drop_of_length-le list {i = i} l in
      let q : signature_of h (line_of (drop i list)) ≡ h = rw none refl in
      record {
        on = f;
        fits = omega arith;
        rest = ap lines (drop_of_length-le list {i = length list} (omega arith))
            ∙ sym (ap (λ (t : Bytes). drop 1 (lines t)) none) ∙ p.rest;
        signed = sym q ∙ p.signed;
      }

  pub line_left : ended (drop i list) ≡ true → at ≤ i → at < length list → LineMet list at (min (length list) (i + 1)) h
  line_left e f g = go (le_or_lt (length list) i)
    where
      go : (length list ≤ i) ⊎ (i < length list) → LineMet list at (min (length list) (i + 1)) h
      go (inl l) = let z : min (length list) (i + 1) ≡ length list = omega arith in rw z (left_none l g)
      go (inr l) = let z : min (length list) (i + 1) ≡ i + 1 = omega (arith, l) in
          rw z (left_ends l (newline_there list i e l) f)

-- signature: a fold over the bytes
pub signed_all : (t : Bytes) (h : ℕ) → fold (λ (x b : ℕ). signed_by x b) h t ≡ signature_of h t
unfolding signature_of
signed_all [] h = refl
signed_all (b ∷ t) h = signed_all t (signed_by h b)

-- index_lines: the entries of the first n lines
module _ (list : Bytes) where
  abbrev pub Entries : List IndexedLine → ℕ → Type 0
  Entries ls n = (k : ℕ) (d : IndexedLine) → k < n → LineIndexed list k (get_or ls k d)

  module _ (n at to h : ℕ) (p : LineAt list n at) (m : LineMet list at to h) where
    pub line_next : LineAt list (n + 1) to
    line_next =
        record {
          rest = m.rest ∙ ap (drop 1) p.rest ∙ drop-drop 1 n (lines list);
          fits = m.fits;
          few = omega (arith, p.few, m.on);
        }

    pub entries_more : (ls : List IndexedLine) → Entries ls n → n < length ls
        → Entries (set ls n (record { start = at; signature = h })) (n + 1)
    entries_more ls x room k d i = go (le_or_lt n k)
      where
        go : (n ≤ k) ⊎ (k < n) → LineIndexed list k (get_or (set ls n (record { start = at; signature = h })) k d)
        go (inl j) =
            let q : k ≡ n = omega (arith, i, j) in
            rw (q, get_or-set_same ls n (record { start = at; signature = h }) d room)
            (record { place = p; signature = m.signed })
        go (inr j) =
            rw (get_or-set_other ls n k (record { start = at; signature = h }) d (λ q. omega (arith, q, j))) (x k d j)

-- a line that is the word has its signature
module _ (list n : Bytes) (k : ℕ) (l : IndexedLine) (x : LineIndexed list k l) where
  pub line_unlike : is_word n ≡ true → (sought : ℕ) → sought ≡ signature_of 0 n → (l.signature ≡ sought → ⊥)
      → false ≡ first_line_is n (drop k (lines list))
  line_unlike w sought e h = sym (ap (first_line_is n) (sym x.place.rest)
      ∙ false_from_ne_true (first_line_is n (lines t)) (λ q.
      let s = same_bytes_lem n (line_of t)
      (sym (first_line n (lines t) w ∙ ap (λ (u : Bytes). same_bytes n u) (first_bytes_lem t)) ∙ q) in
      h (x.signature ∙ ap (signature_of 0) (sym s) ∙ sym e)))
    where
      t : Bytes
      t = drop l.start list

-- search_index
module _ (list n : Bytes) where
  -- none of the first k lines is the name
  abbrev pub Before : ℕ → Type 0
  Before k = number_of list n ≡ numbered_from (suc k) (find n (bytes_of (drop k (lines list))))

  pub before_none : Before 0
  unfolding number_of
  before_none = numbered_one (find n (bytes_of (lines list)))

  pub before_more : (k : ℕ) → Before k → first_line_is n (drop k (lines list)) ≡ false → Before (k + 1)
  before_more k b e =
      let z : suc k + 1 ≡ suc (k + 1) = omega arith in
      b ∙ ap (numbered_from (suc k)) (find_past n (drop k (lines list)) e)
      ∙ next_from (suc k) (find n (bytes_of (drop 1 (drop k (lines list)))))
      ∙ rw (z, drop-drop 1 k (lines list)) refl

  pub index_hit : (k : ℕ) → Before k → first_line_is n (drop k (lines list)) ≡ true → number_of list n
      ≡ cond (leb (k + 1) 65535) (k + 1) 0
  index_hit k b e = first_hit list n k (drop k (lines list)) b e
