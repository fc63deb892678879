-- The operator names `and` and `or`.
use Prim.Native.Nat.{ℕ, zero, suc, ◌+◌, ◌-◌, ◌<◌, ◌≤◌, max}
use Rattle.terms.specs.Row.{row}
use mathlib.Core.Path.{◌≡◌, refl, sym, subst, ◌∙◌}
use mathlib.Core.Bool.{Bool, true, false}
use mathlib.Core.List.{List, [], ◌∷◌}
use native.Mathlib.Omega.{arith}
use native.Mathlib.Numerals.{add-one}
use Rattle.std.proofs.lemmas.Bool.{ne_eqb}
use Rattle.std.proofs.Common.{add-zero}
use lib.ListN.{length, get_or, drop}
use Rattle.selector_grammar.specs.Bytes.{Bytes, is_space, is_start, is_name}
use Rattle.selector_grammar.specs.Grammar.{Unary}
use Rattle.selector_grammar.specs.private.Reader.{need, keyword, k_a, k_an, k_and, k_o, k_or, inside, Open, Pend, plain}
use Rattle.selector_grammar.specs.private.Reader.{both, either, left_of, and_to, or_to, first, begin, step, follow}
use Rattle.selector_grammar.specs.private.Reader.{finish, run}
use Rattle.selector_grammar.specs.private.Reader.{bad, unary_byte, keyword_byte, lead_end}
use Rattle.selector_words.specs.private.Scan.{byte_at, Passed, begins_step}
use Rattle.selector_heads.specs.private.Head.{proceed}
use Rattle.selector_readings.specs.private.Build.{Standing, capped, moved_to, refused_at, Sized, PutMet, Grown}
use Rattle.selector_readings.specs.private.Build.{below_of}
use Rattle.selector_readings.specs.private.Passing.{WordPassed, WordMet, FirstPut}
use Rattle.selector_readings.specs.private.Passing.{SlashPut, BeginPut, Starting, start_of, root_start}
use Rattle.selector_readings.specs.private.Passing.{after_and, after_or}
use Rattle.selector_words.proofs.Scanned.{head_drop}
use Rattle.selector_heads.proofs.Ran.{on_pass, on_stop}
use Rattle.selector_heads.proofs.Headed.{byte_there, no, yes_no}

and_ends : (t : Bytes) (x : Open) (p : Pend) (u : Unary) (w : Bytes) → is_name (get_or t 0 0) ≡ false
    → run t (keyword x p u w k_and) ≡ run t (need (inside x (both (left_of p) (and_to p u) w)) first begin [])
unfolding run finish step keyword_byte lead_end
and_ends [] x p u w h = refl
and_ends (b ∷ t) x p u w h = rw h refl

or_ends : (t : Bytes) (x : Open) (p : Pend) (u : Unary) (w : Bytes) → is_name (get_or t 0 0) ≡ false
    → run t (keyword x p u w k_or) ≡ run t (need (inside x (plain (either (or_to p u) w))) first begin [])
unfolding run finish step keyword_byte lead_end
or_ends [] x p u w h = refl
or_ends (b ∷ t) x p u w h = rw h refl

-- a refused operator name
stopped : (s : Bytes) (r : Standing) (n : ℕ) (next : Open → Pend → Unary → Bytes → Pend) (to : ℕ) → r.at + 1 ≤ to
    → to ≤ length s
    → ((x : Open) (p : Pend) (u : Unary) (w : Bytes)
    → proceed s r.at (unary_byte x p u w (byte_at s r.at)) ≡ bad (length s - to))
    → WordMet s r (refused_at to) n next
stopped s r n next to h i f =
    record {
      between = record { from = h; fits = i };
      same = refl;
      place = λ e. no e;
      read = λ e. no e;
      failed = λ e. f;
    }

module _ (s : Bytes) (r : Standing) (b : byte_at s r.at ≡ 97) where
  a_there : r.at < length s
  a_there = byte_there s r.at 97 refl b

  first_a : (x : Open) (p : Pend) (u : Unary) (w : Bytes) → proceed s r.at (unary_byte x p u w (byte_at s r.at))
      ≡ run (drop (r.at + 1) s) (keyword x p u w k_a)
  unfolding proceed unary_byte follow
  first_a x p u w = rw (b, add-one) refl

  pub and_second : (byte_at s (r.at + 1) ≡ 110 → ⊥) → WordMet s r (refused_at (r.at + 1)) 3 after_and
  unfolding step keyword_byte finish
  and_second e = stopped s r 3 after_and (r.at + 1) (omega arith) (omega (arith, a_there))
      (λ x p u w. first_a x p u w
      ∙ on_stop s (r.at + 1) (keyword x p u w k_a) (omega (arith, a_there))
      (rw (ne_eqb (byte_at s (r.at + 1)) 110 e) refl) refl)

  module _ (c : byte_at s (r.at + 1) ≡ 110) where
    n_there : r.at + 1 < length s
    n_there = byte_there s (r.at + 1) 110 refl c

    second_a : (x : Open) (p : Pend) (u : Unary) (w : Bytes)
        → proceed s r.at (unary_byte x p u w (byte_at s r.at))
        ≡ run (drop (r.at + 1 + 1) s) (keyword x p u w k_an)
    unfolding step keyword_byte
    second_a x p u w = first_a x p u w
        ∙ on_pass s (r.at + 1) (keyword x p u w k_a) (keyword x p u w k_an) n_there (rw c refl)

    pub and_third : (byte_at s (r.at + 1 + 1) ≡ 100 → ⊥) → WordMet s r (refused_at (r.at + 1 + 1)) 3 after_and
    unfolding step keyword_byte finish
    and_third e = stopped s r 3 after_and (r.at + 1 + 1) (omega arith) (omega (arith, n_there))
        (λ x p u w. second_a x p u w
        ∙ on_stop s (r.at + 1 + 1) (keyword x p u w k_an) (omega (arith, n_there))
        (rw (ne_eqb (byte_at s (r.at + 1 + 1)) 100 e) refl) refl)

    module _ (d : byte_at s (r.at + 1 + 1) ≡ 100) where
      d_there : r.at + 1 + 1 < length s
      d_there = byte_there s (r.at + 1 + 1) 100 refl d

      third_a : (x : Open) (p : Pend) (u : Unary) (w : Bytes)
          → proceed s r.at (unary_byte x p u w (byte_at s r.at))
          ≡ run (drop (r.at + 1 + 1 + 1) s) (keyword x p u w k_and)
      unfolding step keyword_byte
      third_a x p u w = second_a x p u w
          ∙ on_pass s (r.at + 1 + 1) (keyword x p u w k_an) (keyword x p u w k_and) d_there (rw d refl)

      pub and_touch : is_name (byte_at s (r.at + 1 + 1 + 1)) ≡ true
          → WordMet s r (refused_at (r.at + 1 + 1 + 1)) 3 after_and
      unfolding step keyword_byte finish
      and_touch e = stopped s r 3 after_and (r.at + 1 + 1 + 1) (omega arith) (omega (arith, d_there))
          (λ x p u w. third_a x p u w
          ∙ on_stop s (r.at + 1 + 1 + 1) (keyword x p u w k_and) (omega (arith, d_there)) (rw e refl) refl)

      pub and_read : r.ok ≡ true → is_name (byte_at s (r.at + 1 + 1 + 1)) ≡ false
          → WordMet s r (moved_to r (r.at + 1 + 1 + 1)) 3 after_and
      and_read o e =
          record {
            between = record { from = omega arith; fits = omega (arith, d_there) };
            same = rw o refl;
            place = λ f. omega arith;
            read = λ f x p u w. third_a x p u w
                ∙ and_ends (drop (r.at + 1 + 1 + 1) s) x p u w (rw (head_drop s (r.at + 1 + 1 + 1)) e);
            failed = λ f. yes_no (sym o ∙ f);
          }

module _ (s : Bytes) (r : Standing) (b : byte_at s r.at ≡ 111) where
  o_there : r.at < length s
  o_there = byte_there s r.at 111 refl b

  first_o : (x : Open) (p : Pend) (u : Unary) (w : Bytes) → proceed s r.at (unary_byte x p u w (byte_at s r.at))
      ≡ run (drop (r.at + 1) s) (keyword x p u w k_o)
  unfolding proceed unary_byte follow
  first_o x p u w = rw (b, add-one) refl

  pub or_second : (byte_at s (r.at + 1) ≡ 114 → ⊥) → WordMet s r (refused_at (r.at + 1)) 2 after_or
  unfolding step keyword_byte finish
  or_second e = stopped s r 2 after_or (r.at + 1) (omega arith) (omega (arith, o_there))
      (λ x p u w. first_o x p u w
      ∙ on_stop s (r.at + 1) (keyword x p u w k_o) (omega (arith, o_there))
      (rw (ne_eqb (byte_at s (r.at + 1)) 114 e) refl) refl)

  module _ (c : byte_at s (r.at + 1) ≡ 114) where
    r_there : r.at + 1 < length s
    r_there = byte_there s (r.at + 1) 114 refl c

    second_o : (x : Open) (p : Pend) (u : Unary) (w : Bytes)
        → proceed s r.at (unary_byte x p u w (byte_at s r.at))
        ≡ run (drop (r.at + 1 + 1) s) (keyword x p u w k_or)
    unfolding step keyword_byte
    second_o x p u w = first_o x p u w
        ∙ on_pass s (r.at + 1) (keyword x p u w k_o) (keyword x p u w k_or) r_there (rw c refl)

    pub or_touch : is_name (byte_at s (r.at + 1 + 1)) ≡ true → WordMet s r (refused_at (r.at + 1 + 1)) 2 after_or
    unfolding step keyword_byte finish
    or_touch e = stopped s r 2 after_or (r.at + 1 + 1) (omega arith) (omega (arith, r_there))
        (λ x p u w. second_o x p u w
        ∙ on_stop s (r.at + 1 + 1) (keyword x p u w k_or) (omega (arith, r_there)) (rw e refl) refl)

    pub or_read : r.ok ≡ true → is_name (byte_at s (r.at + 1 + 1)) ≡ false
        → WordMet s r (moved_to r (r.at + 1 + 1)) 2 after_or
    or_read o e =
        record {
          between = record { from = omega arith; fits = omega (arith, r_there) };
          same = rw o refl;
          place = λ f. omega arith;
          read = λ f x p u w. second_o x p u w
              ∙ or_ends (drop (r.at + 1 + 1) s) x p u w (rw (head_drop s (r.at + 1 + 1)) e);
          failed = λ f. yes_no (sym o ∙ f);
        }

-- by cases: how many of its bytes stand there
pub and_word : (s : Bytes) (r q : Standing) → r.ok ≡ true → byte_at s r.at ≡ 97
    → WordPassed s (97 ∷ 110 ∷ 100 ∷ []) r q → WordMet s r q 3 after_and
and_word s r q o b p = go p.n refl
  where
    two : r.at + 2 ≡ r.at + 1 + 1
    two = omega arith

    three : r.at + 3 ≡ r.at + 1 + 1 + 1
    three = omega arith

    it : (z : Standing) → q ≡ z → WordMet s r z 3 after_and → WordMet s r q 3 after_and
    it z e m = subst (λ (v : Standing). WordMet s r v 3 after_and) (sym e) m

    go : (n : ℕ) → p.n ≡ n → WordMet s r q 3 after_and
    go zero e = let c = rw (e, add-zero) at (p.cut (omega (arith, e))) in absurd (c.0 b)
    go (suc zero) e = let c = rw e at (p.cut (omega (arith, e))) in it _ c.1 (and_second s r b c.0)
    go (suc (suc zero)) e =
        let c = rw (e, two) at (p.cut (omega (arith, e))) in
        let d : byte_at s (r.at + 1) ≡ 110 = p.same 1 (omega (arith, e)) in
        it _ c.1 (and_third s r b d c.0)
    go (suc (suc (suc zero))) e =
        let d : byte_at s (r.at + 1) ≡ 110 = p.same 1 (omega (arith, e)) in
        let f : byte_at s (r.at + 1 + 1) ≡ 100 = rw two at (p.same 2 (omega (arith, e))) in
        let touched = rw (e, three) at (p.touched e) in
        let whole = rw (e, three) at (p.whole e) in
        named (is_name (byte_at s (r.at + 1 + 1 + 1))) refl d f touched whole
      where
        named : (k : Bool) → is_name (byte_at s (r.at + 1 + 1 + 1)) ≡ k → byte_at s (r.at + 1) ≡ 110
            → byte_at s (r.at + 1 + 1) ≡ 100
            → (is_name (byte_at s (r.at + 1 + 1 + 1)) ≡ true → q ≡ refused_at (r.at + 1 + 1 + 1))
            → (is_name (byte_at s (r.at + 1 + 1 + 1)) ≡ false → q ≡ moved_to r (r.at + 1 + 1 + 1))
            → WordMet s r q 3 after_and
        named true k d f touched whole = it _ (touched k) (and_touch s r b d f k)
        named false k d f touched whole = it _ (whole k) (and_read s r b d f o k)
    go (suc (suc (suc (suc n)))) e = absurd (omega (arith, e, p.few))

pub or_word : (s : Bytes) (r q : Standing) → r.ok ≡ true → byte_at s r.at ≡ 111
    → WordPassed s (111 ∷ 114 ∷ []) r q → WordMet s r q 2 after_or
or_word s r q o b p = go p.n refl
  where
    two : r.at + 2 ≡ r.at + 1 + 1
    two = omega arith

    it : (z : Standing) → q ≡ z → WordMet s r z 2 after_or → WordMet s r q 2 after_or
    it z e m = subst (λ (v : Standing). WordMet s r v 2 after_or) (sym e) m

    go : (n : ℕ) → p.n ≡ n → WordMet s r q 2 after_or
    go zero e = let c = rw (e, add-zero) at (p.cut (omega (arith, e))) in absurd (c.0 b)
    go (suc zero) e = let c = rw e at (p.cut (omega (arith, e))) in it _ c.1 (or_second s r b c.0)
    go (suc (suc zero)) e =
        let d : byte_at s (r.at + 1) ≡ 114 = p.same 1 (omega (arith, e)) in
        let touched = rw (e, two) at (p.touched e) in
        let whole = rw (e, two) at (p.whole e) in
        named (is_name (byte_at s (r.at + 1 + 1))) refl d touched whole
      where
        named : (k : Bool) → is_name (byte_at s (r.at + 1 + 1)) ≡ k → byte_at s (r.at + 1) ≡ 114
            → (is_name (byte_at s (r.at + 1 + 1)) ≡ true → q ≡ refused_at (r.at + 1 + 1))
            → (is_name (byte_at s (r.at + 1 + 1)) ≡ false → q ≡ moved_to r (r.at + 1 + 1))
            → WordMet s r q 2 after_or
        named true k d touched whole = it _ (touched k) (or_touch s r b d k)
        named false k d touched whole = it _ (whole k) (or_read s r b d o k)
    go (suc (suc (suc n))) e = absurd (omega (arith, e, p.few))

-- first_step, pass_slash
pub first_joins : (lead step : Standing) (xs ys : List ℕ) (q : Standing) (rooted : Bool) → rooted ≡ true
    → PutMet (row 4 lead.row step.row 0) (capped (suc (max lead.nesting step.nesting))) xs step ys q
    → FirstPut rooted lead step xs ys q
first_joins lead step xs ys q rooted e m =
    record { sized = m.sized; joins = λ _. m; stays = λ f. yes_no (sym e ∙ f) }

pub first_stays : (lead step : Standing) (xs : List ℕ) (rooted : Bool) → rooted ≡ false → Sized xs step.count
    → FirstPut rooted lead step xs xs step
first_stays lead step xs rooted e z = record { sized = z; joins = λ f. yes_no (sym f ∙ e); stays = λ _. (refl, refl) }

pub slash_two : (s : Bytes) (xs ys : List ℕ) (r b : Standing) (to : ℕ) → byte_at s (r.at + 1) ≡ 47
    → Passed is_space s (r.at + 1 + 1) to → Grown below_of (λ n. suc (max n 1)) xs r ys b
    → SlashPut s xs r ys (moved_to b to)
slash_two s xs ys r b to e q m =
    record {
      sized = record { size = m.sized.size; bound = m.sized.bound };
      two = λ _. (to, b, q, m, refl);
      one = λ f. absurd (f e);
    }

pub slash_one : (s : Bytes) (xs : List ℕ) (r : Standing) (to : ℕ) → (byte_at s (r.at + 1) ≡ 47 → ⊥)
    → Passed is_space s (r.at + 1) to → Sized xs r.count → SlashPut s xs r xs (moved_to r to)
slash_one s xs r to e q z =
    record {
      sized = record { size = z.size; bound = z.bound };
      two = λ f. absurd (e f);
      one = λ _. (to, q, refl, refl);
    }

-- begin_root, begin_path
pub root_step : (s : Bytes) (r : Standing) → begins_step (byte_at s r.at) ≡ true → start_of r true true ≡ root_start s r
unfolding root_start
root_step s r e = sym (rw e refl)

pub root_slash : (s : Bytes) (r : Standing) → begins_step (byte_at s r.at) ≡ false → byte_at s r.at ≡ 47
    → start_of (refused_at r.at) true false ≡ root_start s r
unfolding root_start begins_step is_start
root_slash s r e f = sym (rw f refl)

pub root_alone : (s : Bytes) (r : Standing) → begins_step (byte_at s r.at) ≡ false → (byte_at s r.at ≡ 47 → ⊥)
    → start_of r true false ≡ root_start s r
unfolding root_start
root_alone s r e f = sym (rw (e, ne_eqb (byte_at s r.at) 47 f) refl)

module _ (s : Bytes) (xs : List ℕ) (r : Standing) (to : ℕ) (q : Passed is_space s r.at to) where
  pub begin_bare : (byte_at s to ≡ 47 → ⊥) → BeginPut s xs r xs (start_of (moved_to r to) false true)
  begin_bare e = record
      { to = to; passed = q; bare = λ _. (refl, refl); root = λ f. absurd (e f); any = λ f. absurd (e f) }

  pub begin_root : (ys : List ℕ) (p : Standing) (end : ℕ) (z : Starting) → byte_at s to ≡ 47
      → (byte_at s (to + 1) ≡ 47 → ⊥)
      → PutMet (row 1 0 0 0) 1 xs (moved_to r to) ys p → Passed is_space s (to + 1) end → z
      ≡ root_start s (moved_to p end) → BeginPut s xs r ys z
  begin_root ys p end z e f m v g =
      record {
        to = to;
        passed = q;
        bare = λ h. absurd (h e);
        root = λ _ _. (p, end, m, v, g);
        any = λ _ h. absurd (f h);
      }

  pub begin_any : (zs ys : List ℕ) (p b : Standing) (end : ℕ) → byte_at s to ≡ 47 → byte_at s (to + 1) ≡ 47
      → PutMet (row 1 0 0 0) 1 xs (moved_to r to) zs p → Grown below_of (λ n. suc (max n 1)) zs p ys b
      → Passed is_space s (to + 1 + 1) end → BeginPut s xs r ys (start_of (moved_to b end) true true)
  begin_any zs ys p b end e f m g v =
      record {
        to = to;
        passed = q;
        bare = λ h. absurd (h e);
        root = λ _ h. absurd (h f);
        any = λ _ _. (p, b, zs, end, m, g, v, refl);
      }
