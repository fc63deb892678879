-- A number is read digit by digit.
use Prim.Native.Nat.{ℕ, suc, ◌+◌, ◌-◌, ◌*◌, ◌≤◌, ◌<◌}
use mathlib.Core.Path.{◌≡◌, refl, sym, ap, ◌∙◌}
use mathlib.Core.Bool.{Bool, true, false, cond, not, ◌&&◌, false≢true, and-false}
use mathlib.Core.List.{List, [], ◌∷◌}
use mathlib.Core.Option.{Option, none, some, Option-elim, some-injective, some-ne-none}
use native.Mathlib.Omega.{arith}
use Rattle.std.proofs.lemmas.Bool.{and_parts}
use native.Mathlib.Numerals.{add-one}
use lib.Dec.{leb, ltb, eqb}
use lib.ListN.{length, get_or, drop, length-drop, drop_of_length-le}
use lib.Seq.{drop-cons, drop-drop}
use borrow.Author.Tests.{eqb-true, eqb-false, ne_eqb, eq-eqb, le-leb, lt-leb, leb-true, leb-false, lt-ltb, le-ltb}
use borrow.Author.Tests.{ltb-true}
use Rattle.common.specs.Lists.{all_of}
use Rattle.lines.specs.Number.{digit0, digit9, is_digit, are_digits, is_decimal, append_digit, append_digits}
use Rattle.lines.specs.Number.{number_up_to}
use Rattle.lines.specs.private.NumbersRead.{first_digit, one_more, Cut, bytes_before, cut, NumberCut}
use Rattle.lines.specs.private.NumbersRead.{number_before, number_cut}

-- the number that the byte `end` ends, where n is read already
unfoldable pub scan : (most end n : ℕ) → List ℕ → Option NumberCut
scan most end n [] = none
scan most end n (x ∷ xs) =
    cond (eqb x end) (some (number_before n xs)) (Option-elim (one_more most n x) none (λ m. scan most end m xs))

-- digits that may stand behind those of n
abbrev may_follow : ℕ → List ℕ → Bool
may_follow n [] = true
may_follow n (x ∷ xs) = ltb 0 n && are_digits (x ∷ xs)

-- n, the bytes w behind it, and the text r
abbrev read_behind : (most n : ℕ) → Cut → Option NumberCut
read_behind most n c = cond (may_follow n c.bytes && leb (append_digits n c.bytes) most)
    (some (number_before (append_digits n c.bytes) c.rest)) none

digits_grow : (w : List ℕ) (n : ℕ) → n ≤ append_digits n w
unfolding append_digits
digits_grow [] n = omega arith
digits_grow (x ∷ w) n = let h = digits_grow w (append_digit n x) in omega arith

follow_positive : (w : List ℕ) (n : ℕ) → 0 < n → may_follow n w ≡ are_digits w
unfolding all_of
follow_positive [] n h = refl
follow_positive (x ∷ w) n h = rw (lt-ltb 0 n h)

-- no digit makes a number smaller
none_above : (most n : ℕ) (w r : List ℕ) (b : Bool) → most < n → none ≡ cond (b && leb (append_digits n w) most)
    (some (number_before (append_digits n w) r)) none
none_above most n w r b h =
    let grow = digits_grow w n in
    rw (lt-leb (append_digits n w) most (omega arith), and-false b)

-- one digit more, where it is taken and where it is not
module _ (most n x : ℕ) (c : Cut) where
  taken : 0 < n → is_digit x ≡ true → read_behind most (append_digit n x) c ≡ read_behind most n
      (bytes_before (x ∷ c.bytes) c.rest)
  unfolding all_of append_digits
  taken h d = rw (follow_positive c.bytes (append_digit n x) (omega arith), lt-ltb 0 n h, d)

  refused : (a d f : Bool) → ltb 0 n ≡ a → is_digit x ≡ d → leb (append_digit n x) most ≡ f → (a && d && f) ≡ false
      → none ≡ read_behind most n (bytes_before (x ∷ c.bytes) c.rest)
  unfolding all_of append_digits
  refused false d f s t u e = rw s
  refused true false f s t u e = rw (s, t)
  refused true true true s t u e = absurd (false≢true (sym e))
  refused true true false s t u e = rw (s, t) (none_above most (append_digit n x) c.bytes c.rest
      (are_digits c.bytes) (leb-false (append_digit n x) most u))

three_true : (a d f : Bool) → (a && d && f) ≡ true → (a ≡ true) × (d ≡ true) × (f ≡ true)
three_true a d f e =
    let (two, last) = and_parts (a && d) f e in
    let (first, next) = and_parts a d two in
    (first, next, last)

-- the text after n, byte by byte
scan_more : (most end n x : ℕ) (xs : List ℕ)
    → ((m : ℕ) → m ≤ most → scan most end m xs ≡ Option-elim (cut end xs) none (read_behind most m))
    → Option-elim (one_more most n x) none (λ m. scan most end m xs)
    ≡ Option-elim (Option-elim (cut end xs) none (λ c. some (bytes_before (x ∷ c.bytes) c.rest))) none
    (read_behind most n)
unfolding one_more Option-elim
scan_more most end n x xs later = by_test (ltb 0 n && is_digit x && leb (append_digit n x) most) refl
  where
    if_taken : (0 < n) → is_digit x ≡ true → (o : Option Cut)
        → Option-elim o none (read_behind most (append_digit n x)) ≡ Option-elim
        (Option-elim o none (λ c. some (bytes_before (x ∷ c.bytes) c.rest))) none (read_behind most n)
    if_taken h d none = refl
    if_taken h d (some c) = taken most n x c h d

    if_refused : (ltb 0 n && is_digit x && leb (append_digit n x) most) ≡ false → (o : Option Cut)
        → none ≡ Option-elim (Option-elim o none (λ c. some (bytes_before (x ∷ c.bytes) c.rest))) none
        (read_behind most n)
    if_refused e none = refl
    if_refused e (some c) = refused most n x c _ _ _ refl refl refl e

    by_test : (b : Bool) → (ltb 0 n && is_digit x && leb (append_digit n x) most) ≡ b
        → Option-elim (cond b (some (append_digit n x)) none) none (λ m. scan most end m xs)
        ≡ Option-elim (Option-elim (cut end xs) none (λ c. some (bytes_before (x ∷ c.bytes) c.rest))) none
        (read_behind most n)
    by_test true e =
        let (a, d, f) = three_true _ _ _ e in
        later (append_digit n x) (leb-true _ _ f) ∙ if_taken (ltb-true _ _ a) d (cut end xs)
    by_test false e = if_refused e (cut end xs)

scan_cut : (most end : ℕ) (xs : List ℕ) (n : ℕ) → n ≤ most → scan most end n xs ≡ Option-elim (cut end xs) none
    (read_behind most n)
unfolding scan cut Option-elim append_digits
scan_cut most end [] n h = refl
scan_cut most end (x ∷ xs) n h = by_end (eqb x end) (scan_more most end n x xs (scan_cut most end xs))
  where
    by_end : (b : Bool)
        → Option-elim (one_more most n x) none (λ m. scan most end m xs)
        ≡ Option-elim (Option-elim (cut end xs) none (λ c. some (bytes_before (x ∷ c.bytes) c.rest))) none
        (read_behind most n)
        → cond b (some (number_before n xs)) (Option-elim (one_more most n x) none (λ m. scan most end m xs))
        ≡ Option-elim
        (cond b (some (bytes_before [] xs))
        (Option-elim (cut end xs) none (λ c. some (bytes_before (x ∷ c.bytes) c.rest)))) none (read_behind most n)
    by_end true later = rw (le-leb n most h)
    by_end false later = later

pub digit_range : (x : ℕ) → is_digit x ≡ true → (digit0 ≤ x) × (x ≤ digit9)
unfolding is_digit
digit_range x e =
    let (low, high) = and_parts (leb digit0 x) (leb x digit9) e in
    (leb-true _ _ low, leb-true _ _ high)

-- a first digit that is not 0 writes a number that is not 0
not_zero : (x : ℕ) → digit0 ≤ x → not (eqb x digit0) ≡ ltb 0 (x - digit0)
not_zero x h = by_test (eqb x digit0) refl
  where
    by_test : (b : Bool) → eqb x digit0 ≡ b → not b ≡ ltb 0 (x - digit0)
    by_test true e = let s = eqb-true x digit0 e in sym (le-ltb 0 (x - digit0) (omega arith))
    by_test false e = let s = eqb-false x digit0 e in sym (lt-ltb 0 (x - digit0) (omega arith))

decimal_first : (x : ℕ) (w : List ℕ) → is_digit x ≡ true → is_decimal (x ∷ w) ≡ may_follow (x - digit0) w
unfolding is_decimal
decimal_first x [] d = d
decimal_first x (y ∷ w) d = rw (d, not_zero x (digit_range x d).0)

not_decimal : (x : ℕ) (w : List ℕ) → is_digit x ≡ false → is_decimal (x ∷ w) ≡ false
unfolding is_decimal
not_decimal x [] d = d
not_decimal x (y ∷ w) d = rw d

number_if : (b : Bool) (n : ℕ) (r : List ℕ)
    → Option-elim (cond b (some n) none) none (λ m. some (number_before m r)) ≡ cond b (some (number_before n r)) none
unfolding Option-elim
number_if true n r = refl
number_if false n r = refl

first_digit_lem : (most x : ℕ) (c : Cut) → is_digit x ≡ true
    → Option-elim (number_up_to most (x ∷ c.bytes)) none (λ n. some (number_before n c.rest)) ≡ read_behind most
    (x - digit0) c
unfolding append_digits
first_digit_lem most x c d =
    let z : 10 * 0 + (x - digit0) ≡ x - digit0 = omega arith in
    rw (z, decimal_first x c.bytes d)
    (number_if (may_follow (x - digit0) c.bytes && leb (append_digits (x - digit0) c.bytes) most)
    (append_digits (x - digit0) c.bytes) c.rest)

no_first_digit : (most x : ℕ) (c : Cut) → is_digit x ≡ false → Option-elim (number_up_to most (x ∷ c.bytes)) none
    (λ n. some (number_before n c.rest)) ≡ none
unfolding Option-elim
no_first_digit most x c d = rw (not_decimal x c.bytes d)

scan_first : (most end x : ℕ) (xs : List ℕ) → number_cut most end (x ∷ xs) ≡ Option-elim (first_digit most end x) none
    (λ n. scan most end n xs)
unfolding number_cut cut is_decimal Option-elim first_digit
scan_first most end x xs = by_end (eqb x end)
  where
    by_cut : (b : Bool) → is_digit x ≡ b → (o : Option Cut)
        → Option-elim (Option-elim o none (λ c. some (bytes_before (x ∷ c.bytes) c.rest))) none
        (λ c. Option-elim (number_up_to most c.bytes) none (λ n. some (number_before n c.rest)))
        ≡ cond b (Option-elim o none (read_behind most (x - digit0))) none
    by_cut true d none = refl
    by_cut false d none = refl
    by_cut true d (some c) = first_digit_lem most x c d
    by_cut false d (some c) = no_first_digit most x c d

    too_large : most < x - digit0 → (o : Option Cut) → Option-elim o none (read_behind most (x - digit0)) ≡ none
    too_large h none = refl
    too_large h (some c) = sym (none_above most (x - digit0) c.bytes c.rest (may_follow (x - digit0) c.bytes) h)

    by_bound : (b : Bool) → leb (x - digit0) most ≡ b
        → Option-elim (cut end xs) none (read_behind most (x - digit0)) ≡ Option-elim (cond b (some (x - digit0)) none)
        none (λ n. scan most end n xs)
    by_bound true e = sym (scan_cut most end xs (x - digit0) (leb-true _ _ e))
    by_bound false e = too_large (leb-false _ _ e) (cut end xs)

    by_digit : (b : Bool) → cond b (Option-elim (cut end xs) none (read_behind most (x - digit0))) none
        ≡ Option-elim (cond (b && leb (x - digit0) most) (some (x - digit0)) none) none (λ n. scan most end n xs)
    by_digit true = by_bound (leb (x - digit0) most) refl
    by_digit false = refl

    by_end : (b : Bool)
        → Option-elim
        (cond b (some (bytes_before [] xs))
        (Option-elim (cut end xs) none (λ c. some (bytes_before (x ∷ c.bytes) c.rest)))) none
        (λ c. Option-elim (number_up_to most c.bytes) none (λ n. some (number_before n c.rest)))
        ≡ Option-elim (cond (not b && is_digit x && leb (x - digit0) most) (some (x - digit0)) none) none
        (λ n. scan most end n xs)
    by_end true = refl
    by_end false = by_cut (is_digit x) refl (cut end xs) ∙ by_digit (is_digit x)

pub nothing_there : (most end : ℕ) (xs : List ℕ) → length xs ≡ 0 → none ≡ number_cut most end xs
unfolding number_cut cut Option-elim
nothing_there most end [] h = refl
nothing_there most end (x ∷ xs) h = absurd (omega arith)

module _ (most end x : ℕ) (xs ys : List ℕ) (is : ys ≡ x ∷ xs) where
  pub no_digit_there : none ≡ first_digit most end x → none ≡ number_cut most end ys
  unfolding Option-elim
  no_digit_there d = rw (is, scan_first most end x xs, ← d)

  pub digit_there : (n : ℕ) → some n ≡ first_digit most end x → number_cut most end ys ≡ scan most end n xs
  unfolding Option-elim
  digit_there n d = rw (is, scan_first most end x xs, ← d)

-- after some digits, at i of the bytes xs behind the first
module _ (most end : ℕ) (whole : Option NumberCut) (xs : List ℕ) (i n : ℕ) (inside : i < length xs)
    (so_far : whole ≡ scan most end n (drop i xs)) where
  pub end_there : get_or xs i 0 ≡ end → whole ≡ some (number_before n (drop (i + 1) xs))
  unfolding scan
  end_there e = so_far ∙ rw (add-one, drop-cons xs i 0 inside, eq-eqb (get_or xs i 0) end e)

  pub stops_there : ¬ (get_or xs i 0 ≡ end) → none ≡ one_more most n (get_or xs i 0) → whole ≡ none
  unfolding scan Option-elim
  stops_there f e = so_far ∙ rw (drop-cons xs i 0 inside, ne_eqb (get_or xs i 0) end f, ← e)

  pub goes_on_there : ¬ (get_or xs i 0 ≡ end) → (m : ℕ) → some m ≡ one_more most n (get_or xs i 0)
      → whole ≡ scan most end m (drop (i + 1) xs)
  unfolding scan Option-elim
  goes_on_there f m e = so_far ∙ rw (add-one, drop-cons xs i 0 inside, ne_eqb (get_or xs i 0) end f, ← e)

-- the bytes xs behind the one at `at` of a text
module _ (text xs : List ℕ) (at x : ℕ) (is : drop at text ≡ x ∷ xs) where
  pub length_there : at + length xs + 1 ≡ length text
  length_there = omega (arith, ap length is, length-drop at text)

  pub rest_there : (i : ℕ) → drop (i + 1) xs ≡ drop (at + i + 2) text
  rest_there i =
      let k : at + suc (i + 1) ≡ at + i + 2 = omega arith in
      ap (drop (suc (i + 1))) (sym is) ∙ drop-drop (suc (i + 1)) at text ∙ ap (λ j. drop j text) k

-- what a test on the bound lets pass
fits_if : (most m n : ℕ) (b : Bool) → (b ≡ true → n ≤ most) → some m ≡ cond b (some n) none → m ≤ most
fits_if most m n true h e = let same = some-injective m n e in let fits = h refl in omega arith
fits_if most m n false h e = absurd (some-ne-none _ e)

pub first_digit_fits : (most end x m : ℕ) → some m ≡ first_digit most end x → m ≤ most
unfolding first_digit
first_digit_fits most end x m e =
    fits_if most m (x - digit0) _ (λ t. leb-true (x - digit0) most (three_true (not (eqb x end)) (is_digit x) _ t).2) e

pub one_more_fits : (most n x m : ℕ) → some m ≡ one_more most n x → m ≤ most
unfolding one_more
one_more_fits most n x m e = fits_if most m (append_digit n x) _
    (λ t. leb-true (append_digit n x) most (three_true (ltb 0 n) (is_digit x) _ t).2) e

pub scan_past : (most end : ℕ) (xs : List ℕ) (i n : ℕ) → length xs ≤ i → scan most end n (drop i xs) ≡ none
unfolding scan
scan_past most end xs i n h = rw (drop_of_length-le xs {i = i} h)
