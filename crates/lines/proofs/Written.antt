-- The text of a number reads back as the number, and the text of a line of numbers as those numbers.
use Prim.Native.Nat.{ℕ, zero, suc, ◌+◌, ◌/◌, ◌%◌, ◌≤◌, ◌<◌}
use mathlib.Core.Path.{◌≡◌, refl, ap, ◌∙◌}
use mathlib.Core.Bool.{Bool, true, false, cond, ◌&&◌, false≢true}
use mathlib.Core.List.{List, [], ◌∷◌, ◌++◌, append_assoc}
use mathlib.Core.Option.{some, Option-elim}
use native.Mathlib.Omega.{arith}
use lib.Dec.{ltb}
use lib.ListN.{length, drop, replicate}
use borrow.Author.Tests.{le-leb, ltb-true, ltb-false, ne_eqb}
use Rattle.common.specs.Lists.{all_of}
use Rattle.lines.specs.Line.{newline, space, lines}
use Rattle.lines.specs.Number.{digit0, digit9, max_number, is_digit, are_digits, is_decimal, append_digit}
use Rattle.lines.specs.Number.{append_digits, number_up_to}
use Rattle.lines.specs.Written.{digits_of, decimal, AllFit, line_text}
use Rattle.lines.specs.private.NumbersRead.{first_numbers}
use Rattle.lines.proofs.LineRead.{number_and_space, number_and_newline}

digit_is : (x : ℕ) → digit0 ≤ x → x ≤ digit9 → is_digit x ≡ true
unfolding is_digit
digit_is x h k = rw (le-leb digit0 x h, le-leb x digit9 k)

digits_append : (xs ys : List ℕ) → are_digits xs ≡ true → are_digits ys ≡ true → are_digits (xs ++ ys) ≡ true
unfolding all_of
digits_append [] ys a b = b
digits_append (x ∷ xs) ys a b = by_test (is_digit x) a (λ e. digits_append xs ys e b)
  where
    by_test : (d : Bool) → (d && are_digits xs) ≡ true → (are_digits xs ≡ true → are_digits (xs ++ ys) ≡ true)
        → (d && are_digits (xs ++ ys)) ≡ true
    by_test true e later = later e
    by_test false e later = absurd (false≢true e)

and_digits_append : (xs ys : List ℕ) (n : ℕ) → append_digits n (xs ++ ys) ≡ append_digits (append_digits n xs) ys
unfolding append_digits
and_digits_append [] ys n = refl
and_digits_append (x ∷ xs) ys n = and_digits_append xs ys (append_digit n x)

-- the digits of n: the first one, which is 0 only for n = 0, and the others, of which 0 has none
record Decimal (n : ℕ) (w : List ℕ) : Type 0 where
  pub first : ℕ
  pub others : List ℕ
  pub bytes : w ≡ first ∷ others
  pub digit : is_digit first ≡ true
  pub digits : are_digits others ≡ true
  pub value : append_digits 0 w ≡ n
  pub proper : 0 < n → ¬ (first ≡ digit0)
  pub single : n ≡ 0 → others ≡ []

decimals : (k n : ℕ) → n < k → Decimal n (digits_of k n)
unfolding digits_of append_digits all_of
decimals zero n h = absurd (omega arith)
decimals (suc k) n h = by_test (ltb n 10) refl (decimals k (n / 10))
  where
    by_test : (b : Bool) → ltb n 10 ≡ b → (n / 10 < k → Decimal (n / 10) (digits_of k (n / 10)))
        → Decimal n (cond b ((digit0 + n) ∷ []) (digits_of k (n / 10) ++ ((digit0 + n % 10) ∷ [])))
    by_test true e later =
        let small = ltb-true n 10 e in
        record {
          first = digit0 + n;
          others = [];
          bytes = refl;
          digit = digit_is (digit0 + n) (omega arith) (omega arith);
          digits = refl;
          value = omega arith;
          proper = λ p s. omega arith;
          single = λ z. refl;
        }
    by_test false e later =
        let large = ltb-false n 10 e in
        let d = later (omega arith) in
        let last = digit0 + n % 10 in
        record {
          first = d.first;
          others = d.others ++ last ∷ [];
          bytes = ap (λ w. w ++ last ∷ []) d.bytes;
          digit = d.digit;
          digits = digits_append d.others (last ∷ []) d.digits (rw (digit_is last (omega arith) (omega arith)));
          value = and_digits_append (digits_of k (n / 10)) (last ∷ []) 0 ∙ rw d.value (omega arith);
          proper = λ p. d.proper (omega arith);
          single = λ z. absurd (omega arith);
        }

proper_decimal : (x : ℕ) (xs : List ℕ) → is_digit x ≡ true → are_digits xs ≡ true → ¬ (x ≡ digit0) → is_decimal (x ∷ xs)
    ≡ true
unfolding is_decimal
proper_decimal x [] d ds f = d
proper_decimal x (y ∷ xs) d ds f = rw (d, ne_eqb x digit0 f) ds

is_decimal_lem : (n : ℕ) (w : List ℕ) → Decimal n w → is_decimal w ≡ true
unfolding is_decimal
is_decimal_lem zero w d = rw (d.bytes, d.single refl) d.digit
is_decimal_lem (suc n) w d =
    rw d.bytes (proper_decimal d.first d.others d.digit d.digits (d.proper (omega arith)))

pub decimal_reads_back : (n : ℕ) → n ≤ max_number → number_up_to max_number (decimal n) ≡ some n
unfolding decimal
decimal_reads_back n h =
    let d = decimals (suc n) n (omega arith) in
    rw (is_decimal_lem n _ d, d.value, le-leb n max_number h)

-- the first line of a text that starts with a written line, and the lines after it
pub record ReadsBack (ns xs : List ℕ) : Type 0 where
  pub numbers : first_numbers (length ns) (lines (line_text ns ++ xs)) ≡ some ns
  pub next : drop 1 (lines (line_text ns ++ xs)) ≡ lines xs

pub line_reads_back : (n : ℕ) (ns : List ℕ) → AllFit (n ∷ ns) → (xs : List ℕ) → ReadsBack (n ∷ ns) xs
unfolding line_text Option-elim
line_reads_back n [] h xs =
    let line = number_and_newline max_number n (decimal n) xs (decimal_reads_back n h.0) in
    let text = append_assoc (decimal n) (newline ∷ []) xs in
    record { numbers = rw text line.numbers; next = rw text line.next }
line_reads_back n (m ∷ ns) h xs =
    let others = line_reads_back m ns h.1 xs in
    let line = number_and_space max_number (replicate (length (m ∷ ns)) max_number) n (decimal n)
    (line_text (m ∷ ns) ++ xs) (decimal_reads_back n h.0) in
    let text = append_assoc (decimal n) (space ∷ line_text (m ∷ ns)) xs in
    record { numbers = rw text (line.numbers ∙ rw others.numbers); next = rw text (line.next ∙ others.next) }
