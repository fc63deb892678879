-- What the functions that read a text promise.
use Rattle.std.specs.Prelude.{ℕ, ◌-◌, ◌≤◌, ◌<◌, ◌≡◌, Bool, true, false, cond, not, ◌&&◌, List, [], ◌∷◌, leb, ltb, eqb}
use Rattle.std.specs.Prelude.{length, drop}
use Rattle.std.specs.Prelude.{Option as Optional, Some, None}
use Rattle.std.proofs.Math.Option.{Option, none, some, Option-elim}
use Rattle.lines.specs.Line.{Line, lines, parts_read}
use Rattle.lines.specs.Number.{digit0, is_digit, append_digit, number_up_to, line_numbers}

unfoldable pub up_to : (most n : ℕ) → Option ℕ
up_to most n = cond (leb n most) (some n) none

-- the number of the one digit x; the byte `end` is none
unfoldable pub first_digit : (most end x : ℕ) → Option ℕ
first_digit most end x = cond (not (eqb x end) && is_digit x && leb (x - digit0) most) (some (x - digit0)) none

-- the number n, of at least one digit, with one more digit x behind it; no digit stands behind a 0
unfoldable pub one_more : (most n x : ℕ) → Option ℕ
one_more most n x = cond (ltb 0 n && is_digit x && leb (append_digit n x) most) (some (append_digit n x)) none

-- the number that the code gives, if it gives one
abbrev pub written_number : Optional ℕ → Option ℕ
written_number (Some n) = some n
written_number None = none

-- bytes, and the text after them
pub record Cut : Type 0 where
  pub bytes : List ℕ
  pub rest : List ℕ

abbrev pub bytes_before : List ℕ → List ℕ → Cut
bytes_before xs ys = record { bytes = xs; rest = ys }

-- the bytes before the first `end`, and the text after it
unfoldable pub cut : (end : ℕ) → List ℕ → Option Cut
cut end [] = none
cut end (x ∷ xs) =
    cond (eqb x end) (some (bytes_before [] xs))
    (Option-elim (cut end xs) none (λ c. some (bytes_before (x ∷ c.bytes) c.rest)))

-- a number, and the text after the byte that ends it
pub record NumberCut : Type 0 where
  pub value : ℕ
  pub rest : List ℕ

abbrev pub number_before : ℕ → List ℕ → NumberCut
number_before n xs = record { value = n; rest = xs }

-- the number before the first `end`, which may be any byte
unfoldable pub number_cut : (most end : ℕ) → List ℕ → Option NumberCut
number_cut most end xs =
    Option-elim (cut end xs) none (λ c. Option-elim (number_up_to most c.bytes) none
    (λ n. some (number_before n c.rest)))

-- the number up to `most` that stands at `at` of the text xs and that the byte `end` ends, and where the text goes on
pub record NumberMet (most end : ℕ) (xs : List ℕ) (at value next : ℕ) : Type 0 where
  pub number : some (number_before value (drop next xs)) ≡ number_cut most end (drop at xs)
  pub fits : value ≤ most
  pub right : (at < next) × (next ≤ length xs)

-- what `read` makes of the parts of the first line
unfoldable pub first_parts : {A : Type 0} → (read : List (List ℕ) → Option A) → List Line → Option A
first_parts read [] = none
first_parts read (l ∷ ls) = parts_read read l

-- the first line, where it has `count` numbers
abbrev pub first_numbers : (count : ℕ) → List Line → Option (List ℕ)
first_numbers count ls = first_parts (line_numbers count) ls

-- the line that starts at `at` of the text xs, read by its parts: it has what `read` takes, these are its numbers, and
-- there the next line starts
pub record PartsMet (read : List (List ℕ) → Option (List ℕ)) (xs : List ℕ) (at : ℕ) (ns : List ℕ) (next : ℕ) : Type 0
  where
    pub numbers : some ns ≡ first_parts read (lines (drop at xs))
    pub rest : lines (drop next xs) ≡ drop 1 (lines (drop at xs))
    pub right : (at < next) × (next ≤ length xs)

-- it has `count` numbers
abbrev pub LineMet : (count : ℕ) (xs : List ℕ) (at : ℕ) (ns : List ℕ) (next : ℕ) → Type 0
LineMet count xs at ns next = PartsMet (line_numbers count) xs at ns next

-- the text xs starts with the bytes ys
unfoldable pub starts_with : (ys xs : List ℕ) → Bool
starts_with [] xs = true
starts_with (y ∷ ys) [] = false
starts_with (y ∷ ys) (x ∷ xs) = eqb x y && starts_with ys xs

-- the length of the first line, without its newline; 0 where there is none
unfoldable pub first_length : List Line → ℕ
first_length [] = 0
first_length (l ∷ ls) = length l.bytes
