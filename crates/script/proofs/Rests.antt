-- The first line of a text, and what stands behind its word.
use Prim.Native.Nat.{ℕ, ◌+◌, ◌≤◌}
use mathlib.Core.Path.{◌≡◌, refl, sym, ap, ◌∙◌}
use mathlib.Core.Bool.{Bool, true, false}
use mathlib.Core.List.{List, [], ◌∷◌, ◌++◌}
use mathlib.Core.Option.{none}
use native.Mathlib.Omega.{arith}
use lib.Dec.{eqb}
use lib.ListN.{length, take, drop, length-append, length-drop, length-take}
use lib.Seq.{drop-drop}
use Rattle.lines.specs.Line.{newline, space, Line, in_first_line, lines}
use Rattle.lines.specs.private.NumbersRead.{first_parts, first_length}
use Rattle.lines.proofs.Cutting.{Free, lines_at, no_whole_line}
use Rattle.lines.proofs.First.{Before, behind_first}
use Rattle.lines.proofs.FirstLine.{one_more}
use Rattle.lines.proofs.Parts.{PartsMet}
use Rattle.script.specs.Words.{Rest}
use Rattle.script.specs.Command.{numbers_in}
use Rattle.script.specs.Rest.{rest_of, first_bytes}

-- any bytes up to the newline are no numbers
pub any_bytes : (xs : List ℕ) (at i : ℕ) → Before newline (drop at xs) i
    → PartsMet (numbers_in Rest) xs at [] (at + i + 1)
unfolding first_parts
any_bytes xs at i b =
    let next : drop (at + i + 1) xs ≡ b.rest =
    ap (λ k. drop k xs) (omega arith)
    ∙ sym (drop-drop (length b.bytes + 1) at xs) ∙ ap (drop (length b.bytes + 1)) b.text
    ∙ behind_first newline b.bytes b.rest in
    let size = ap length b.text ∙ length-append b.bytes (newline ∷ b.rest) in
    record {
      numbers = rw (b.text, lines_at b.bytes b.rest b.free);
      rest = rw (next, b.text, lines_at b.bytes b.rest b.free);
      right = (omega arith, omega (arith, size, b.size, length-drop at xs));
    }

pub no_bytes : (xs : List ℕ) → Free newline xs → none ≡ first_parts (numbers_in Rest) (lines xs)
no_bytes xs f = sym (no_whole_line (numbers_in Rest) xs f)

-- the first line's bytes are the first of the text, as many as it has
more_taken : (x : ℕ) (xs : List ℕ) (b : Bool) (ls : List Line) → take (first_length ls) xs ≡ first_bytes ls
    → take (first_length (one_more x b ls)) (x ∷ xs) ≡ first_bytes (one_more x b ls)
unfolding first_length first_bytes in_first_line
more_taken x xs true ls e = refl
more_taken x xs false [] e = refl
more_taken x xs false (l ∷ ls) e = ap (λ ys. x ∷ ys) e

all_taken : (xs : List ℕ) → take (first_length (lines xs)) xs ≡ first_bytes (lines xs)
unfolding lines first_length first_bytes
all_taken [] = refl
all_taken (x ∷ xs) = more_taken x xs (eqb x newline) (lines xs) (all_taken xs)

first_size : (ls : List Line) → length (first_bytes ls) ≡ first_length ls
unfolding first_length first_bytes
first_size [] = refl
first_size (l ∷ ls) = refl

-- the first line of a text, which ends at `end`
module _ (xs : List ℕ) (end : ℕ) (is-end : end ≡ 0 + first_length (lines xs)) where
  pub line_taken : take end xs ≡ first_bytes (lines xs)
  line_taken = let e : end ≡ first_length (lines xs) = omega arith in rw e (all_taken xs)

  pub line_inside : end ≤ length xs
  line_inside = omega (arith, length-take end xs, ap length line_taken, first_size (lines xs))

-- what stands behind the first space
rest_behind : (w r : List ℕ) → Free space w → rest_of (w ++ space ∷ r) ≡ r
unfolding rest_of
rest_behind [] r f = refl
rest_behind (x ∷ w) r f = rw (f.0, rest_behind w r f.1)

pub rest_dropped : (xs : List ℕ) (i : ℕ) → Before space xs i → drop (i + 1) xs ≡ rest_of xs
rest_dropped xs i b =
    rw (← b.size, b.text) (behind_first space b.bytes b.rest ∙ sym (rest_behind b.bytes b.rest b.free))

pub no_rest : (xs : List ℕ) → Free space xs → [] ≡ rest_of xs
unfolding rest_of
no_rest [] f = refl
no_rest (x ∷ xs) f = rw f.0 (no_rest xs f.1)
