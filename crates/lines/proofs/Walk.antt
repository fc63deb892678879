-- The walk from line to line.
use Prim.Native.Nat.{ℕ, suc, ◌+◌, ◌-◌, ◌≤◌, ◌<◌}
use mathlib.Core.Path.{◌≡◌, refl, sym, ap, ◌∙◌}
use mathlib.Core.Bool.{Bool, true, false}
use mathlib.Core.List.{List, [], ◌∷◌}
use native.Mathlib.Nat.{add-zero}
use native.Mathlib.Omega.{arith}
use lib.Dec.{eqb}
use lib.ListN.{length, get_or, take, drop, length-drop, get_or-map}
use lib.Seq.{drop-drop, get_or-drop}
use Rattle.lines.specs.Line.{newline, Line, line, in_first_line, lines}
use Rattle.lines.specs.Names.{NameMet}
use Rattle.lines.specs.private.NumbersRead.{first_length}
use Rattle.lines.proofs.Cutting.{no_lines}
use Rattle.lines.proofs.FirstLine.{one_more}
use Rattle.lines.specs.private.LineStarts.{NextMet, StartMet}

-- the first line's bytes are the first of the text, as many as it has
more_bytes : (x : ℕ) (xs : List ℕ) (b : Bool) (ls : List Line)
    → (get_or ls 0 (line [] true)).bytes ≡ take (first_length ls) xs
    → (get_or (one_more x b ls) 0 (line [] true)).bytes ≡ take (first_length (one_more x b ls)) (x ∷ xs)
unfolding first_length in_first_line
more_bytes x xs true ls e = refl
more_bytes x xs false [] e = refl
more_bytes x xs false (l ∷ ls) e = ap (λ ys. x ∷ ys) e

first_bytes_lem : (xs : List ℕ) → (get_or (lines xs) 0 (line [] true)).bytes ≡ take (first_length (lines xs)) xs
unfolding lines first_length
first_bytes_lem [] = refl
first_bytes_lem (x ∷ xs) = more_bytes x xs (eqb x newline) (lines xs) (first_bytes_lem xs)

-- the other lines are those of the text after it and its newline
more_rest : (x : ℕ) (xs : List ℕ) (b : Bool) (ls : List Line)
    → ls ≡ lines xs → drop 1 ls ≡ lines (drop (suc (first_length ls)) xs)
    → drop 1 (one_more x b ls) ≡ lines (drop (suc (first_length (one_more x b ls))) (x ∷ xs))
unfolding first_length in_first_line
more_rest x xs true ls same e = same
more_rest x xs false [] same e = e
more_rest x xs false (l ∷ ls) same e = e

first_rest : (xs : List ℕ) → drop 1 (lines xs) ≡ lines (drop (suc (first_length (lines xs))) xs)
unfolding lines first_length
first_rest [] = refl
first_rest (x ∷ xs) = more_rest x xs (eqb x newline) (lines xs) refl (first_rest xs)

-- the first line is no longer than the text
more_fits : (x n : ℕ) (b : Bool) (ls : List Line) → first_length ls ≤ n → first_length (one_more x b ls) ≤ suc n
unfolding first_length in_first_line
more_fits x n true ls h = omega arith
more_fits x n false [] h = omega arith
more_fits x n false (l ∷ ls) h = omega arith

first_fits : (xs : List ℕ) → first_length (lines xs) ≤ length xs
unfolding lines first_length
first_fits [] = omega arith
first_fits (x ∷ xs) = more_fits x (length xs) (eqb x newline) (lines xs) (first_fits xs)

-- the line from `at` to `end`
module _ (xs : List ℕ) (at end : ℕ) (is-end : end ≡ at + first_length (lines (drop at xs))) where
  pub end_inside : at ≤ length xs → end ≤ length xs
  end_inside h = omega (arith, first_fits (drop at xs), length-drop at xs)

  after_line : drop 1 (lines (drop at xs)) ≡ lines (drop (end + 1) xs)
  after_line =
      let k : at + suc (first_length (lines (drop at xs))) ≡ end + 1 = omega arith in
      first_rest (drop at xs)
      ∙ ap lines (drop-drop (suc (first_length (lines (drop at xs)))) at xs ∙ ap (λ j. drop j xs) k)

  pub next_after : end < length xs → NextMet xs at (end + 1)
  next_after h = record { rest = sym after_line; further = λ g. omega arith; inside = omega arith }

  pub no_next : length xs ≤ end → NextMet xs at (length xs)
  no_next h =
      record {
        rest = no_lines xs (length xs) (omega arith) ∙ sym (after_line ∙ no_lines xs (end + 1) (omega arith));
        further = λ g. g;
        inside = omega arith;
      }

  pub name_met : (k : ℕ) → StartMet xs k at → NameMet xs k at end
  name_met k m =
      let n : end - at ≡ first_length (lines (drop at xs)) = omega arith in
      let place : k + 0 ≡ k = add-zero k in
      record {
        bytes = ap (λ j. take j (drop at xs)) n
            ∙ sym (first_bytes_lem (drop at xs))
            ∙ ap (λ ls. (get_or ls 0 (line [] true)).bytes) m.rest
            ∙ ap (λ l. l.bytes) (get_or-drop k (lines xs) 0 (line [] true))
            ∙ ap (λ j. (get_or (lines xs) j (line [] true)).bytes) place
            ∙ sym (get_or-map (λ l. l.bytes) (lines xs) k (line [] true));
        order = omega arith;
        inside = end_inside m.inside;
      }
