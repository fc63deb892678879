-- A line that is known: the text starts with it and a newline.
use Prim.Native.Nat.{ℕ, suc, ◌+◌, ◌≤◌, ◌<◌}
use mathlib.Core.Path.{◌≡◌, refl, sym, ap, ◌∙◌}
use mathlib.Core.Bool.{Bool, true, false, cond, ◌&&◌, false≢true, and-false, and-true, and_assoc}
use mathlib.Core.List.{List, [], ◌∷◌, ◌++◌, append_assoc}
use native.Mathlib.Omega.{arith}
use lib.Dec.{eqb}
use lib.ListN.{length, get_or, take, drop, length-append, length-drop}
use lib.Seq.{drop-drop}
use denote.Ref.{Bor}
use Rattle.std.specs.Prelude.{Option as Optional, Some, None, unwrap_or, option_map}
use Rattle.std.specs.Option.{option_eq}
use Rattle.std.specs.Cmp.Lexicographic.{pointwise}
use borrow.Author.Tests.{eqb-true, ne_eqb}
use Rattle.common.proofs.Tests.{eqb_turned}
use Rattle.lines.specs.Line.{newline, Line, line, in_first_line, lines, same_bytes, is_line, first_is}
use Rattle.lines.specs.private.NumbersRead.{starts_with}
use Rattle.lines.proofs.Cutting.{Free, lines_at}

-- the first line after one byte more
first_after : (x y : ℕ) (ys : List ℕ) (ls : List Line) → first_is (y ∷ ys) (in_first_line x ls)
    ≡ (eqb x y && first_is ys ls)
unfolding first_is is_line in_first_line same_bytes
first_after x y ys [] = sym (and-false (eqb x y))
first_after x y ys (l ∷ ls) = by_tests l.ended (eqb x y)
  where
    by_tests : (a b : Bool) → (a && (b && same_bytes l.bytes ys)) ≡ (b && (a && same_bytes l.bytes ys))
    by_tests true true = refl
    by_tests true false = refl
    by_tests false true = refl
    by_tests false false = refl

not_empty_line : (x : ℕ) (ls : List Line) → first_is [] (in_first_line x ls) ≡ false
unfolding first_is is_line in_first_line same_bytes
not_empty_line x [] = refl
not_empty_line x (l ∷ ls) = and-false l.ended

pub starts_with_line : (ys : List ℕ) → Free newline ys → (xs : List ℕ) → starts_with (ys ++ newline ∷ []) xs
    ≡ first_is ys
    (lines xs)
unfolding starts_with lines first_is is_line same_bytes
starts_with_line [] f [] = refl
starts_with_line [] f (x ∷ xs) = by_test (eqb x newline)
  where
    by_test : (b : Bool) → (b && true) ≡ first_is [] (cond b (line [] true ∷ lines xs) (in_first_line x (lines xs)))
    by_test true = refl
    by_test false = sym (not_empty_line x (lines xs))
starts_with_line (y ∷ ys) f [] = refl
starts_with_line (y ∷ ys) f (x ∷ xs) = ap (λ b. eqb x y && b) (starts_with_line ys f.1 xs)
    ∙ by_test (eqb x newline) refl
  where
    by_test : (b : Bool) → eqb x newline ≡ b → (eqb x y && first_is ys (lines xs)) ≡ first_is (y ∷ ys)
        (cond b (line [] true ∷ lines xs) (in_first_line x (lines xs)))
    by_test true e =
        let differ : ¬ (x ≡ y) = λ s. false≢true (sym f.0 ∙ ap (λ z. eqb z newline) (sym s) ∙ e) in
        rw (ne_eqb x y differ)
    by_test false e = sym (first_after x y ys (lines xs))

-- the text after what it starts with
starts_rest : (ys xs : List ℕ) → starts_with ys xs ≡ true → xs ≡ ys ++ drop (length ys) xs
unfolding starts_with
starts_rest [] xs e = refl
starts_rest (y ∷ ys) [] e = absurd (false≢true e)
starts_rest (y ∷ ys) (x ∷ xs) e = by_test (eqb x y) refl e (starts_rest ys xs)
  where
    by_test : (b : Bool) → eqb x y ≡ b → (b && starts_with ys xs) ≡ true
        → (starts_with ys xs ≡ true → xs ≡ ys ++ drop (length ys) xs)
        → x ∷ xs ≡ y ∷ (ys ++ drop (length ys) xs)
    by_test true s t later = λ i. eqb-true x y s i ∷ later t i
    by_test false s t later = absurd (false≢true t)

pub record Starts (ys xs : List ℕ) (at : ℕ) : Type 0 where
  pub text : drop at xs ≡ ys ++ drop (at + length ys) xs
  pub inside : 0 < length ys → at + length ys ≤ length xs

pub starts : (ys xs : List ℕ) (at : ℕ) → starts_with ys (drop at xs) ≡ true → Starts ys xs at
starts ys xs at e =
    let text = starts_rest ys (drop at xs) e in
    let lengths = ap length text ∙ length-append ys _ in
    record {
      text = text ∙ ap (λ r. ys ++ r) (drop-drop (length ys) at xs);
      inside = λ h. omega (arith, length-drop at xs, lengths);
    }

-- the library's test, which compares as many bytes
pub same_start : (ys xs : List ℕ) → pointwise eqb ys (take (length ys) xs) ≡ starts_with ys xs
unfolding starts_with
same_start [] xs = refl
same_start (y ∷ ys) [] = refl
same_start (y ∷ ys) (x ∷ xs) = rw (eqb_turned y x, same_start ys xs)

-- bytes and one more; past its end a text has none
pub starts_byte : (e : ℕ) (ys xs : List ℕ) → starts_with (ys ++ e ∷ []) xs
    ≡ (starts_with ys xs && eqb (get_or xs (length ys) (suc e)) e)
unfolding starts_with
starts_byte e [] [] = sym (ne_eqb (suc e) e (λ s. omega arith))
starts_byte e [] (x ∷ xs) = rw and-true
starts_byte e (y ∷ ys) [] = refl
starts_byte e (y ∷ ys) (x ∷ xs) = rw (starts_byte e ys xs) (sym (and_assoc (eqb x y) (starts_with ys xs) _))

-- a byte that may be there is another
pub same_byte : (r : Optional (Bor ℕ)) (q : Bor ℕ) (n : ℕ) → unwrap_or (option_map (λ x. x.now) r) (suc q.now) ≡ n
    → option_eq (λ x y. eqb x.now y.now) r (Some q) ≡ eqb n q.now
same_byte None q n e = rw (← e) (sym (ne_eqb (suc q.now) q.now (λ s. omega arith)))
same_byte (Some x) q n e = rw e

-- the lines after a known one
pub record Passed (ys xs : List ℕ) (at : ℕ) : Type 0 where
  pub rest : lines (drop (at + (length ys + 1)) xs) ≡ drop 1 (lines (drop at xs))
  pub inside : at + (length ys + 1) ≤ length xs

pub line_passed : (ys xs : List ℕ) (at : ℕ) → Free newline ys → first_is ys (lines (drop at xs)) ≡ true →
    Passed ys xs at
line_passed ys xs at f e =
    let size = length-append ys (newline ∷ []) in
    let start = starts (ys ++ newline ∷ []) xs at (starts_with_line ys f (drop at xs) ∙ e) in
    let rest = drop (at + (length ys + 1)) xs in
    let text : drop at xs ≡ ys ++ newline ∷ rest =
    start.text ∙ ap (λ n. (ys ++ newline ∷ []) ++ drop (at + n) xs) size ∙ append_assoc ys (newline ∷ []) rest in
    record {
      rest = sym (ap (λ ls. drop 1 ls) (ap lines text ∙ lines_at ys rest f));
      inside = omega (arith, start.inside (omega (arith, size)), size);
    }
