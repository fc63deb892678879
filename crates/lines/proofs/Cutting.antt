-- Texts cut at a byte: their lines, and the parts of a line.
use Prim.Native.Nat.{ℕ, suc, ◌≤◌, ◌<◌}
use mathlib.Core.Path.{◌≡◌, refl, ap}
use mathlib.Core.Bool.{Bool, true, false, cond, not, ◌&&◌, false≢true}
use mathlib.Core.List.{List, [], ◌∷◌, ◌++◌}
use mathlib.Core.Option.{Option, none, some, Option-elim}
use native.Mathlib.Omega.{arith}
use lib.Dec.{eqb}
use lib.ListN.{length, get_or, drop, drop_of_length-le}
use lib.Seq.{drop-cons}
use borrow.Author.Tests.{eqb-true, eq-eqb}
use Rattle.lines.specs.Line.{newline, space, Line, line, in_first_line, lines, in_first_part, parts}
use Rattle.lines.specs.private.NumbersRead.{bytes_before, cut, first_parts}

-- the byte e stands nowhere in the bytes
abbrev pub Free : ℕ → List ℕ → Type 0
Free e [] = Unit {0}
Free e (x ∷ xs) = (eqb x e ≡ false) × Free e xs

unfoldable pub lacks : ℕ → List ℕ → Bool
lacks e [] = true
lacks e (x ∷ xs) = not (eqb x e) && lacks e xs

-- a list that is written out is tested
pub lacks_free : (e : ℕ) (xs : List ℕ) → lacks e xs ≡ true → Free e xs
unfolding lacks
lacks_free e [] t = tt
lacks_free e (x ∷ xs) t = by_test (eqb x e) refl t (lacks_free e xs)
  where
    by_test : (b : Bool) → eqb x e ≡ b → (not b && lacks e xs) ≡ true → (lacks e xs ≡ true → Free e xs)
        → (eqb x e ≡ false) × Free e xs
    by_test true s u later = absurd (false≢true u)
    by_test false s u later = (s, later u)

pub free_append : (e : ℕ) (xs ys : List ℕ) → Free e xs → Free e ys → Free e (xs ++ ys)
free_append e [] ys f g = g
free_append e (x ∷ xs) ys f g = (f.0, free_append e xs ys f.1 g)

pub free_left : (e : ℕ) (xs ys : List ℕ) → Free e (xs ++ ys) → Free e xs
free_left e [] ys f = tt
free_left e (x ∷ xs) ys f = (f.0, free_left e xs ys f.1)

pub cut_at : (e : ℕ) (w r : List ℕ) → Free e w → cut e (w ++ e ∷ r) ≡ some (bytes_before w r)
unfolding cut Option-elim
cut_at e [] r f = rw (eq-eqb e e refl)
cut_at e (x ∷ w) r f = rw (f.0, cut_at e w r f.1)

-- a text without the byte e, or the bytes before the first one and the text after it
pub data Cutting (e : ℕ) (xs : List ℕ) : Type 0 where
  whole : Free e xs → cut e xs ≡ none → Cutting e xs
  in_two : (w r : List ℕ) → xs ≡ w ++ e ∷ r → Free e w → Cutting e xs

pub cutting : (e : ℕ) (xs : List ℕ) → Cutting e xs
unfolding cut Option-elim
cutting e [] = whole tt refl
cutting e (x ∷ xs) = by_test (eqb x e) refl (cutting e xs)
  where
    by_test : (b : Bool) → eqb x e ≡ b → Cutting e xs → Cutting e (x ∷ xs)
    by_test true t c = in_two [] xs (ap (λ y. y ∷ xs) (eqb-true x e t)) tt
    by_test false t (whole f n) = whole (t, f) (rw (t, n))
    by_test false t (in_two w r s f) = in_two (x ∷ w) r (ap (λ ys. x ∷ ys) s) (t, f)

pub parts_whole : (w : List ℕ) → Free space w → parts w ≡ w ∷ []
unfolding parts in_first_part
parts_whole [] f = refl
parts_whole (x ∷ w) f = rw (f.0, parts_whole w f.1)

pub parts_at : (w r : List ℕ) → Free space w → parts (w ++ space ∷ r) ≡ w ∷ parts r
unfolding parts in_first_part
parts_at [] r f = refl
parts_at (x ∷ w) r f = rw (f.0, parts_at w r f.1)

pub lines_at : (w r : List ℕ) → Free newline w → lines (w ++ newline ∷ r) ≡ line w true ∷ lines r
unfolding lines in_first_line
lines_at [] r f = refl
lines_at (x ∷ w) r f = rw (f.0, lines_at w r f.1)

-- a text without a newline has at most one line, which lacks it
lines_whole : (x : ℕ) (w : List ℕ) → Free newline (x ∷ w) → lines (x ∷ w) ≡ line (x ∷ w) false ∷ []
unfolding lines in_first_line
lines_whole x [] f = rw f.0
lines_whole x (y ∷ w) f = rw (f.0, lines_whole y w f.1)

pub no_whole_line : {A : Type 0} (read : List (List ℕ) → Option A) (xs : List ℕ) → Free newline xs
    → first_parts read (lines xs) ≡ none
unfolding first_parts lines
no_whole_line read [] f = refl
no_whole_line read (x ∷ xs) f = rw (lines_whole x xs f)

pub no_next_line : (xs : List ℕ) → Free newline xs → drop 1 (lines xs) ≡ []
unfolding lines
no_next_line [] f = refl
no_next_line (x ∷ xs) f = rw (lines_whole x xs f)

-- past the end of a text there is no line
pub no_lines : (xs : List ℕ) (at : ℕ) → length xs ≤ at → lines (drop at xs) ≡ []
unfolding lines
no_lines xs at h = rw (drop_of_length-le xs {i = at} h)

-- a text that is not empty has a line
lines_some : (x : ℕ) (xs : List ℕ) → ¬ (lines (x ∷ xs) ≡ [])
unfolding lines in_first_line
lines_some x xs = by_test (eqb x newline) (lines xs)
  where
    cons_nil : (l : Line) (ls : List Line) → ¬ (l ∷ ls ≡ [])
    cons_nil l ls e = let z : length (l ∷ ls) ≡ 0 = ap length e in omega arith

    by_test : (b : Bool) (ls : List Line) → ¬ (cond b (line [] true ∷ ls) (in_first_line x ls) ≡ [])
    by_test true ls = cons_nil _ ls
    by_test false [] = cons_nil _ []
    by_test false (l ∷ ls) = cons_nil _ ls

pub some_line : (xs : List ℕ) (at : ℕ) → at < length xs → ¬ (lines (drop at xs) ≡ [])
some_line xs at h = rw (drop-cons xs at 0 h) (lines_some (get_or xs at 0) (drop (suc at) xs))
