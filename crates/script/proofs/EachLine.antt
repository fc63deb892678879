-- A text taken line by line, each with its newline: `split_inclusive` with `enumerate`.
use Prim.Native.Nat.{ℕ, ◌+◌, ◌≤◌, ◌<◌}
use mathlib.Core.Path.{◌≡◌, refl, sym, ap, ap₂, ◌∙◌}
use mathlib.Core.Bool.{Bool, true, false, cond}
use mathlib.Core.List.{List, [], ◌∷◌, map}
use native.Mathlib.Omega.{arith}
use native.Mathlib.Numerals.{add-one}
use denote.Param.Members.{Mut}
use lib.Dec.{eqb}
use lib.ListN.{length, get_or, drop, drop_of_length-le}
use lib.Seq.{drop-cons}
use Rattle.std.specs.declared.iter.Enumerate.{Enumerate}
use Rattle.std.specs.Borrow.{Bor}
use Rattle.std.specs.Prelude.{Option as Maybe, Some, None}
use Rattle.std.specs.Fn.{ComputesKey}
use Rattle.std.specs.Iterator.{Yields}
use Rattle.std.specs.Iterator.Adapters.{enumerate_source, enumerate_count, enumerate_steps}
use Rattle.std.specs.List.{enumerate_from}
use Rattle.std.proofs.lemmas.Iterator.{YieldsList}
use Rattle.std.proofs.lemmas.Iterator.Consumers.{YieldsList-turn, YieldsList-end, YieldsList-from_enumerate}
use Rattle.std.proofs.lemmas.List.{get_or-map}
use Rattle.std.proofs.lemmas.List.FromFn.{get_or-enumerate_from, length-enumerate_from}
use Rattle.lines.specs.Line.{newline, Line, line, in_first_line, in_first_part, lines}
use Rattle.lines.proofs.FirstLine.{one_more}
use Rattle.lines.proofs.Pieces.{pieces, pieces_count, cuts, pieces_yielded}

abbrev alone : Line → List Line
alone l = l ∷ []

-- one byte more at the start of the first piece
more_alone : (x : ℕ) (b : Bool) → eqb x newline ≡ b → (ps : List (List ℕ)) (ls : List Line)
    → map lines ps ≡ map alone ls
    → map lines (cond b ((x ∷ []) ∷ ps) (in_first_part x ps)) ≡ map alone (one_more x b ls)
unfolding lines in_first_line in_first_part
more_alone x true t ps ls e = ap₂ (λ k ms. k ∷ ms) (ap (λ b. one_more x b []) t) e
more_alone x false t [] [] e = ap (λ b. one_more x b [] ∷ []) t
more_alone x false t [] (l ∷ ls) e = cc
more_alone x false t (p ∷ ps) [] e = cc
more_alone x false t (p ∷ ps) (l ∷ ls) e =
    let first : lines p ≡ l ∷ [] = ap (λ ms. get_or ms 0 []) e in
    let rest : map lines ps ≡ map alone ls = ap (λ ms. drop 1 ms) e in
    ap₂ (λ k ms. k ∷ ms) (ap (λ b. one_more x b (lines p)) t ∙ ap (in_first_line x) first) rest

-- each piece has one line
pieces_alone : (xs : List ℕ) → map lines (pieces xs) ≡ map alone (lines xs)
unfolding pieces lines
pieces_alone [] = refl
pieces_alone (x ∷ xs) = more_alone x (eqb x newline) refl (pieces xs) (lines xs) (pieces_alone xs)

more_few : (x n : ℕ) (b : Bool) (ls : List Line) → length ls ≤ n → length (one_more x b ls) ≤ n + 1
unfolding in_first_line
more_few x n true ls h = omega arith
more_few x n false [] h = omega arith
more_few x n false (l ∷ ls) h = omega arith

lines_few : (xs : List ℕ) → length (lines xs) ≤ length xs
unfolding lines
lines_few [] = omega arith
lines_few (x ∷ xs) = omega (arith, more_few x (length xs) (eqb x newline) (lines xs) (lines_few xs))

-- line k of a text, counted from 0, is all that the piece has, and there are more bytes than k
pub record LineAt (xs : List ℕ) (k : ℕ) (piece : List ℕ) : Type 0 where
  pub line : Line
  pub alone : lines piece ≡ line ∷ []
  pub there : drop k (lines xs) ≡ line ∷ drop (k + 1) (lines xs)
  pub inside : k < length xs

line_at : (xs : List ℕ) (k : ℕ) (p : List ℕ) → k < length (pieces xs) → p ≡ get_or (pieces xs) k p → LineAt xs k p
line_at xs k p h e =
    let l = get_or (lines xs) k (line [] false) in
    let inside : k < length (lines xs) = omega (arith, pieces_count xs) in
    record {
      line = l;
      alone = ap lines e ∙ sym (get_or-map lines (pieces xs) k p (alone l) h)
          ∙ ap (λ ms. get_or ms k (alone l)) (pieces_alone xs)
          ∙ get_or-map alone (lines xs) k (line [] false) (alone l) inside;
      there = drop-cons (lines xs) k (line [] false) inside ∙ ap (λ n. l ∷ drop n (lines xs)) (sym (add-one k));
      inside = omega (arith, lines_few xs);
    }

-- an `enumerate` of the pieces of the text xs, by what it has left and its closure
module _ {F S : Type 0} (g : Mut F (Bor ℕ × Unit {0}) Bool) (rest : S → List ℕ) (closure : S → F) (xs : List ℕ)
    (s : Enumerate S) (all : rest (enumerate_source s) ≡ xs) (start : enumerate_count s ≡ 0)
    (ends : ComputesKey g (λ x. eqb x newline) (closure (enumerate_source s)))
  where
    abbrev steps : Enumerate S → Maybe (ℕ × Bor (List ℕ)) → Enumerate S → Type 0
    steps = enumerate_steps (cuts g rest closure)

    yielded : YieldsList {B = ℕ × List ℕ} steps (λ p. (p.0, p.1.now)) s (enumerate_from 0 (pieces xs))
    yielded =
        rw (← all) (YieldsList-from_enumerate (pieces_yielded g rest closure (enumerate_source s) ends) start)

    -- a turn, after those that gave ps
    pub record Turn (k : ℕ) (p : ℕ × Bor (List ℕ)) : Type 0 where
      pub place : p.0 ≡ k
      pub line : LineAt xs k p.1.now

    pub turn : (ps : List (ℕ × Bor (List ℕ))) (t : Enumerate S) → Yields steps s ps t
        → (r : Maybe (ℕ × Bor (List ℕ))) (u : Enumerate S) (p : ℕ × Bor (List ℕ)) → r ≡ Some p → steps t r u
        → Turn (length ps) p
    turn ps t y r u p is k =
        let at = YieldsList-turn yielded ps t y r u p is k in
        let inside : length ps < length (pieces xs) = omega (arith, at.0, length-enumerate_from 0 (pieces xs)) in
        let e = at.1 ∙ get_or-enumerate_from 0 (pieces xs) (length ps) (p.0, p.1.now) inside in
        record {
          place = omega (arith, ap (λ (q : ℕ × List ℕ). q.0) e);
          line = line_at xs (length ps) p.1.now inside (ap (λ (q : ℕ × List ℕ). q.1) e);
        }

    -- after the last one
    pub no_turn : (ps : List (ℕ × Bor (List ℕ))) (t : Enumerate S) → Yields steps s ps t
        → (r : Maybe (ℕ × Bor (List ℕ))) (u : Enumerate S) → r ≡ None → steps t r u
        → drop (length ps) (lines xs) ≡ []
    no_turn ps t y r u is k =
        let n = (YieldsList-end yielded ps t y r u is k).1 in
        drop_of_length-le (lines xs) {i = length ps}
        (omega (arith, n, length-enumerate_from 0 (pieces xs), pieces_count xs))
