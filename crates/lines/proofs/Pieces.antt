-- The pieces of a text that its newlines end.
use Prim.Native.Nat.{ℕ, zero, suc, ◌+◌, ◌<◌, ◌≤◌, min}
use mathlib.Core.Path.{◌≡◌, refl, sym, ap, subst, ◌∙◌}
use mathlib.Core.Bool.{Bool, true, false, cond, false≢true}
use mathlib.Core.List.{List, [], ◌∷◌, ◌++◌}
use native.Mathlib.Omega.{arith}
use denote.Param.Members.{Mut}
use lib.Dec.{eqb}
use lib.ListN.{length, get_or, take, drop}
use Rattle.std.specs.Borrow.{Bor}
use Rattle.std.specs.Prelude.{Option as Maybe, Some, MatchOption, sum_by}
use Rattle.std.specs.Fn.{ComputesKey}
use Rattle.std.specs.Iterator.{AlwaysYields}
use Rattle.std.specs.List.{IsFirstMatchOrLen}
use Rattle.std.proofs.lemmas.Iterator.{YieldsList}
use Rattle.std.proofs.lemmas.List.Sums.{sum_by-cons, sum_by-take-le}
use Rattle.lines.specs.Line.{newline, Line, lines, in_first_line, in_first_part}
use Rattle.lines.proofs.FirstLine.{one_more}

abbrev is_end : ℕ → Bool
is_end x = eqb x newline

-- the lines with their newlines
unfoldable pub pieces : List ℕ → List (List ℕ)
pieces [] = []
pieces (x ∷ xs) = cond (eqb x newline) ((x ∷ []) ∷ pieces xs) (in_first_part x (pieces xs))

-- as many as lines
more_pieces : (x : ℕ) (b : Bool) (ps : List (List ℕ)) (ls : List Line) → length ps ≡ length ls
    → length (cond b ((x ∷ []) ∷ ps) (in_first_part x ps)) ≡ length (one_more x b ls)
unfolding in_first_part in_first_line
more_pieces x true ps ls e = omega (arith, e)
more_pieces x false [] [] e = refl
more_pieces x false [] (l ∷ ls) e = absurd (omega (arith, e))
more_pieces x false (p ∷ ps) [] e = absurd (omega (arith, e))
more_pieces x false (p ∷ ps) (l ∷ ls) e = omega (arith, e)

pub pieces_count : (xs : List ℕ) → length (pieces xs) ≡ length (lines xs)
unfolding pieces lines
pieces_count [] = refl
pieces_count (x ∷ xs) = more_pieces x (eqb x newline) (pieces xs) (lines xs) (pieces_count xs)

-- how many bytes the first k pieces have
abbrev pub first_size : (k : ℕ) → List (List ℕ) → ℕ
first_size k ps = sum_by length (take k ps)

-- a piece that is a byte longer
one_longer : (x : ℕ) (p : List ℕ) (ps : List (List ℕ)) → sum_by length ((x ∷ p) ∷ ps) ≡ suc (sum_by length (p ∷ ps))
one_longer x p ps = omega (arith, sum_by-cons length (x ∷ p) ps, sum_by-cons length p ps)

-- behind the first k pieces stand the lines behind the first k
more_behind : (x k : ℕ) (xs : List ℕ) (b : Bool) (ps : List (List ℕ)) (ls : List Line) → length ps ≡ length ls
    → ((j : ℕ) → lines (drop (first_size j ps) xs) ≡ drop j ls)
    → lines (drop (first_size (suc k) (cond b ((x ∷ []) ∷ ps) (in_first_part x ps))) (x ∷ xs))
    ≡ drop (suc k) (one_more x b ls)
unfolding in_first_part in_first_line
more_behind x k xs true ps ls n h = rw (one_longer x [] (take k ps)) (h k)
more_behind x k xs false [] [] n h = rw (one_longer x [] (take k [])) (h k)
more_behind x k xs false [] (l ∷ ls) n h = absurd (omega (arith, n))
more_behind x k xs false (p ∷ ps) [] n h = absurd (omega (arith, n))
more_behind x k xs false (p ∷ ps) (l ∷ ls) n h = rw (one_longer x p (take k ps)) (h (suc k))

pub pieces_behind : (xs : List ℕ) (k : ℕ) → lines (drop (first_size k (pieces xs)) xs) ≡ drop k (lines xs)
unfolding pieces lines
pieces_behind [] zero = refl
pieces_behind [] (suc k) = refl
pieces_behind (x ∷ xs) zero = refl
pieces_behind (x ∷ xs) (suc k) =
    more_behind x k xs (eqb x newline) (pieces xs) (lines xs) (pieces_count xs) (pieces_behind xs)

-- the pieces have all of the text's bytes
more_size : (x n : ℕ) (b : Bool) (ps : List (List ℕ)) → sum_by length ps ≡ n
    → sum_by length (cond b ((x ∷ []) ∷ ps) (in_first_part x ps)) ≡ suc n
unfolding in_first_part
more_size x n true ps e = one_longer x [] ps ∙ ap (λ k. suc k) e
more_size x n false [] e = ap (λ k. suc k) e
more_size x n false (p ∷ ps) e = one_longer x p ps ∙ ap (λ k. suc k) e

pieces_size : (xs : List ℕ) → sum_by length (pieces xs) ≡ length xs
unfolding pieces
pieces_size [] = refl
pieces_size (x ∷ xs) = more_size x (length xs) (eqb x newline) (pieces xs) (pieces_size xs)

pub first_inside : (xs : List ℕ) (k : ℕ) → first_size k (pieces xs) ≤ length xs
first_inside xs k = omega (arith, sum_by-take-le length (pieces xs) k, pieces_size xs)

-- a byte that ends no piece
piece_longer : (x : ℕ) (xs : List ℕ) → eqb x newline ≡ false → pieces (x ∷ xs) ≡ in_first_part x (pieces xs)
unfolding pieces
piece_longer x xs e = rw e refl

no_pieces : (xs : List ℕ) → length xs ≡ 0 → pieces xs ≡ []
unfolding pieces
no_pieces [] h = refl
no_pieces (x ∷ xs) h = absurd (omega (arith, h))

one_byte : (x : ℕ) (t : List ℕ) (i : ℕ) (b : Bool) → eqb x newline ≡ b → 1 ≡ min (i + 1) (suc (length t))
    → (i < suc (length t) → eqb (get_or (x ∷ t) i x) newline ≡ true) → pieces (x ∷ t) ≡ (x ∷ []) ∷ pieces t
unfolding pieces in_first_part
one_byte x t i true e n m = rw e refl
one_byte x [] i false e n m = rw e refl
one_byte x (z ∷ t) zero false e n m = absurd (false≢true (sym e ∙ m (omega arith)))
one_byte x (z ∷ t) (suc i) false e n m = absurd (omega (arith, n))

-- the piece w ends at the first newline, or with the text
first_piece : (w t : List ℕ) (i : ℕ) → 0 < length w → length w ≡ min (i + 1) (length (w ++ t))
    → IsFirstMatchOrLen is_end (w ++ t) i → pieces (w ++ t) ≡ w ∷ pieces t
unfolding in_first_part
first_piece [] t i h n m = absurd (omega (arith, h))
first_piece (x ∷ []) t i h n m = one_byte x t i (eqb x newline) refl n (λ k. m.1 k x)
first_piece (x ∷ y ∷ w) t zero h n m = absurd (omega (arith, n))
first_piece (x ∷ y ∷ w) t (suc i) h n m =
    let more : pieces ((y ∷ w) ++ t) ≡ (y ∷ w) ∷ pieces t =
    first_piece (y ∷ w) t i (omega arith) (omega (arith, n))
    (λ k d a b. m.0 (suc k) d (omega arith) (omega (arith, b)), λ a d. m.1 (omega (arith, a)) d) in
    piece_longer x ((y ∷ w) ++ t) (m.0 0 x (omega arith) (omega arith)) ∙ ap (in_first_part x) more

-- a `split_inclusive` S, by what it has left and its closure
module _ {F S : Type 0} (g : Mut F (Bor ℕ × Unit {0}) Bool) (rest : S → List ℕ) (closure : S → F) where
  -- what a call of `next` does
  abbrev pub cuts : S → Maybe (Bor (List ℕ)) → S → Type 0
  cuts s r t = MatchOption r ((length (rest s) ≡ 0) × (t ≡ s))
      (λ x. (rest s ≡ x.now ++ rest t)
      × ((i : ℕ) × (length x.now ≡ min (i + 1) (length (rest s)))
      × ((p : ℕ → Bool) → ComputesKey g p (closure s)
      → ComputesKey g p (closure t) × IsFirstMatchOrLen p (rest s) i))
      × (0 < length (rest s)))

  piece_cut : (s j : S) (x : Bor (List ℕ)) → cuts s (Some x) j
      → ComputesKey g is_end (closure s)
      → pieces (rest s) ≡ x.now ∷ pieces (rest j)
  piece_cut s j x h k =
      let size = subst (λ (ys : List ℕ). length x.now ≡ min (h.1.0 + 1) (length ys)) h.0 h.1.1 in
      ap pieces h.0 ∙ first_piece x.now (rest j) h.1.0 (omega (arith, h.1.1, h.2)) size
      (subst (λ (ys : List ℕ). IsFirstMatchOrLen is_end ys h.1.0) h.0 (h.1.2 is_end k).1)

  gives : (ps : List (List ℕ)) (s : S) → ComputesKey g is_end (closure s)
      → ps ≡ pieces (rest s) → AlwaysYields cuts (λ x. x.now) s ps
  gives [] s k e = λ x j h. omega (arith, ap length (e ∙ piece_cut s j x h k))
  gives (p ∷ ps) s k e = (
    λ j h. omega (arith, ap length (e ∙ no_pieces (rest s) h.0)),
    λ x j h.
        let q = e ∙ piece_cut s j x h k in (
          sym (ap (λ (l : List (List ℕ)). get_or l 0 []) q),
          gives ps j (h.1.2 is_end k).0 (ap (drop 1) q),
        ),
  )

  -- the text's pieces, one after the other
  pub pieces_yielded : (s : S) → ComputesKey g is_end (closure s)
      → YieldsList cuts (λ x. x.now) s (pieces (rest s))
  pieces_yielded s k = record { runs = gives (pieces (rest s)) s k refl }
