-- A line of numbers is read number by number.
use Prim.Native.Nat.{ℕ, zero, suc, ◌<◌}
use mathlib.Core.Path.{◌≡◌, refl, sym, ap, subst}
use mathlib.Core.List.{List, [], ◌∷◌, ◌++◌}
use mathlib.Core.Logic.{inl, inr}
use mathlib.Core.Option.{Option, none, some, Option-elim}
use native.Mathlib.Omega.{arith}
use lib.ListN.{length, drop, replicate}
use Rattle.lines.specs.Line.{newline, space, Line, lines}
use Rattle.lines.specs.Number.{max_number, number_up_to, numbers_up_to, line_numbers}
use Rattle.lines.specs.private.NumbersRead.{number_cut, NumberMet, first_parts, first_numbers}
use Rattle.lines.proofs.Cutting.{lines_at}
use Rattle.lines.proofs.Parts.{prepended, Reads, first_none, no_newline_in, next_behind, number_before_space}
use Rattle.lines.proofs.Parts.{number_before_newline, PartsMet, GoesOn, starts_there, number_more, last_number}
use Rattle.lines.proofs.Parts.{no_number_more}

reads_within : (b : ℕ) (bs : List ℕ) → Reads b (numbers_up_to (b ∷ bs)) (numbers_up_to bs)
unfolding numbers_up_to
reads_within b bs w ws = refl

too_many : (w : List ℕ) (ws : List (List ℕ)) → numbers_up_to [] (w ∷ ws) ≡ none
unfolding numbers_up_to
too_many w ws = refl

-- a number that a space ends, and then the rest of the line
pub record Prepended (b : ℕ) (bs : List ℕ) (v : ℕ) (xs rest : List ℕ) : Type 0 where
  pub numbers : first_parts (numbers_up_to (b ∷ bs)) (lines xs)
      ≡ prepended v (first_parts (numbers_up_to bs) (lines rest))
  pub next : drop 1 (lines xs) ≡ drop 1 (lines rest)

pub number_and_space : (b : ℕ) (bs : List ℕ) (v : ℕ) (w r : List ℕ) → number_up_to b w ≡ some v
    → Prepended b bs v (w ++ space ∷ r) r
number_and_space b bs v w r s =
    record {
      numbers = number_before_space b v w r s (numbers_up_to (b ∷ bs)) (numbers_up_to bs) (reads_within b bs);
      next = next_behind w r (no_newline_in b v w r s);
    }

-- a number that a newline ends is the last of its line
pub record Last (b v : ℕ) (xs rest : List ℕ) : Type 0 where
  pub numbers : first_parts (numbers_up_to (b ∷ [])) (lines xs) ≡ some (v ∷ [])
  pub next : drop 1 (lines xs) ≡ lines rest

pub number_and_newline : (b v : ℕ) (w r : List ℕ) → number_up_to b w ≡ some v → Last b v (w ++ newline ∷ r) r
unfolding numbers_up_to Option-elim
number_and_newline b v w r s =
    record {
      numbers = number_before_newline b v w r s (numbers_up_to (b ∷ [])) (numbers_up_to []) (reads_within b []);
      next = rw (lines_at w r (no_newline_in b v w r s));
    }

-- a line of one number
pub one_within : (b : ℕ) (xs : List ℕ) (at v next : ℕ) → NumberMet b newline xs at v next
    → PartsMet (numbers_up_to (b ∷ [])) xs at (v ∷ []) next
unfolding numbers_up_to
one_within b xs at v next m =
    last_number (numbers_up_to (b ∷ [])) (numbers_up_to (b ∷ [])) xs at at [] (starts_there _ xs at) b
    (numbers_up_to [])
    (reads_within b []) refl v next m

-- what stands where numbers with the bounds b and bs are to come
module _ (read : List (List ℕ) → Option (List ℕ)) (b : ℕ) (bs : List ℕ) (xs : List ℕ) (at from : ℕ) (ns : List ℕ)
    (so_far : GoesOn read (numbers_up_to (b ∷ bs)) xs at from ns) where
  pub number_within : (v next : ℕ) → NumberMet b space xs from v next
      → GoesOn read (numbers_up_to bs) xs at next (ns ++ v ∷ [])
  number_within v next m =
      number_more read (numbers_up_to (b ∷ bs)) xs at from ns so_far b (numbers_up_to bs) (reads_within b bs) v next m

  pub last_within : bs ≡ [] → (v next : ℕ) → NumberMet b newline xs from v next
      → PartsMet read xs at (ns ++ v ∷ []) next
  unfolding numbers_up_to
  last_within e v next m =
      last_number read (numbers_up_to (b ∷ bs)) xs at from ns so_far b (numbers_up_to bs) (reads_within b bs) (rw e)
      v next m

  pub no_number_within : ¬ (bs ≡ []) → none ≡ number_cut b space (drop from xs)
      → none ≡ first_parts read (lines (drop at xs))
  unfolding numbers_up_to
  no_number_within f e =
      no_number_more read (numbers_up_to (b ∷ bs)) xs at from ns so_far b (numbers_up_to bs) (reads_within b bs)
      (inr (some_bound bs f)) (inl (sym e))
    where
      some_bound : (cs : List ℕ) → ¬ (cs ≡ []) → numbers_up_to cs [] ≡ none
      some_bound [] g = absurd (g refl)
      some_bound (c ∷ cs) g = refl

  pub no_last_within : bs ≡ [] → none ≡ number_cut b newline (drop from xs)
      → none ≡ first_parts read (lines (drop at xs))
  no_last_within f e =
      no_number_more read (numbers_up_to (b ∷ bs)) xs at from ns so_far b (numbers_up_to bs) (reads_within b bs)
      (inl (sym e)) (inr (λ w ws. rw f (too_many w ws)))

-- the line at `at` goes on at `from`, where `left` of its `count` numbers are to come
abbrev pub CountedOn : (count : ℕ) (xs : List ℕ) (at from left : ℕ) (ns : List ℕ) → Type 0
CountedOn count xs at from left ns = GoesOn (line_numbers count) (line_numbers left) xs at from ns

pub starts_counted : (count : ℕ) (xs : List ℕ) (at left : ℕ) → left ≡ count → CountedOn count xs at at left []
starts_counted count xs at left e = rw e (starts_there (line_numbers count) xs at)

module _ (count : ℕ) (xs : List ℕ) (at from left : ℕ) (ns : List ℕ) (on : CountedOn count xs at from left ns) (k : ℕ)
    (more : left ≡ suc k) where
  on_one : GoesOn (line_numbers count) (numbers_up_to (max_number ∷ replicate k max_number)) xs at from ns
  on_one = subst (λ n. CountedOn count xs at from n ns) more on

  -- one more number, before a space
  pub counted_more : (v next : ℕ) → NumberMet max_number space xs from v next
      → CountedOn count xs at next k (ns ++ v ∷ [])
  counted_more v next m = number_within _ _ _ _ _ _ _ on_one v next m

  -- the last one, before the newline
  pub counted_last : k ≡ 0 → (v next : ℕ) → NumberMet max_number newline xs from v next
      → PartsMet (line_numbers count) xs at (ns ++ v ∷ []) next
  counted_last e v next m = last_within _ _ _ _ _ _ _ on_one (rw e) v next m

  pub none_more : 0 < k → none ≡ number_cut max_number space (drop from xs)
      → none ≡ first_numbers count (lines (drop at xs))
  none_more h e = no_number_within _ _ _ _ _ _ _ on_one (some_left k h) e
    where
      some_left : (n : ℕ) → 0 < n → ¬ (replicate n max_number ≡ [])
      some_left zero g = absurd (omega arith)
      some_left (suc n) g = λ f. let z : suc (length (replicate n max_number)) ≡ 0 = ap length f in omega arith

  pub none_last : k ≡ 0 → none ≡ number_cut max_number newline (drop from xs)
      → none ≡ first_numbers count (lines (drop at xs))
  none_last e f = no_last_within _ _ _ _ _ _ _ on_one (rw e) f

-- a line has at least one part
pub no_numbers_met : (ls : List Line) → none ≡ first_numbers 0 ls
no_numbers_met ls = sym (first_none (numbers_up_to []) too_many ls)
