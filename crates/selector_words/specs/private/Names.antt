-- What the functions on words and on the lent list of names promise.
use Rattle.std.specs.Prelude.{ℕ, zero, suc, ◌+◌, ◌≤◌, ◌≡◌, Bool, true, false, cond, List, [], ◌∷◌, leb, length, drop}
use Rattle.std.specs.Borrow.{Bor}
use Rattle.std.specs.Prelude.{Option as Maybe, Some, None}
use Rattle.std.proofs.Math.Option.{Option, none, some}
use Rattle.lines.specs.Line.{Line, lines, same_bytes}
use Rattle.lines.specs.Number.{max_number}
use Rattle.selector_grammar.specs.Bytes.{Bytes}
use Rattle.selector_grammar.specs.Words.{find, next, bytes_of, number_of}

-- the place of a word in a list, counted from i, where it is there
unfoldable pub pick_from : ℕ → List Bytes → Bytes → Maybe ℕ
pick_from i [] n = None
pick_from i (m ∷ ms) n = cond (same_bytes n m) (Some i) (pick_from (suc i) ms n)

-- what a table of words has for a word
unfoldable pub found : {T : Type 0} → Bytes → List (Bor Bytes × T) → Maybe T
found n [] = None
found n (e ∷ es) = cond (same_bytes n e.0.now) (Some e.1) (found n es)

-- the number of a name, where it has one: 0 is none
abbrev pub given : ℕ → Maybe ℕ
given zero = None
given (suc n) = Some (suc n)

-- the first line is the word
unfoldable pub first_line_is : Bytes → List Line → Bool
first_line_is n [] = false
first_line_is n (l ∷ ls) = same_bytes n l.bytes

-- how many bytes of the list are looked at together
abbrev pub block_size : ℕ
block_size = 128

-- a number that is counted from k, where there is one
unfoldable pub numbered_from : ℕ → Option ℕ → ℕ
numbered_from k none = 0
numbered_from k (some i) = cond (leb (k + i) max_number) (k + i) 0

-- where the search for a name stands: n lines end before `at`, and none that begins up to there is the name
abbrev pub Sought : (list name : Bytes) → (at n : ℕ) → Type 0
Sought list name at n =
    number_of list name ≡ numbered_from (suc n) (next (find name (bytes_of (drop 1 (lines (drop at list))))))

-- none of the first n lines is the name, and the others begin at `at`
pub record LinesPassed (list name : Bytes) (at n : ℕ) : Type 0 where
  pub others : number_of list name ≡ numbered_from (suc n) (find name (bytes_of (lines (drop at list))))
  pub fits : at ≤ length list
  pub few : n ≤ at

-- the search from one place up to another, over some newlines: the line after the last of them is the name, if it was
-- found; else none is
pub record Searched (list name : Bytes) (from to ends : ℕ) (found : Bool) : Type 0 where
  pub on : found ≡ false → (n : ℕ) → Sought list name from n → Sought list name to (n + ends)
  pub hit : found ≡ true → (n : ℕ) → Sought list name from n → number_of list name
      ≡ cond (leb (n + ends + 1) max_number) (n + ends + 1) 0
  pub few : from + ends ≤ to
