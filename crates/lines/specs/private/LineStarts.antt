-- Where the lines of a list start and end.
use Rattle.std.specs.Prelude.{ℕ, ◌≤◌, ◌<◌, ◌≡◌, List, length, drop}
use Rattle.lines.specs.Line.{lines}

-- the line after the one that starts at `at` of the list xs starts at `next`
pub record NextMet (xs : List ℕ) (at next : ℕ) : Type 0 where
  pub rest : lines (drop next xs) ≡ drop 1 (lines (drop at xs))
  pub further : at < length xs → at < next
  pub inside : next ≤ length xs

-- line k starts at `start`
pub record StartMet (xs : List ℕ) (k start : ℕ) : Type 0 where
  pub rest : lines (drop start xs) ≡ drop k (lines xs)
  pub inside : start ≤ length xs
