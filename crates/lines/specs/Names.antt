-- The names of a list, one a line.
use Rattle.std.specs.Prelude.{ℕ, ◌-◌, ◌≤◌, ◌≡◌, List, [], map, length, get_or, take, drop}
use Rattle.lines.specs.Line.{lines}

-- the names are the lines without their newlines; a last line may lack its newline
abbrev pub names_of : List ℕ → List (List ℕ)
names_of xs = map (λ l. l.bytes) (lines xs)

-- name k stands from `start` on, before `end`; it is empty where there is none
pub record NameMet (xs : List ℕ) (k start end : ℕ) : Type 0 where
  pub bytes : take (end - start) (drop start xs) ≡ get_or (names_of xs) k []
  pub order : start ≤ end
  pub inside : end ≤ length xs
