-- Numbers in place of those of names.
use Rattle.std.specs.Prelude.{ℕ, ◌≡◌, ◌≤◌, List, length, get_or}
use Rattle.common.specs.Limits.{max_number}

-- m is a number for n, the number of a name: 0, for no name, stays, and a name gets a number of 1 to max_number
pub record Renumbered (n m : ℕ) : Type 0 where
  pub none : n ≡ 0 → m ≡ 0
  pub some : 1 ≤ n → 1 ≤ m
  pub most : m ≤ max_number

-- ms has such a number for each of ns
pub record Renumbers (ns ms : List ℕ) : Type 0 where
  pub size : length ms ≡ length ns
  pub each : (i : ℕ) → Renumbered (get_or ns i 0) (get_or ms i 0)
