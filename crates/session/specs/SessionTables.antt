-- What a session is to specifications.
use Rattle.std.specs.Prelude.{ℕ, List}

-- the numbers of its tables of rows, steps and points, and how many of each are held
pub record SessionTables : Type 0 where
  pub rows : List ℕ
  pub row_count : ℕ
  pub steps : List ℕ
  pub step_count : ℕ
  pub points : List ℕ
  pub point_count : ℕ
