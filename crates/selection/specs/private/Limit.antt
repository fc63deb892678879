-- Results of evaluations under a limit of visits.
use Rattle.std.specs.Prelude.{ℕ, ◌≤◌, ◌<◌, ◌≡◌, Option, MatchOption}

-- the visits made are those that are needed, `cost`, and no more than the limit; and what was found is correct
pub record Finished (correct : Type 0) (cost limit made : ℕ) : Type 0 where
  pub made_is : made ≡ cost
  pub fits : made ≤ limit
  pub result_is : correct

-- an evaluation that has a result exactly if the limit is enough, with the visits made in it
abbrev pub UnderLimit : {R : Type 0} → (made : R → ℕ) (correct : R → Type 0) (cost limit : ℕ) → Option R → Type 0
UnderLimit made correct cost limit result =
    MatchOption result (limit < cost) (λ r. Finished (correct r) cost limit (made r))
