-- What a search of the code gives.
use Rattle.std.specs.Prelude.{ℕ, ◌≡◌, Option, Some, None}
use Rattle.std.proofs.Math.Option as first
use Rattle.std.proofs.Math.Option.{none, some}

-- o is the place that a definition's search gives
abbrev pub IndexIs : Option ℕ → first.Option ℕ → Type 0
IndexIs None p = p ≡ none
IndexIs (Some k) p = p ≡ some k
