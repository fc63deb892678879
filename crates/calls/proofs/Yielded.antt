-- The rows of a step's premises, as the matcher takes them.
use Prim.Native.Nat.{ℕ, zero, suc}
use mathlib.Core.Path.{◌≡◌, refl}
use mathlib.Core.List.{List, [], ◌∷◌, map}
use lib.ListN.{take}
use Rattle.matching.specs.represent.Sides.{Sides}
use Rattle.calls.specs.Book.{Step}
use Rattle.calls.specs.StepCall.{step_numbered}
use Rattle.calls.specs.Promises.{sides_of}

take-nil : (k : ℕ) (A : Type 0) → ◌≡◌ {A = List A} (take k []) []
take-nil zero A = refl
take-nil (suc k) A = refl

pub sides_taken : (ps : List Step) (k i j : ℕ)
    → take k (sides_of (step_numbered ps i) ∷ sides_of (step_numbered ps j) ∷ []) ≡ map sides_of
    (map (step_numbered ps) (take k (i ∷ j ∷ [])))
sides_taken ps zero i j = refl
sides_taken ps (suc zero) i j = refl
sides_taken ps (suc (suc k)) i j = rw (take-nil k ℕ, take-nil k Sides)
