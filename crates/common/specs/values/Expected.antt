-- Lists of values beside what they must be.
use Rattle.std.specs.Prelude.{◌≡◌, List, map}

infix 70 ◌is◌
-- a value, and what it must be
pub record Case (A : Type 0) : Type 0 where
  pub value : A
  pub expected : A

abbrev pub ◌is◌ : {A : Type 0} → A → A → Case A
a is b = record { value = a; expected = b }

-- the values of all cases, as one list, are what they must be
abbrev pub AllRight : {A : Type 0} → List (Case A) → Type 0
AllRight cases = map (λ c. c.value) cases ≡ map (λ c. c.expected) cases
