-- What is read of bytes is all of them, or too many for a bundle, as they are themselves.
use Rattle.std.proofs.Common.{ℕ, ◌≡◌, ◌<◌, ◌⊎◌, List, length, take, inl, inr, arith}
use Rattle.std.proofs.lemmas.Bool.Decides.{leb_tells}
use Rattle.std.proofs.lemmas.List.{take_all, length-take-le}

pub taken : (limit most : ℕ) → limit < most → (xs : List ℕ)
    → (take most xs ≡ xs) ⊎ ((limit < length (take most xs)) × (limit < length xs))
taken limit most h xs =
    elim (leb_tells (length xs) most) as (λ _. (take most xs ≡ xs)
    ⊎ ((limit < length (take most xs)) × (limit < length xs))) [
      | inl l ↦ inl (take_all most xs l.1)
      | inr l ↦ inr (omega (arith, length-take-le most xs (omega (arith, l.1))), omega (arith, l.1))
    ]
