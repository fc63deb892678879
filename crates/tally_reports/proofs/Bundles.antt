-- A tally with what is read of bytes, of which no more are taken than one too many, is that with the bytes.
use Rattle.std.proofs.Common.{ℕ, ◌≡◌, ◌<◌, ◌⊎◌, true, false, List, [], take, sym, ap, ◌∙◌, inl, inr}
use Rattle.std.proofs.Common.{Option, None, Some, IfSome}
use Rattle.common.specs.Limits.{max_bytes}
use Rattle.inputs.proofs.Taken.{taken}
use Rattle.tallies.specs.declared.Tally.{Tally}
use Rattle.tallies.specs.Count.{file}
use Rattle.tallies.specs.represent.Tally.{with_file}
use Rattle.tallies.proofs.Counted.{long_left}

with_file-take : (most : ℕ) → max_bytes < most → (t : Tally) (xs : List ℕ)
    → with_file t (file false (take most xs)) ≡ with_file t (file false xs)
with_file-take most h t xs =
    elim (taken max_bytes most h xs) as (λ _. with_file t (file false (take most xs)) ≡ with_file t (file false xs)) [
      | inl whole ↦ ap (λ (bytes : List ℕ). with_file t (file false bytes)) whole
      | inr l ↦ sym (long_left t (take most xs) l.0) ∙ long_left t xs l.1
    ]

pub tallied : (most : ℕ) → max_bytes < most → (known : Option (List ℕ)) (t r : Tally) (bytes : List ℕ)
    → IfSome known (λ xs. bytes ≡ take most xs) → r ≡ with_file t (file false bytes)
    → IfSome known (λ xs. (r ≡ with_file t (file false xs)) ⊎ (r ≡ with_file t (file true [])))
tallied most h None t r bytes known_is is = known_is
tallied most h (Some xs) t r bytes known_is is =
    inl (is ∙ ap (λ (ys : List ℕ). with_file t (file false ys)) known_is ∙ with_file-take most h t xs)

pub failed_tallied : (known : Option (List ℕ)) (t r : Tally) → r ≡ with_file t (file true [])
    → IfSome known (λ xs. (r ≡ with_file t (file false xs)) ⊎ (r ≡ with_file t (file true [])))
failed_tallied None t r is = tt
failed_tallied (Some xs) t r is = inr is
