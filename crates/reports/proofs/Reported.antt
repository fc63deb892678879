-- The report of what is read of bytes, of which no more are taken than one too many, is that of the bytes.
use Rattle.std.proofs.Common.{ℕ, ◌≡◌, ◌<◌, ◌⊎◌, List, length, take, sym, ap, ◌∙◌, inl, inr, Option, None, Some, IfSome}
use Rattle.std.proofs.Common.{lt-ltb}
use Rattle.common.specs.Limits.{max_bytes}
use Rattle.inputs.proofs.Taken.{taken}
use Rattle.auditing.specs.declared.Report.{Report}
use Rattle.auditing.specs.Audit.{report, unread}

long : (bytes : List ℕ) → max_bytes < length bytes → report bytes ≡ unread
unfolding report
long bytes h = rw (lt-ltb max_bytes (length bytes) h)

report-take : (most : ℕ) → max_bytes < most → (xs : List ℕ) → report (take most xs) ≡ report xs
report-take most h xs =
    elim (taken max_bytes most h xs) as (λ _. report (take most xs) ≡ report xs)
    [ inl whole ↦ ap report whole | inr l ↦ long (take most xs) l.0 ∙ sym (long xs l.1) ]

pub read_reported : (most : ℕ) → max_bytes < most → (known : Option (List ℕ)) (bytes : List ℕ) (r : Report)
    → IfSome known (λ xs. bytes ≡ take most xs) → r ≡ report bytes
    → IfSome known (λ xs. (r ≡ report xs) ⊎ (r ≡ unread))
read_reported most h None bytes r known_is is = known_is
read_reported most h (Some xs) bytes r known_is is = inl (is ∙ ap report known_is ∙ report-take most h xs)

pub not_reported : (known : Option (List ℕ)) (r : Report) → r ≡ unread
    → IfSome known (λ xs. (r ≡ report xs) ⊎ (r ≡ unread))
not_reported None r is = tt
not_reported (Some xs) r is = inr is
