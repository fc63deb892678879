-- A refused call leaves all as it was.
use Prim.Native.Nat.{ℕ}
use mathlib.Core.Path.{◌≡◌, sym, ◌∙◌}
use Rattle.std.specs.Prelude.{Result, Ok, Err, OnErr}
use Rattle.common.specs.declared.refusal.Refusal.{Refusal}
use Rattle.common.proofs.Refusals.{refusal_some}
use Rattle.calls.specs.Runs.{Machine, Made}
use Rattle.calls.specs.represent.Answers.{answer_with, refusal_answer}
use Rattle.calls.proofs.Accepted.{if_refused}

-- whatever value an accepted call gives
pub refused_kept : {S C A : Type 0} (m : Machine S C) (s : S) (c : C) (t : S) (f : A → ℕ) (r : Result A Refusal)
    → Made m s c (answer_with f refusal_answer r) t → OnErr r (t ≡ s)
refused_kept m s c t f (Ok a) e = tt
refused_kept m s c t f (Err k) e =
    e.left ∙ sym (if_refused (refusal_answer k) (m.answer s c) e.answer (m.with s c) s (refusal_some k))
