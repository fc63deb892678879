-- Accepted and refused answers.
use mathlib.Core.Path.{◌≡◌, refl, sym}
use Prim.Native.Nat.{◌<◌}
use mathlib.Core.Bool.{Bool, true, false, cond, false≢true}
use native.Mathlib.Omega.{arith}
use borrow.Author.Tests.{eq-eqb, ne_eqb, eqb-true}
use Rattle.std.specs.Prelude.{ℕ, Result, Ok, Err, is_ok}
use Rattle.common.specs.declared.refusal.Refusal.{Refusal}
use Rattle.common.proofs.Refusals.{refusal_some}
use Rattle.calls.specs.represent.Answers.{answer_with, refusal_answer}
use Rattle.calls.specs.Book.{Answer, accepted}

-- an answer t that is the one asked for, u
module _ {A : Type 0} (t u : Answer) (same : t ≡ u) (x y : A) where
  pub if_accepted : t.number ≡ 0 → x ≡ cond (accepted u) x y
  if_accepted e = rw (← same, eq-eqb t.number 0 e)

  pub if_refused : ¬ (t.number ≡ 0) → y ≡ cond (accepted u) x y
  if_refused f = rw (← same, ne_eqb t.number 0 f)

-- what is left after a call, by whether it was accepted
pub by_accepted : {A : Type 0} (P : A → Type 0) (t : Answer) (x y : A) → (t.number ≡ 0 → P x) → P y
    → P (cond (accepted t) x y)
by_accepted P t x y f g = by_test (accepted t) refl
  where
    by_test : (b : Bool) → accepted t ≡ b → P (cond b x y)
    by_test true e = f (eqb-true t.number 0 e)
    by_test false e = g

-- an accepted answer is not that of the first refusal, so its test failed
pub test_failed : (b : Bool) (t u : Answer) → 0 < t.number → (cond b t u).number ≡ 0 → (b ≡ false) × (u.number ≡ 0)
test_failed true t u h e = absurd (omega arith)
test_failed false t u h e = (refl, e)

-- what a call gives is answered with 0, a refusal with its number
module _ {A : Type 0} (f : A → ℕ) where
  pub ok_accepted : (r : Result A Refusal) → is_ok r ≡ true → (answer_with f refusal_answer r).number ≡ 0
  ok_accepted (Ok a) e = refl
  ok_accepted (Err k) e = absurd (false≢true e)

  pub err_refused : (r : Result A Refusal) → is_ok r ≡ false → ¬ ((answer_with f refusal_answer r).number ≡ 0)
  err_refused (Ok a) e = absurd (false≢true (sym e))
  err_refused (Err k) e = refusal_some k
