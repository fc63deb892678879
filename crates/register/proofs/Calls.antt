-- Calls that are not barred, and releasing a record again.
use Prim.Native.Nat.{ℕ, ◌+◌, ◌<◌}
use mathlib.Core.Path.{◌≡◌, refl, sym, ap, ◌∙◌}
use mathlib.Core.Bool.{false, cond, ◌&&◌, and-false}
use native.Mathlib.Omega.{arith}
use lib.ListN.{length}
use Rattle.register.specs.declared.Register.{Register}
use Rattle.common.specs.Refusals.{full_or_in_use, no_record}
use Rattle.calls.specs.Book.{Answer, answer, accepted}
use Rattle.calls.specs.Above.{own}
use Rattle.records.specs.Releases.{IsReleased}
use Rattle.records.specs.represent.Held.{records_in}
use Rattle.records.specs.represent.Listed.{flagged}
use Rattle.records.proofs.Released.{of_a_record}
use Rattle.records.proofs.Crew.{release_again}
use Rattle.register.specs.Promises.{register, RegisterMet}

-- what is not barred answers as the session does
pub not_barred : (t barred : Answer) → t ≡ cond (accepted t && false) barred t
not_barred t barred = rw (and-false (accepted t)) refl

-- a release bars none of the register's calls
pub not_barred_twice : (t : Answer) → t ≡ cond (accepted (cond (accepted t && false) (answer full_or_in_use 0) t) && false)
    (answer no_record 0) (cond (accepted t && false) (answer full_or_in_use 0) t)
not_barred_twice t = not_barred t (answer full_or_in_use 0) ∙ not_barred _ (answer no_record 0)

-- a release of a record that is released is accepted, and all is as it was
pub again_made : (r : Register) (i : ℕ) (a : Answer) (t : Register) → i < length (records_in r.records)
    → IsReleased r.releases.flags i → RegisterMet r (own (i + 1)) a t → (a ≡ answer 0 0) × (t ≡ r)
again_made r i a t h is m =
    let told = sym (of_a_record (records_in r.records) _ refl (i + 1) (λ e. omega arith) (omega arith)) in
    let left : Answer → Register = λ o. cond (accepted o) (register.with r (own (i + 1))) r in
    let same = release_again r.releases.flags i is in (
      m.answer ∙ told,
      m.left ∙ ap left told
          ∙ ap (λ fs. record { session = r.session; records = r.records; releases = flagged fs }) same,
    )
