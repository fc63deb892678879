-- The code's answer to a claim.
use Rattle.std.specs.Prelude.{ℕ, Result, Ok, Err}
use Rattle.calls.specs.Book.{Answer, answer}
use Rattle.calls.specs.represent.Answers.{refusal_answer, line_answer}
use Rattle.host_calls.specs.declared.claim.ClaimRefusal.{ClaimRefusal}
use Rattle.host_calls.specs.declared.claim.ClaimRefusal.TheVariants.{Bundle, OldSelector, NewSelector, Claim}
use Rattle.host_calls.specs.ClaimCall.{Claimed, claimed, the_claim, the_bundle, old_selector, new_selector}

-- what a refusal is about, and its number and value
abbrev pub part_of : ClaimRefusal → ℕ
part_of (Bundle e) = the_bundle
part_of (OldSelector k) = old_selector
part_of (NewSelector k) = new_selector
part_of (Claim k) = the_claim

abbrev pub claim_refusal_answer : ClaimRefusal → Answer
claim_refusal_answer (Bundle e) = line_answer e
claim_refusal_answer (OldSelector k) = refusal_answer k
claim_refusal_answer (NewSelector k) = refusal_answer k
claim_refusal_answer (Claim k) = refusal_answer k

abbrev pub claimed_of : Result ℕ ClaimRefusal → Claimed
claimed_of (Ok i) = claimed the_claim (answer 0 i)
claimed_of (Err e) = claimed (part_of e) (claim_refusal_answer e)
