-- `Records::record` meets its contract: the record is put just where it is accepted.
use mathlib.Core.Path.{◌≡◌, refl, sym, ap, ◌∙◌}
use native.Mathlib.Omega.{arith}
use lib.ListN.{length}
use lib.Seq.{length-take-le}
use Rattle.common.proofs.Errors.{err_is}
use Rattle.common.proofs.Refusals.{refusal_some}
use Rattle.calls.proofs.Accepted.{if_accepted, if_refused}
use Rattle.records.specs.Records.{max_records}
use Rattle.records.specs.represent.Held.{size_of, records_in, with_record}
use Rattle.records.proofs.Searches.{length_mapped}
use Rattle.records.proofs.Judged.{record_accepted}
use borrow.Author.Rules.{rules}
use Rattle.records.proofs.Records.record.Goals as goal

pub put-requires : goal.put-requires
put-requires c =
    let s = c.args.self.now in
    let size : length s.held ≡ max_records = search (rules, length_mapped) in
    let count = length-take-le (size_of s) s.held (omega arith) in
    let accepted = sym (ap (λ a. a.number) c.in_ok-judge.ensures) in
    omega (arith, count, (record_accepted _ _ (records_in s) _ accepted).room)

pub returns-in_err-judge-clause-met : goal.returns-in_err-judge-clause-met
returns-in_err-judge-clause-met c =
    let s = c.args.self.now in
    let told = c.in_err-judge.ensures in
    rw (err_is c.from_residual.result c.from_residual.ensures.1)
    (record { answer = told; left = if_refused _ _ told (with_record s _) s (refusal_some c.in_err-judge.field-0.0) })

pub returns-clause-met : goal.returns-clause-met
returns-clause-met c =
    let s = c.args.self.now in
    let told = c.in_ok-judge.ensures in
    record { answer = told; left = c.put.ensures ∙ if_accepted _ _ told (with_record s _) s refl }
