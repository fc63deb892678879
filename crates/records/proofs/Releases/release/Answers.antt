-- `Releases::release` meets its contract.
use Prim.Native.Nat.{◌-◌}
use mathlib.Core.Path.{◌≡◌, sym, ap, ◌∙◌}
use native.Mathlib.Omega.{arith}
use lib.ListN.{length, set}
use lib.Seq.{length-take-le}
use borrow.Author.Rules.{rules}
use Rattle.calls.proofs.Accepted.{if_accepted, if_refused}
use Rattle.records.specs.Records.{max_records}
use Rattle.records.specs.represent.Held.{size_of, records_in}
use Rattle.records.specs.represent.Listed.{flagged}
use Rattle.records.proofs.Searches.{length_mapped}
use Rattle.records.proofs.Released.{place_0, past_last, of_a_record}
use Rattle.records.proofs.Releases.release.Goals as goal
use Rattle.records.proofs.Releases.release.Goals.{then-p-eq0-via-then-p-eq0, then-p-eq0-via-else-p-eq0+then-n-p}

pub returns-then-p-eq0-clause-met : goal.returns-then-p-eq0-clause-met
returns-then-p-eq0-clause-met c =
    let a = c.args in
    let size : length a.records.now.held ≡ max_records = search (rules, length_mapped) in
    let count = length-take-le (size_of a.records.now) a.records.now.held (omega arith) in
    let is-n = c.size-n.ensures ∙ sym count in
    elim c.then-p-eq0.branch [
      | then-p-eq0-via-then-p-eq0 w ↦
          let told = place_0 (records_in a.records.now) _ is-n a.place (omega arith) in
          record { answer = told; left = if_refused _ _ told _ _ (λ e. omega arith) }
      | then-p-eq0-via-else-p-eq0+then-n-p w ↦
          let told = past_last (records_in a.records.now) _ is-n a.place (omega arith) in
          record { answer = told; left = if_refused _ _ told _ _ (λ e. omega arith) }
    ]

pub returns-clause-met : goal.returns-clause-met
returns-clause-met c =
    let a = c.args in
    let size : length a.records.now.held ≡ max_records = search (rules, length_mapped) in
    let count = length-take-le (size_of a.records.now) a.records.now.held (omega arith) in
    let told =
    of_a_record (records_in a.records.now) _ (c.size-n.ensures ∙ sym count) a.place
    (λ e. c.if-p-eq0.false (omega arith)) (omega arith) in
    record {
      answer = told;
      left =
          ap (λ k. flagged (set a.self.now.flags (k - 1) 1)) c.from-p.ensures ∙ if_accepted _ _ told _ _ (omega arith);
    }
