-- The answer of the call record, test by test, and what an accepted one tells.
use Prim.Native.Nat.{ℕ, ◌+◌, ◌<◌}
use mathlib.Core.Path.{◌≡◌}
use mathlib.Core.Bool.{Bool, true, false, not}
use mathlib.Core.List.{List}
use native.Mathlib.Omega.{arith}
use lib.Dec.{leb, eqb}
use lib.ListN.{length}
use borrow.Author.Tests.{eq-eqb, ne_eqb, eqb-true, leb-false, not-false}
use Rattle.terms.specs.Row.{Row}
use Rattle.terms.specs.Fields.{held_path}
use Rattle.calls.specs.Book.{Step, answer}
use Rattle.common.specs.Refusals.{not_next, bad_record, full_or_in_use}
use Rattle.calls.proofs.Accepted.{test_failed}
use Rattle.records.specs.declared.Record.{Record}
use Rattle.records.specs.Records.{max_records, current, row_of, is_fit_step, record_answer}

module _ (rows : List Row) (ps : List Step) (rs : List Record) (r : Record) where
  module _ (highest : ℕ) (is-highest : highest ≡ current rs r.series) where
    pub not_the_next : ¬ (r.edition ≡ highest + 1) → answer not_next (highest + 1) ≡ record_answer rows ps rs r
    unfolding record_answer
    not_the_next f = rw (← is-highest, ne_eqb r.edition (highest + 1) f)

    module _ (due : r.edition ≡ highest + 1) where
      pub no_path : held_path rows r.row ≡ false → answer bad_record 1 ≡ record_answer rows ps rs r
      unfolding record_answer
      no_path e = rw (← is-highest, eq-eqb r.edition (highest + 1) due, e)

      module _ (path : held_path rows r.row ≡ true) (previous : ℕ) (is-previous : previous ≡ row_of rs
          r.series highest) where
        pub no_fit : is_fit_step ps previous r ≡ false → answer bad_record 2 ≡ record_answer rows ps rs r
        unfolding record_answer
        no_fit e = rw (← is-highest, ← is-previous, eq-eqb r.edition (highest + 1) due, path, e)

        module _ (fit : is_fit_step ps previous r ≡ true) (full : Bool) (is-full : full ≡ leb max_records
            (length rs)) where
          pub all_full : full ≡ true → answer full_or_in_use 0 ≡ record_answer rows ps rs r
          unfolding record_answer
          all_full e =
              rw (← is-highest, ← is-previous, ← is-full, eq-eqb r.edition (highest + 1) due, path, fit, e)

          pub is_recorded : full ≡ false → answer 0 0 ≡ record_answer rows ps rs r
          unfolding record_answer
          is_recorded e =
              rw (← is-highest, ← is-previous, ← is-full, eq-eqb r.edition (highest + 1) due, path, fit, e)

  -- what an accepted record tells
  pub record Accepted : Type 0 where
    pub due : r.edition ≡ current rs r.series + 1
    pub path : held_path rows r.row ≡ true
    pub fits : is_fit_step ps (row_of rs r.series (current rs r.series)) r ≡ true
    pub room : length rs < max_records

  pub record_accepted : (record_answer rows ps rs r).number ≡ 0 → Accepted
  unfolding record_answer
  record_accepted told =
      let highest = current rs r.series in
      let next = highest + 1 in
      let fit = is_fit_step ps (row_of rs r.series highest) r in
      let t₁ = test_failed (not (eqb r.edition next)) (answer not_next next) _ (omega arith) told in
      let t₂ = test_failed (not (held_path rows r.row)) (answer bad_record 1) _ (omega arith) t₁.1 in
      let t₃ = test_failed (not fit) (answer bad_record 2) _ (omega arith) t₂.1 in
      let t₄ = test_failed (leb max_records (length rs)) (answer full_or_in_use 0) (answer 0 0) (omega arith) t₃.1 in
      record {
        due = eqb-true _ _ (not-false _ t₁.0);
        path = not-false _ t₂.0;
        fits = not-false _ t₃.0;
        room = leb-false _ _ t₄.0;
      }
