-- What holds of a row that a term call takes.
use Prim.Native.Nat.{◌≤◌, ◌<◌}
use mathlib.Core.Path.{◌≡◌}
use mathlib.Core.List.{List}
use native.Mathlib.Omega.{arith}
use lib.Dec.{leb, ltb}
use lib.ListN.{length}
use borrow.Author.Tests.{le-ltb, lt-leb, ltb-false, leb-false}
use Rattle.terms.specs.Row.{Row, max_rows, find}
use Rattle.terms.specs.Fields.{max_kind, bad_place}
use Rattle.terms.specs.Nesting.{max_nesting, nesting}
use Rattle.calls.specs.Book.{answer}
use Rattle.calls.specs.TermCall.{term_answer}
use Rattle.calls.proofs.Accepted.{test_failed}

-- where the answer is 0, no refusal applies
pub record TermAccepted (rs : List Row) (r : Row) : Type 0 where
  pub kind : r.kind ≤ max_kind
  pub fields : bad_place rs r ≤ 0
  pub nesting : nesting rs r ≤ max_nesting
  pub new : length rs ≤ find rs r
  pub room : length rs < max_rows

pub term_accepted : (rs : List Row) (r : Row) → (term_answer rs r).number ≡ 0 → TermAccepted rs r
unfolding term_answer
term_accepted rs r e =
    let t₁ = test_failed (ltb max_kind r.kind) _ _ (omega arith) e in
    let t₂ = test_failed (ltb 0 (bad_place rs r)) _ _ (omega arith) t₁.1 in
    let t₃ = test_failed (ltb max_nesting (nesting rs r)) _ _ (omega arith) t₂.1 in
    let t₄ = test_failed (ltb (find rs r) (length rs)) _ _ (omega arith) t₃.1 in
    let t₅ = test_failed (leb max_rows (length rs)) _ _ (omega arith) t₄.1 in
    record {
      kind = ltb-false _ _ t₁.0;
      fields = ltb-false _ _ t₂.0;
      nesting = ltb-false _ _ t₃.0;
      new = ltb-false _ _ t₄.0;
      room = leb-false _ _ t₅.0;
    }

-- and where none applies, it is
pub row_held : (rs : List Row) (r : Row) → TermAccepted rs r → answer 0 (length rs) ≡ term_answer rs r
unfolding term_answer
row_held rs r t =
    rw (
      le-ltb max_kind r.kind t.kind,
      le-ltb 0 (bad_place rs r) t.fields,
      le-ltb max_nesting (nesting rs r) t.nesting,
      le-ltb (find rs r) (length rs) t.new,
      lt-leb max_rows (length rs) t.room,
    )
