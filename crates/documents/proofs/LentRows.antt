-- Whole lent rows, few enough for `select`, are refused by it as the rows are here.
use Prim.Native.Nat.{ℕ, zero, suc, ◌+◌, ◌*◌, ◌/◌, ◌≤◌, ◌<◌}
use mathlib.Core.Path.{◌≡◌, refl}
use mathlib.Core.Bool.{Bool, not}
use mathlib.Core.List.{List}
use mathlib.Core.Option.{Option, none, some, Option-elim}
use native.Mathlib.Omega.{arith}
use lib.ListN.{length}
use borrow.Author.Tests.{le-ltb}
use Rattle.common.specs.Bounded.{first_below}
use Rattle.xpath.specs.Document.{row_ok, document_of, lent_rows, max_nodes, bad_row, document_refusal}
use Rattle.documents.specs.Documents.{most_rows, refused_row}

first_cong : (f g : ℕ → Bool) (n : ℕ) → ((k : ℕ) → k < n → f k ≡ g k) → first_below n f ≡ first_below n g
unfolding first_below Option-elim
first_cong f g zero same = refl
first_cong f g (suc n) same = rw (first_cong f g n (λ k l. same k (omega arith)), same n (omega arith)) refl

pub refused_alike : (xs : List ℕ) → length xs ≡ 3 * length (document_of xs) → length (document_of xs) ≤ max_nodes →
    document_refusal xs ≡ refused_row (document_of xs)
unfolding document_refusal bad_row row_ok lent_rows
refused_alike xs whole few =
    let n = length (document_of xs) in
    let many : (length xs + 2) / 3 ≡ n = omega (arith, whole) in
    let same : first_below n (bad_row xs) ≡ first_below n (λ k. not (row_ok (document_of xs) k)) =
    first_cong (bad_row xs) (λ k. not (row_ok (document_of xs) k)) n
    (λ k l. rw (le-ltb (length xs) (3 * k + 3) (omega (arith, whole, l))) refl) in
    rw (many, le-ltb max_nodes n few, le-ltb most_rows n (omega (arith, few)), same) refl
