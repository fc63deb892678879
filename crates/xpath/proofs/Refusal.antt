-- Refusal 8 on the lent numbers, by the document that they are.
use Prim.Native.Nat.{ℕ, ◌+◌, ◌-◌, ◌*◌, ◌/◌, ◌≤◌}
use mathlib.Core.Path.{◌≡◌, refl, ◌∙◌}
use mathlib.Core.Bool.{Bool, true, false, cond}
use mathlib.Core.List.{List}
use mathlib.Core.Logic.{◌↔◌}
use mathlib.Core.Option.{Option, none, some}
use native.Mathlib.Omega.{arith}
use lib.Dec.{T, leb, ltb, eqb}
use lib.ListN.{length}
use borrow.Author.Tests.{eqb-false, ltb-false, ne_eqb, le-ltb}
use mir.Facts.{yes_and, and_yes, yes_leb, leb_yes}
use Rattle.common.specs.Bounded.{first_below, all_below}
use Rattle.xpath.specs.Document.{row_ok, well_formed, document_of, lent_rows, max_nodes, bad_row, document_refusal}
use Rattle.xpath.proofs.LentNumbers.{nodes_lent}
use Rattle.common.proofs.Reflect.{yes_all, all_yes, true_iff}
use Rattle.common.proofs.Search.{none_iff}
use Rattle.common.proofs.Tests.{or_not_parts}

-- where no test finds a refusal
no_refusal : (a b : Bool) (v w : ℕ) (o : Option ℕ) → cond a (some v) (cond b (some w) o) ≡ none →
    (a ≡ false) × (b ≡ false) × (o ≡ none)
no_refusal true b v w o e = absurd (cc)
no_refusal false true v w o e = absurd (cc)
no_refusal false false v w o e = (refl, refl, e)

module _ (xs : List ℕ) where
  pub row_sound : (n : ℕ) → bad_row xs n ≡ false → (3 * n + 3 ≤ length xs) × T (row_ok (document_of xs) n)
  unfolding bad_row row_ok
  row_sound n e =
      let r = or_not_parts (ltb (length xs) (3 * n + 3)) (row_ok (document_of xs) n) e in
      (ltb-false (length xs) (3 * n + 3) r.0, (true_iff _).1 r.1)

  sound_row : (n : ℕ) → 3 * n + 3 ≤ length xs → T (row_ok (document_of xs) n) → bad_row xs n ≡ false
  unfolding bad_row row_ok
  sound_row n l t = rw (le-ltb (length xs) (3 * n + 3) l, (true_iff (row_ok (document_of xs) n)).0 t)

  accepted_is : document_refusal xs ≡ none →
      (length xs ≡ 3 * length (document_of xs)) × (length (document_of xs) ≤ max_nodes)
      × T (well_formed (document_of xs))
  unfolding document_refusal bad_row well_formed lent_rows
  accepted_is e =
      let r = no_refusal (eqb (lent_rows xs) 0) (ltb max_nodes (lent_rows xs)) 0 max_nodes
      (first_below (lent_rows xs) (bad_row xs)) e in
      let n = (length xs + 2) / 3 in
      let some_row : ¬ (n ≡ 0) = eqb-false n 0 r.0 in
      let few : n ≤ max_nodes = ltb-false max_nodes n r.1 in
      let sound = (none_iff (bad_row xs) n).0 r.2 in
      let last = row_sound (n - 1) (sound (n - 1) (omega (arith, some_row))) in
      let whole : length xs ≡ 3 * n = omega (arith, last.0, some_row) in
      let many : length (document_of xs) ≡ n = nodes_lent xs ∙ omega arith in (
        omega arith,
        omega arith,
        yes_and (leb 1 (length (document_of xs))) (all_below (length (document_of xs)) (row_ok (document_of xs)))
            (yes_leb {a = 1} {b = length (document_of xs)} (omega arith))
            (yes_all _ _ (λ k l. (row_sound k (sound k (omega arith))).1)),
      )

  is_accepted_lem : (length xs ≡ 3 * length (document_of xs)) × (length (document_of xs) ≤ max_nodes)
      × T (well_formed (document_of xs)) → document_refusal xs ≡ none
  unfolding document_refusal bad_row well_formed lent_rows
  is_accepted_lem (whole, few, w) =
      let n = length (document_of xs) in
      let r = and_yes (leb 1 n) (all_below n (row_ok (document_of xs))) w in
      let some_row : 1 ≤ n = leb_yes r.0 in
      let many : (length xs + 2) / 3 ≡ n = omega arith in
      rw (ne_eqb ((length xs + 2) / 3) 0 (λ e. omega arith), le-ltb max_nodes ((length xs + 2) / 3) (omega arith), many)
      ((none_iff (bad_row xs) n).1 (λ k l. sound_row k (omega arith) (all_yes n (row_ok (document_of xs)) r.1 k l)))

  -- refusal 8 doesn't apply just where the numbers are whole rows, at most 512, of a well-formed document
  pub accepted_iff : (document_refusal xs ≡ none)
      ↔ ((length xs ≡ 3 * length (document_of xs)) × (length (document_of xs) ≤ max_nodes)
      × T (well_formed (document_of xs)))
  accepted_iff = (accepted_is, is_accepted_lem)
