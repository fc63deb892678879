-- From the rows that are put to the call way-back.
use Prim.Native.Nat.{ℕ, suc, ◌+◌, ◌*◌, ◌<◌, ◌≤◌}
use mathlib.Core.Path.{◌≡◌, refl, sym, ◌∙◌, ap, subst}
use mathlib.Core.Bool.{true, false}
use mathlib.Core.List.{List, [], ◌∷◌, ◌++◌}
use native.Mathlib.Numerals.{add-one}
use native.Mathlib.Omega.{arith}
use lib.Dec.{eqb, ltb}
use lib.ListN.{length, get_or, set, take}
use lib.Seq.{take-suc, take-suc-set}
use borrow.Author.Tests.{ne_eqb, eq-eqb}
use Rattle.std.proofs.lemmas.Bool.{le-ltb, lt-ltb}
use Rattle.std.specs.Prelude.{Some, None, Ok, Err}
use Rattle.common.specs.declared.refusal.Refusal.{Refusal}
use Rattle.common.specs.represent.Refusal.{refusal_number, refusal_value}
use Rattle.terms.specs.Row.{Row, no_row, row_at, max_rows, table_with, entries_from}
use Rattle.terms.specs.Fields.{held_path}
use Rattle.terms.specs.Nesting.{max_nesting, nestings}
use Rattle.terms.proofs.Entries.{entries_snoc}
use Rattle.selector_grammar.specs.Answer.{Reply, reply}
use Rattle.selector_readings.specs.private.Build.{Sized}
use Rattle.selector_readings.proofs.Built.{table_count}
use Rattle.selector_reader.proofs.Left.{left_table}
use Rattle.calls.specs.Book.{answer}
use Rattle.reversing.specs.private.RowsBack.{reversal_of, reversal_nesting, nesting_after, back_nestings, back_nesting}
use Rattle.reversing.specs.private.RowsBack.{back_put, row_reply}
use Rattle.reversing.specs.private.RowsPut.{Table, rows_of, PutMet, BackNestings, WayBackMade}
use Rattle.reversing.proofs.RowsPut.{back_once}

-- the nesting of one more way back, put behind those of the first i rows
pub back_entry : (rs : List Row) (kept : List ℕ) → kept ≡ nestings rs → (i : ℕ) (bs : List ℕ)
    → bs ≡ entries_from (nesting_after rs) [] (take i rs) → (j : ℕ) (x : Row) → x ≡ row_at rs j → (d : ℕ)
    → d ≡ reversal_nesting kept bs (reversal_of x)
    → d ≡ nesting_after rs (entries_from (nesting_after rs) [] (take i rs)) (row_at rs j)
back_entry rs kept e i bs f j x g d h =
    h ∙ ap (λ (ns : List ℕ). reversal_nesting ns bs (reversal_of x)) e
    ∙ ap (λ (bs : List ℕ). reversal_nesting (nestings rs) bs (reversal_of x)) f
    ∙ ap (λ (x : Row). nesting_after rs (entries_from (nesting_after rs) [] (take i rs)) x) g

pub nestings_put : (rs : List Row) (t : List ℕ) (i d : ℕ) → i < length rs → i < length t
    → take i t ≡ entries_from (nesting_after rs) [] (take i rs)
    → d ≡ nesting_after rs (entries_from (nesting_after rs) [] (take i rs)) (row_at rs i)
    → take (i + 1) (set t i d) ≡ entries_from (nesting_after rs) [] (take (i + 1) rs)
nestings_put rs t i d h l f e =
    let entries : List Row → List ℕ = entries_from (nesting_after rs) [] in
    ap (λ (n : ℕ). take n (set t i d)) (add-one i)
    ∙ take-suc-set t i d l
    ∙ ap (λ (bs : List ℕ). bs ++ (d ∷ [])) f
    ∙ ap (λ (d : ℕ). entries (take i rs) ++ (d ∷ [])) e
    ∙ sym (entries_snoc (nesting_after rs) (take i rs) (row_at rs i))
    ∙ ap entries (sym (take-suc rs i no_row h))
    ∙ ap (λ (n : ℕ). entries (take n rs)) (sym (add-one i))

-- the nesting of row i's way back in the table
pub nesting_found : (rs : List Row) (table : List ℕ) (n i : ℕ) → BackNestings rs table → n ≡ length rs
    → get_or (take n table) i 0 ≡ back_nesting rs i
nesting_found rs table n i b e =
    ap (λ (n : ℕ). get_or (take n table) i 0) e ∙ ap (λ (bs : List ℕ). get_or bs i 0) b.entries

-- the tests, in their order
module _ (rs : List Row) (i : ℕ) where
  pub no_path : held_path rs i ≡ false → row_reply rs i ≡ reply 5 1 rs
  unfolding row_reply
  no_path e = rw e refl

  module _ (held : held_path rs i ≡ true) where
    pub no_back : back_nesting rs i ≡ 0 → row_reply rs i ≡ reply 7 0 rs
    unfolding row_reply
    no_back e = rw (held, eq-eqb (back_nesting rs i) 0 e) refl

    module _ (there : ¬ (back_nesting rs i ≡ 0)) where
      pub too_deep : max_nesting < back_nesting rs i → row_reply rs i ≡ reply 3 0 rs
      unfolding row_reply
      too_deep l = rw (held, ne_eqb (back_nesting rs i) 0 there, lt-ltb max_nesting (back_nesting rs i) l) refl

      module _ (few : back_nesting rs i ≤ max_nesting) where
        pub too_many : max_rows < length (back_put rs i rs).rows → row_reply rs i ≡ reply 11 0 rs
        unfolding row_reply
        too_many l =
            rw (
              held,
              ne_eqb (back_nesting rs i) 0 there,
              le-ltb max_nesting (back_nesting rs i) few,
              lt-ltb max_rows (length (back_put rs i rs).rows) l,
            ) refl

        pub is_held : length (back_put rs i rs).rows ≤ max_rows
            → row_reply rs i ≡ reply 0 (back_put rs i rs).at (back_put rs i rs).rows
        unfolding row_reply
        is_held l =
            rw (
              held,
              ne_eqb (back_nesting rs i) 0 there,
              le-ltb max_nesting (back_nesting rs i) few,
              le-ltb max_rows (length (back_put rs i rs).rows) l,
            ) refl

module _ (t : Table) (i : ℕ) where
  pub made_refused : (e : Refusal) (u : Table) → u.0 ≡ t.0
      → row_reply (rows_of t) i ≡ reply (refusal_number e) (refusal_value e) (rows_of t) → WayBackMade t i u (Err e)
  made_refused e u same is =
      record {
        answer = sym (ap (λ (r : Reply). answer r.number r.value) is);
        rows = tt;
        count = tt;
        refused = same;
      }

  module _ (u : Table) (v : ℕ) (m : PutMet (back_put (rows_of t) i) t u (Some v)) (z : Sized t.0 t.1)
      (w : Sized u.0 u.1) where
    pub held_few : length (back_put (rows_of t) i (rows_of t)).rows ≤ max_rows
    held_few =
        let count : length (rows_of u) ≡ u.1 = table_count u.0 u.1 w in
        let same : length (rows_of u) ≡ length (back_put (rows_of t) i (rows_of t)).rows = ap length m.0 in
        omega (arith, count, same, w.bound)

    pub made_held : row_reply (rows_of t) i
        ≡ reply 0 (back_put (rows_of t) i (rows_of t)).at (back_put (rows_of t) i (rows_of t)).rows
        → WayBackMade t i u (Ok v)
    made_held is =
        let rs = rows_of t in
        let after = (back_put rs i rs).rows in
        let (new, grown) = (back_once rs i).longer rs in
        let rows = ap (λ (r : Reply). r.rows) is in
        record {
          answer = ap (λ (n : ℕ). answer 0 n) m.1 ∙ sym (ap (λ (r : Reply). answer r.number r.value) is);
          rows = subst (λ (ss : List Row). u.0 ≡ table_with t.0 t.1 ss) (sym rows)
              (left_table t.0 u.0 t.1 u.1 after new z w m.0 grown m.2);
          count = sym (table_count u.0 u.1 w) ∙ ap length (m.0 ∙ sym rows);
          refused = tt;
        }
