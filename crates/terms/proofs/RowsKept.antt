-- What is kept of the rows of a table, row by row.
use Prim.Native.Nat.{ℕ, suc, ◌+◌, ◌*◌, ◌<◌, ◌≤◌}
use mathlib.Core.Path.{◌≡◌, refl, sym, ap, subst, ◌∙◌}
use mathlib.Core.Bool.{Bool, true, false, cond, false≢true}
use mathlib.Core.List.{List, [], ◌∷◌, ◌++◌}
use mathlib.Core.Logic.{⊎_elim}
use native.Mathlib.Omega.{arith}
use lib.ListN.{length, get_or, set, take, length-set, length-append, length-take}
use lib.Seq.{sets, length-take-le, take-suc-set, get_or-set_same, get_or-set_other}
use Rattle.common.proofs.Reflect.{eq_or_ne}
use Rattle.terms.specs.Row.{Row, row_width, row_numbers, max_rows, entries_from, same_row, find}
use Rattle.terms.specs.Nesting.{nesting_by, nestings, nesting}
use Rattle.terms.specs.private.Kept.{slot_count, slot_of, rows_in, Filters, Nestings, Kept}
use Rattle.terms.proofs.LentRows.{rows_lent, row_put}
use Rattle.terms.proofs.Find.{same_row_no}
use Rattle.terms.proofs.Nesting.{nestings_snoc}
use Rattle.terms.proofs.Entries.{length_entries}

pub slot_below : (r : Row) → slot_of r < slot_count
unfolding slot_of
slot_below r = omega arith

-- the first n rows of a table that has them are n
pub rows_put : (xs : List ℕ) (n : ℕ) → row_width * n ≤ length xs → length (rows_in xs n) ≡ n
rows_put xs n fits =
    omega (arith, rows_lent (take (row_width * n) xs), length-take-le (row_width * n) xs fits)

-- a table that has the nestings of rows has room for them
pub nested_few : (rs : List Row) (table : List ℕ) → Nestings rs table → length rs ≤ max_rows
unfolding nestings
nested_few rs table k =
    omega (arith, k.size, ap length k.entries, length-take (length rs) table, length_entries nesting_by rs)

-- a row that is not found is not found after another one
find_more : (rs : List Row) (s r : Row) → find rs r ≡ length rs → ¬ (s ≡ r) →
    find (rs ++ (s ∷ [])) r ≡ length (rs ++ (s ∷ []))
unfolding find
find_more [] s r e f = rw (same_row_no s r f)
find_more (q ∷ rs) s r e f = by (same_row q r) e (λ g. find_more rs s r g f)
  where
    by : (b : Bool) → cond b 0 (find rs r + 1) ≡ suc (length rs)
        → (find rs r ≡ length rs → find (rs ++ (s ∷ [])) r ≡ length (rs ++ (s ∷ [])))
        → cond b 0 (find (rs ++ (s ∷ [])) r + 1) ≡ suc (length (rs ++ (s ∷ [])))
    by true g next = absurd (omega arith)
    by false g next = omega (arith, next (omega arith))

-- of no rows, anything is kept
pub none_kept : (table : List ℕ) (filter : List Bool) → length table ≡ max_rows → length filter ≡ slot_count
    → Kept [] table filter
unfolding nestings entries_from find
none_kept table filter t f =
    record {
      nested = record { size = t; entries = refl };
      filtered = record { size = f; clear = λ r e. refl };
    }

-- the row r is put after the rows rs
module _ (rs : List Row) (r : Row) where
  nested_more : (table : List ℕ) (d : ℕ) → length rs < max_rows → d ≡ nesting rs r → Nestings rs table
      → Nestings (rs ++ (r ∷ [])) (set table (length rs) d)
  nested_more table d room e k =
      let more : length (rs ++ (r ∷ [])) ≡ suc (length rs) = length-append rs (r ∷ []) ∙ omega arith in
      let inside : length rs < length table = omega (arith, room, k.size) in
      record {
        size = length-set table (length rs) d ∙ k.size;
        entries = rw (more, take-suc-set table (length rs) d inside, nestings_snoc rs r, k.entries, e);
      }

  -- a row whose slot is clear then falls in another slot than r
  filtered_more : (filter : List Bool) → Filters rs filter → Filters (rs ++ (r ∷ [])) (set filter (slot_of r) true)
  filtered_more filter k = record { size = length-set filter (slot_of r) true ∙ k.size; clear = clear }
    where
      clear : (q : Row) → get_or (set filter (slot_of r) true) (slot_of q) false ≡ false → find (rs ++ (r ∷ [])) q
          ≡ length (rs ++ (r ∷ []))
      clear q z = ⊎_elim same other (eq_or_ne (slot_of q) (slot_of r))
        where
          same : slot_of q ≡ slot_of r → find (rs ++ (r ∷ [])) q ≡ length (rs ++ (r ∷ []))
          same e =
              let inside : slot_of r < length filter = omega (arith, slot_below r, k.size) in
              let marked : get_or (set filter (slot_of r) true) (slot_of q) false ≡ true =
              ap (λ i. get_or (set filter (slot_of r) true) i false) e
              ∙ get_or-set_same filter (slot_of r) true false inside in
              absurd (false≢true (sym z ∙ marked))

          other : ¬ (slot_of q ≡ slot_of r) → find (rs ++ (r ∷ [])) q ≡ length (rs ++ (r ∷ []))
          other f =
              find_more rs r q (k.clear q (sym (get_or-set_other filter (slot_of r) (slot_of q) true false f) ∙ z))
              (λ e. f (ap slot_of (sym e)))

  pub more_kept : (table : List ℕ) (filter : List Bool) (d : ℕ) → length rs < max_rows → d ≡ nesting rs r
      → Kept rs table filter → Kept (rs ++ (r ∷ [])) (set table (length rs) d) (set filter (slot_of r) true)
  more_kept table filter d room e k =
      record {
        nested = nested_more table d room e k.nested;
        filtered = filtered_more filter k.filtered;
      }

-- the row r is put after the first n of a table of numbers
pub put_kept : (xs ys : List ℕ) (n : ℕ) (r : Row) (table : List ℕ) (filter : List Bool) (d : ℕ) → n < max_rows
    → length xs ≡ row_width * max_rows → ys ≡ sets xs (row_width * n) (row_numbers r) → d ≡ nesting (rows_in xs n) r
    → Kept (rows_in xs n) table filter
    → Kept (rows_in ys (n + 1)) (set table n d) (set filter (slot_of r) true)
put_kept xs ys n r table filter d room size put e k =
    let held : length (rows_in xs n) ≡ n = rows_put xs n (omega (arith, size)) in
    let more = more_kept (rows_in xs n) r table filter d (omega (arith, held)) e k in
    rw (put, row_put n xs r (omega (arith, size)))
    (subst (λ i. Kept (rows_in xs n ++ (r ∷ [])) (set table i d) (set filter (slot_of r) true)) held more)
