-- The rows of a way back, put one after the other.
use Prim.Native.Nat.{ℕ, zero, suc, ◌+◌, ◌*◌, ◌<◌, ◌≤◌}
use mathlib.Core.Path.{◌≡◌, refl, sym, ◌∙◌, ap, subst}
use mathlib.Core.Bool.{Bool, true, false, cond}
use mathlib.Core.List.{List, [], ◌∷◌, ◌++◌}
use mathlib.Core.Logic.{⊎_elim}
use mathlib.Core.Option as math
use mathlib.Core.Option.{none, some}
use Rattle.std.proofs.Common.{Option, Some, None}
use native.Mathlib.Omega.{arith}
use lib.ListN.{length, get_or, set, take, replicate, length-append, length-take, get_or-append, get_or-eq_default}
use lib.Seq.{sets, get_or_at, get_or-take}
use Rattle.common.proofs.Reflect.{le_or_lt}
use Rattle.common.specs.RowKinds.{step_row, filter_row}
use Rattle.terms.specs.Row.{Row, row, no_row, row_at, row_numbers, row_width, table_of, max_rows, find}
use Rattle.terms.specs.private.Kept.{rows_in}
use Rattle.terms.proofs.Entries.{entries_take, entry_at_lem, entry_past}
use Rattle.terms.proofs.Find.{find_le, find_first, find_there}
use Rattle.terms.proofs.LentRows.{row_put}
use Rattle.terms.proofs.Noted.{nothing_noted, noted_more}
use Rattle.selector_grammar.specs.Denotes.{Put, put}
use Rattle.selector_grammar.proofs.Longer.{Longer, none_new, then_longer, put_longer}
use Rattle.selector_readings.specs.private.Build.{Beyond}
use Rattle.selector_readings.proofs.Built.{put_more, put_held, put_new, none_put, then_beyond, row_beyond}
use Rattle.reversing.specs.private.RowsBack.{Part, back, step, filter, Reversal, reversal, reversal_of, nothing}
use Rattle.reversing.specs.private.RowsBack.{joined_put}
use Rattle.reversing.specs.private.RowsBack.{filter_put, part_put, reversal_put, put_after, back_puts, back_put}
use Rattle.reversing.specs.private.RowsPut.{Table, rows_of, PutMet, Noted, NotedIn, BackPut}
use Rattle.reversing.proofs.HeldAgain.{find_stays, stays_at, put_found}

longer_length : (rs ss : List Row) → Longer rs ss → length rs ≤ length ss
longer_length rs ss (new, e) = omega (arith, ap length e, length-append rs new)

-- a row that is put is found where it was put, in all longer lists
found_put : (rs : List Row) (r : Row) → length rs ≤ find rs r → find (rs ++ (r ∷ [])) r ≡ find rs r
found_put rs r h =
    let n = length rs in
    let ss : List Row = rs ++ (r ∷ []) in
    let last : row_at ss n ≡ r = get_or_at rs r [] no_row n refl in
    let size : length ss ≡ suc n = omega (arith, length-append rs (r ∷ [])) in
    let few : find ss r < length ss =
    ⊎_elim (λ l. absurd (find_first ss r n (omega (arith, l, size)) last)) (λ l. l) (le_or_lt (length ss) (find ss r)) in
    let late : n ≤ find ss r =
    ⊎_elim (λ l. l)
    (λ l. absurd (find_first rs r (find ss r) (omega (arith, l, h))
    (sym (get_or-append rs (r ∷ []) no_row (find ss r) l) ∙ find_there ss r few)))
    (le_or_lt n (find ss r)) in
    omega (arith, h, find_le rs r, few, late, size)

put_stays : (rs : List Row) (r : Row) (ts : List Row) → Longer (put rs r).rows ts → put ts r ≡ stays_at ts (find rs r)
put_stays rs r ts (new, e) = ⊎_elim late early (le_or_lt (length rs) (find rs r))
  where
    found : (ss : List Row) → (put rs r).rows ≡ ss → find ss r ≡ find rs r → find rs r < length ss
        → put ts r ≡ stays_at ts (find rs r)
    found ss f g l =
        let grown : ts ≡ ss ++ new = e ∙ ap (λ (q : List Row). q ++ new) f in
        put_found ts r (find rs r)
        (ap (λ (q : List Row). find q r) grown ∙ find_stays ss new r (omega (arith, g, l)) ∙ g)
        (omega (arith, ap length grown, length-append ss new, l))

    early : find rs r < length rs → put ts r ≡ stays_at ts (find rs r)
    early l = found rs (put_held rs r l) refl l

    late : length rs ≤ find rs r → put ts r ≡ stays_at ts (find rs r)
    late l =
        found (rs ++ (r ∷ [])) (put_new rs r l) (found_put rs r l)
        (omega (arith, length-append rs (r ∷ []), find_le rs r))

-- what f puts is only added, and is put once
pub record PutsOnce (f : List Row → Put) : Type 0 where
  pub longer : (rs : List Row) → Longer rs (f rs).rows
  pub stays : (rs ts : List Row) → Longer (f rs).rows ts → f ts ≡ stays_at ts (f rs).at

pub row_once : (r : Row) → PutsOnce (λ rs. put rs r)
unfolding put
row_once r = record { longer = λ rs. put_longer rs r; stays = λ rs ts l. put_stays rs r ts l }

pub nothing_once : PutsOnce nothing
nothing_once = record { longer = none_new; stays = λ rs ts l. refl }

joined_once : (k : ℕ) (f g : List Row → Put) → PutsOnce f → PutsOnce g → PutsOnce (joined_put k f g)
unfolding joined_put
joined_once k f g a b =
    record {
      longer = λ rs.
          then_longer rs (g (f rs).rows).rows _ (then_longer rs (f rs).rows _ (a.longer rs) (b.longer (f rs).rows))
          (put_longer (g (f rs).rows).rows _);
      stays = λ rs ts l.
          let x = f rs in
          let y = g x.rows in
          let r = row k x.at y.at 0 in
          let after = then_longer y.rows (put y.rows r).rows ts (put_longer y.rows r) l in
          ap (λ (u : Put). put (g u.rows).rows (row k u.at (g u.rows).at 0))
          (a.stays rs ts (then_longer x.rows y.rows ts (b.longer x.rows) after))
          ∙ ap (λ (u : Put). put u.rows (row k x.at u.at 0)) (b.stays x.rows ts after)
          ∙ (row_once r).stays y.rows ts l;
    }

pub filter_once : (f : ℕ) → PutsOnce (filter_put f)
unfolding filter_put
filter_once f =
    let dot = row step_row 0 2 0 in
    record {
      longer = λ rs. then_longer rs (put rs dot).rows _ (put_longer rs dot) (put_longer (put rs dot).rows _);
      stays = λ rs ts l.
          let x = put rs dot in
          let r = row filter_row x.at f 0 in
          ap (λ (u : Put). put u.rows (row filter_row u.at f 0))
          ((row_once dot).stays rs ts (then_longer x.rows (put x.rows r).rows ts (put_longer x.rows r) l))
          ∙ (row_once r).stays x.rows ts l;
    }

module _ (rs : List Row) where
  -- one level: the ways back of operands are those of smaller rows
  pub put_level : (i : ℕ) → back_put rs i ≡ reversal_put (take i (back_puts rs)) (reversal_of (row_at rs i))
  unfolding back_puts reversal_of reversal_put
  put_level i = ⊎_elim past held (le_or_lt (length rs) i)
    where
      past : length rs ≤ i → back_put rs i ≡ reversal_put (take i (back_puts rs)) (reversal_of (row_at rs i))
      past h =
          entry_past (put_after rs) nothing rs i h
          ∙ sym (ap (λ (r : Row). reversal_put (take i (back_puts rs)) (reversal_of r)) (get_or-eq_default rs no_row h))

      held : i < length rs → back_put rs i ≡ reversal_put (take i (back_puts rs)) (reversal_of (row_at rs i))
      held h =
          entry_at_lem (put_after rs) nothing rs i h
          ∙ ap (λ (fs : List (List Row → Put)). put_after rs fs (row_at rs i)) (entries_take (put_after rs) i rs)

  pub part_earlier : (i p : ℕ) → p < i → part_put (take i (back_puts rs)) (back p) ≡ back_put rs p
  unfolding part_put
  part_earlier i p l = get_or-take i (back_puts rs) p nothing l

  pub part_later : (i p : ℕ) → i ≤ p → part_put (take i (back_puts rs)) (back p) ≡ nothing
  unfolding part_put
  part_later i p l =
      get_or-eq_default (take i (back_puts rs)) nothing (omega (arith, length-take i (back_puts rs), l))

  part_once : (i : ℕ) → ((p : ℕ) → p < i → PutsOnce (back_put rs p)) → (u : Part)
      → PutsOnce (part_put (take i (back_puts rs)) u)
  unfolding part_put
  part_once i earlier (back p) =
      ⊎_elim (λ l. subst PutsOnce (sym (part_later i p l)) nothing_once)
      (λ l. subst PutsOnce (sym (part_earlier i p l)) (earlier p l)) (le_or_lt i p)
  part_once i earlier (step r) = row_once r
  part_once i earlier (filter f) = filter_once f

  by_once : (i : ℕ) → ((p : ℕ) → p < i → PutsOnce (back_put rs p)) → (o : math.Option Reversal)
      → PutsOnce (reversal_put (take i (back_puts rs)) o)
  unfolding reversal_put
  by_once i earlier none = nothing_once
  by_once i earlier (some r) =
      joined_once r.kind _ _ (part_once i earlier r.left) (part_once i earlier r.right)

  below_once : (n i : ℕ) → i < n → PutsOnce (back_put rs i)
  below_once zero i l = absurd (omega arith)
  below_once (suc n) i l =
      subst PutsOnce (sym (put_level i)) (by_once i (λ p m. below_once n p (omega arith)) (reversal_of (row_at rs i)))

  pub back_once : (i : ℕ) → PutsOnce (back_put rs i)
  back_once i = below_once (suc i) i (omega arith)

  pub part_is_once : (i : ℕ) (u : Part) → PutsOnce (part_put (take i (back_puts rs)) u)
  part_is_once i u = part_once i (λ p l. back_once p) u

  -- what is noted stays so as rows are put
  pub noted_stays : (ss ts : List Row) (xs : List (Option ℕ)) → Noted rs ss xs → Longer ss ts → Noted rs ts xs
  unfolding Noted
  noted_stays ss ts xs noted l i j q =
      let e = noted i j q in
      (back_once i).stays ss ts (subst (λ (ss : List Row). Longer ss ts) (sym (ap (λ (u : Put). u.rows) e)) l)
      ∙ ap (λ (u : Put). stays_at ts u.at) e

-- Rows in a table.

pub same_table : (t : Table) → Beyond t.0 t.1 t.0 t.1
same_table t = none_put t.0 t.1

pub nothing_met : (t : Table) → PutMet nothing t t (Some 0)
nothing_met t = (refl, refl, same_table t)

module _ (r : Row) (t : Table) where
  pub found_met : (i : ℕ) → find (rows_of t) r ≡ i → i < length (rows_of t) → PutMet (λ rs. put rs r) t t (Some i)
  found_met i e l =
      let u = sym (put_found (rows_of t) r i e l) in
      (ap (λ (u : Put). u.rows) u, ap (λ (u : Put). u.at) u, same_table t)

  module _ (e : find (rows_of t) r ≡ length (rows_of t)) where
    added : (put (rows_of t) r).rows ≡ rows_of t ++ (r ∷ [])
    added = put_new (rows_of t) r (omega (arith, e))

    pub full_met : max_rows ≤ length (rows_of t) → PutMet (λ rs. put rs r) t t None
    full_met h =
        let more : max_rows < length (put (rows_of t) r).rows =
        omega (arith, h, ap length added, length-append (rows_of t) (r ∷ [])) in
        more

    pub added_met : (ys : List ℕ) → row_width * t.1 + 4 ≤ length t.0 → length (rows_of t) ≡ t.1
        → ys ≡ sets t.0 (row_width * t.1) (row_numbers r) → PutMet (λ rs. put rs r) t (ys, t.1 + 1) (Some t.1)
    unfolding put
    added_met ys fits count k = (
      ap (λ (zs : List ℕ). table_of (take (row_width * (t.1 + 1)) zs)) k
          ∙ row_put t.1 t.0 r (omega (arith, fits))
          ∙ sym added,
      sym (e ∙ count),
      row_beyond t.0 ys t.1 r k,
    )

module _ (f : List Row → Put) (t : Table) where
  pub rows_longer : PutsOnce f → (u : Table) (a : ℕ) → PutMet f t u (Some a) → Longer (rows_of t) (rows_of u)
  rows_longer once u a m = subst (Longer (rows_of t)) (sym m.0) (once.longer (rows_of t))

-- two parts, one after the other, and a row over both
module _ (k : ℕ) (f g : List Row → Put) (t : Table) where
  pub first_full : PutsOnce g → (u : Table) → PutMet f t u None → PutMet (joined_put k f g) t u None
  unfolding joined_put
  first_full b u m =
      let x = f (rows_of t) in
      let y = g x.rows in
      let over : max_rows < length (put y.rows (row k x.at y.at 0)).rows =
      omega (arith, m, longer_length x.rows y.rows (b.longer x.rows), put_more y.rows (row k x.at y.at 0)) in
      over

  module _ (u : Table) (a : ℕ) (m : PutMet f t u (Some a)) where
    abbrev x : Put
    x = f (rows_of t)

    pub second_full : (v : Table) → PutMet g u v None → PutMet (joined_put k f g) t v None
    unfolding joined_put
    second_full v n =
        let y = g x.rows in
        let over : max_rows < length y.rows = subst (λ (rs : List Row). max_rows < length (g rs).rows) m.0 n in
        let more : max_rows < length (put y.rows (row k x.at y.at 0)).rows =
        omega (arith, over, put_more y.rows (row k x.at y.at 0)) in
        more

    module _ (v : Table) (b : ℕ) (n : PutMet g u v (Some b)) where
      same_put : put (rows_of v) (row k a b 0) ≡ joined_put k f g (rows_of t)
      unfolding joined_put
      same_put =
          let y : g (rows_of u) ≡ g x.rows = ap g m.0 in
          let rows = n.0 ∙ ap (λ (u : Put). u.rows) y in
          let at = n.1 ∙ ap (λ (u : Put). u.at) y in
          λ i. put (rows i) (row k (m.1 i) (at i) 0)

      pub joined_met : (w : Table) (c : Option ℕ) → PutMet (λ rs. put rs (row k a b 0)) v w c → PutMet (joined_put k f g) t w c
      joined_met w None o = subst (λ (z : Put). max_rows < length z.rows) same_put o
      joined_met w (Some c) o = (
        o.0 ∙ ap (λ (z : Put). z.rows) same_put,
        o.1 ∙ ap (λ (z : Put). z.at) same_put,
        then_beyond t.0 v.0 w.0 t.1 v.1 w.1 (then_beyond t.0 u.0 v.0 t.1 u.1 v.1 m.2 n.2) o.2,
      )

-- the rows of .[f]
module _ (f : ℕ) (t u : Table) where
  abbrev dot : Row
  dot = row step_row 0 2 0

  pub dot_full : PutMet (λ rs. put rs dot) t u None → PutMet (filter_put f) t u None
  unfolding filter_put
  dot_full m =
      let x = put (rows_of t) dot in
      let more : max_rows < length (put x.rows (row filter_row x.at f 0)).rows =
      omega (arith, m, put_more x.rows (row filter_row x.at f 0)) in
      more

  module _ (a : ℕ) (m : PutMet (λ rs. put rs dot) t u (Some a)) where
    same_filter : put (rows_of u) (row filter_row a f 0) ≡ filter_put f (rows_of t)
    unfolding filter_put
    same_filter = λ i. put (m.0 i) (row filter_row (m.1 i) f 0)

    pub filter_met : (w : Table) (c : Option ℕ) → PutMet (λ rs. put rs (row filter_row a f 0)) u w c
        → PutMet (filter_put f) t w c
    filter_met w None o = subst (λ (z : Put). max_rows < length z.rows) same_filter o
    filter_met w (Some c) o = (
      o.0 ∙ ap (λ (z : Put). z.rows) same_filter,
      o.1 ∙ ap (λ (z : Put). z.at) same_filter,
      then_beyond t.0 u.0 w.0 t.1 u.1 w.1 m.2 o.2,
    )

-- The ways of the code, with what is noted.
module _ (rs : List Row) where
  -- where rows are put by what notes nothing
  pub plain_back : (f : List Row → Put) → PutsOnce f → (t u : Table) (v : Option ℕ) → PutMet f t u v
      → (xs : List (Option ℕ)) → Noted rs (rows_of t) xs → BackPut rs f t u v xs
  plain_back f once t u None m xs noted = record { met = m; noted = tt }
  plain_back f once t u (Some v) m xs noted =
      record { met = m; noted = noted_stays rs (rows_of t) (rows_of u) xs noted (rows_longer f t once u v m) }

  pub back_of : (f g : List Row → Put) → f ≡ g → {t u : Table} {v : Option ℕ} {xs : List (Option ℕ)}
      → BackPut rs g t u v xs → BackPut rs f t u v xs
  back_of f g e {t} {u} {v} {xs} p = subst (λ (f : List Row → Put). BackPut rs f t u v xs) (sym e) p

  -- what is noted for row i
  pub noted_back : (i j : ℕ) (t : Table) (xs : List (Option ℕ)) → Noted rs (rows_of t) xs → get_or xs i None ≡ Some j
      → BackPut rs (back_put rs i) t t (Some j) xs
  unfolding Noted
  noted_back i j t xs noted q =
      let e = sym (noted i j q) in
      record { met = (ap (λ (u : Put). u.rows) e, ap (λ (u : Put). u.at) e, same_table t); noted = noted }

  -- a row that has no way back
  pub no_reversal : (i : ℕ) → reversal_of (row_at rs i) ≡ none → (t : Table) (xs : List (Option ℕ))
      → Noted rs (rows_of t) xs → BackPut rs (back_put rs i) t t (Some 0) xs
  unfolding reversal_put
  no_reversal i e t xs noted =
      back_of (back_put rs i) nothing (put_level rs i ∙ ap (reversal_put (take i (back_puts rs))) e)
      (plain_back nothing nothing_once t t (Some 0) (nothing_met t) xs noted)

  -- a part that is the way back of an earlier row, and one that is none
  pub earlier_part : (i p : ℕ) (u : Part) → u ≡ back p → p < i → {t v : Table} {c : Option ℕ} {xs : List (Option ℕ)}
      → BackPut rs (back_put rs p) t v c xs → BackPut rs (part_put (take i (back_puts rs)) u) t v c xs
  earlier_part i p u e l b =
      back_of _ (back_put rs p) (ap (part_put (take i (back_puts rs))) e ∙ part_earlier rs i p l) b

  pub later_part : (i p : ℕ) (u : Part) → u ≡ back p → i ≤ p → (t : Table) (xs : List (Option ℕ))
      → Noted rs (rows_of t) xs → BackPut rs (part_put (take i (back_puts rs)) u) t t (Some 0) xs
  later_part i p u e l t xs noted =
      back_of _ nothing (ap (part_put (take i (back_puts rs))) e ∙ part_later rs i p l)
      (plain_back nothing nothing_once t t (Some 0) (nothing_met t) xs noted)

  pub step_part : (i : ℕ) (r : Row) (u : Part) → u ≡ step r → (t v : Table) (c : Option ℕ)
      → PutMet (λ rs. put rs r) t v c → (xs : List (Option ℕ)) → Noted rs (rows_of t) xs
      → BackPut rs (part_put (take i (back_puts rs)) u) t v c xs
  unfolding part_put
  step_part i r u e t v c m xs noted =
      back_of _ (λ rs. put rs r) (ap (part_put (take i (back_puts rs))) e)
      (plain_back (λ rs. put rs r) (row_once r) t v c m xs noted)

  pub filter_part : (i f : ℕ) (u : Part) → u ≡ filter f → (t v : Table) (c : Option ℕ)
      → PutMet (filter_put f) t v c → (xs : List (Option ℕ)) → Noted rs (rows_of t) xs
      → BackPut rs (part_put (take i (back_puts rs)) u) t v c xs
  unfolding part_put
  filter_part i f u e t v c m xs noted =
      back_of _ (filter_put f) (ap (part_put (take i (back_puts rs))) e)
      (plain_back (filter_put f) (filter_once f) t v c m xs noted)

  -- a row that is made of two parts
  module _ (i k : ℕ) (left right : Part) (e : reversal_of (row_at rs i) ≡ some (reversal k left right)) (t : Table) where
    abbrev f : List Row → Put
    f = part_put (take i (back_puts rs)) left

    abbrev g : List Row → Put
    g = part_put (take i (back_puts rs)) right

    of_parts : back_put rs i ≡ joined_put k f g
    unfolding reversal_put
    of_parts = put_level rs i ∙ ap (reversal_put (take i (back_puts rs))) e

    none_put_back : (u : Table) (xs : List (Option ℕ)) → PutMet (joined_put k f g) t u None
        → BackPut rs (back_put rs i) t u None xs
    none_put_back u xs m = back_of (back_put rs i) (joined_put k f g) of_parts (record { met = m; noted = tt })

    module _ (u : Table) (xs : List (Option ℕ)) where
      pub left_full : BackPut rs f t u None xs → BackPut rs (back_put rs i) t u None xs
      left_full p = none_put_back u xs (first_full k f g t (part_is_once rs i right) u p.met)

      module _ (a : ℕ) (p : BackPut rs f t u (Some a) xs) (v : Table) (ys : List (Option ℕ)) where
        pub right_full : BackPut rs g u v None ys → BackPut rs (back_put rs i) t v None ys
        right_full q = none_put_back v ys (second_full k f g t u a p.met v q.met)

        module _ (b : ℕ) (q : BackPut rs g u v (Some b) ys) (w : Table) where
          pub row_full : PutMet (λ rs. put rs (row k a b 0)) v w None → BackPut rs (back_put rs i) t w None ys
          row_full o = none_put_back w ys (joined_met k f g t u a p.met v b q.met w None o)

          -- the row is put, and noted
          pub row_noted : (j : ℕ) → PutMet (λ rs. put rs (row k a b 0)) v w (Some j) → (zs : List (Option ℕ))
              → zs ≡ set ys i (Some j) → BackPut rs (back_put rs i) t w (Some j) zs
          unfolding Noted
          row_noted j o zs z =
              let m : PutMet (back_put rs i) t w (Some j) =
              subst (λ (h : List Row → Put). PutMet h t w (Some j)) (sym of_parts)
              (joined_met k f g t u a p.met v b q.met w (Some j) o) in
              let r = row k a b 0 in
              let longer = rows_longer (λ rs. put rs r) v (row_once r) w j o in
              let earlier : Noted rs (rows_of w) ys = noted_stays rs (rows_of v) (rows_of w) ys q.noted longer in
              let held : back_put rs i (rows_of w) ≡ stays_at (rows_of w) j =
              (back_once rs i).stays (rows_of t) (rows_of w)
              (subst (Longer (back_put rs i (rows_of t)).rows) (sym m.0) (none_new (back_put rs i (rows_of t)).rows))
              ∙ ap (stays_at (rows_of w)) (sym m.1) in
              record {
                met = m;
                noted = subst (Noted rs (rows_of w)) (sym z)
                    (noted_more (λ i j. back_put rs i (rows_of w) ≡ stays_at (rows_of w) j) ys i j earlier held);
              }

pub none_noted : (rs ss : List Row) (k : ℕ) → Noted rs ss (replicate k None)
unfolding Noted
none_noted rs ss k i j q = nothing_noted k i j q
