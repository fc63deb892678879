-- The first bad row by the climb is that of the definition; where no row is bad, the columns are sound.
use Prim.Native.Nat.{ℕ, zero, suc, ◌-◌, ◌+◌, ◌≤◌, ◌<◌}
use mathlib.Core.Path.{◌≡◌, refl, sym, ap, subst, ◌∙◌}
use mathlib.Core.Bool.{Bool, true, false, not, ◌&&◌}
use mathlib.Core.List.{List}
use mathlib.Core.Logic.{⊎_elim}
use mathlib.Core.Option.{Option, none, some, Option-elim}
use Rattle.std.specs.Prelude.{Some, None}
use native.Mathlib.Omega.{arith}
use lib.Dec.{T, leb, ltb, eqb}
use lib.ListN.{length, get_or, get_or-eq_default}
use mir.Facts.{yes_and, yes_leb}
use borrow.Author.Tests.{eq-eqb, ne_eqb, lt-ltb, le-ltb}
use Rattle.common.specs.Bounded.{first_below, all_below}
use Rattle.common.proofs.Reflect.{yes_all, all_yes, true_iff, eq_or_ne, le_or_lt, facts}
use Rattle.common.proofs.Search.{first_not_yet, first_found, first_alike, none_iff, found_below}
use Rattle.xpath.specs.Document.{Document, kind_at, parent_at, name_at, row_ok, row_ok_by, is_ancestor, well_formed}
use Rattle.xpath.specs.Climb.{climb_met}
use Rattle.xpath.specs.represent.Ends.{Filled, Ends}
use Rattle.xpath.specs.represent.Check.{closed_before, closed_in_turn}
use Rattle.xpath.proofs.Tree.{parent_smaller}
use Rattle.xpath.proofs.Climbing.{row_alike}
use Rattle.xpath.proofs.Ends.{ends_found}
use Rattle.xpath.proofs.Rows.{PassedBy, passed_next}
use Rattle.documents.specs.Columns.{rows_of, Even, Within, EndsWithin, Sound}
use Rattle.documents.specs.Checks.{FirstBad}
use Rattle.documents.specs.Documents.{most_rows, refused_row}
use Rattle.documents.proofs.Fields.{rows_length, rows_parent}

not_false : (b : Bool) → not b ≡ false → T b
not_false true e = tt
not_false false e = absurd (cc)

-- by the climb, and by the definition
abbrev pub bad : Document → ℕ → Bool
bad d n = not (row_ok_by climb_met d n)

abbrev bad_row : Document → ℕ → Bool
bad_row d n = not (row_ok d n)

bad_alike : (d : Document) (n : ℕ) → first_below n (bad d) ≡ first_below n (bad_row d)
unfolding row_ok
bad_alike d n =
    first_alike (bad_row d) (bad d) n
    (λ k sound. ap not (row_alike d k (λ j l. not_false (row_ok d j) (sound j l))))

formed : (d : Document) → 0 < length d → first_below (length d) (bad_row d) ≡ none → T (well_formed d)
unfolding well_formed
formed d h e =
    yes_and (leb 1 (length d)) (all_below (length d) (row_ok d)) (yes_leb {a = 1} {b = length d} h)
    (yes_all (length d) (row_ok d)
    (λ k l. not_false (row_ok d k) ((none_iff (bad_row d) (length d)).0 e k l)))

root_parent : (d : Document) → 0 < length d → T (well_formed d) → parent_at d 0 ≡ 0
unfolding well_formed row_ok
root_parent d h w =
    let r = simp facts at w in
    let t = all_yes (length d) (row_ok d) r.1 0 h in
    let q = simp facts at t in q.0.1

-- the value of the refusal, in the order of the definition
module _ (d : Document) where
  pub refused_none : length d ≡ 0 → some 0 ≡ refused_row d
  refused_none e = rw (eq-eqb (length d) 0 e) refl

  module _ (some_row : ¬ (length d ≡ 0)) where
    pub refused_many : most_rows < length d → some most_rows ≡ refused_row d
    refused_many h = rw (ne_eqb (length d) 0 some_row, lt-ltb most_rows (length d) h) refl

    pub refused_first : length d ≤ most_rows → (o : Option ℕ) → o ≡ first_below (length d) (bad_row d) →
        o ≡ refused_row d
    refused_first h o e = rw (ne_eqb (length d) 0 some_row, le-ltb most_rows (length d) h) e

  pub first_below_length : (k : ℕ) → some k ≡ first_below (length d) (bad_row d) → k < length d
  first_below_length k e = found_below (bad_row d) (length d) k e

-- the columns' document
module _ (ks ps ns : List ℕ) (v : Even ks ps ns) where
  abbrev d : Document
  d = rows_of ks ps ns

  size : length d ≡ length ks
  size = rows_length ks ps ns v.parents_size v.names_size

  pub root_passed : (es : List ℕ) → row_ok_by climb_met d 0 ≡ true → PassedBy (bad d) d es 1 es
  unfolding closed_before closed_in_turn first_below Option-elim
  root_passed es ok = record { sound = rw ok refl; ends = refl }

  pub row_passed : (es left next : List ℕ) (i : ℕ) → PassedBy (bad d) d es i left → row_ok_by climb_met d i ≡ true →
      next ≡ closed_before d i left → PassedBy (bad d) d es (i + 1) next
  row_passed es left next i p ok e =
      let s : suc i ≡ i + 1 = omega arith in
      subst (λ (k : ℕ). PassedBy (bad d) d es k next) s (passed_next (bad d) d es i left next p (rw ok refl) e)

  pub row_found : (es left next : List ℕ) (i : ℕ) → PassedBy (bad d) d es i left → i < length ks →
      row_ok_by climb_met d i ≡ false → FirstBad ks ps ns (Some i) next
  row_found es left next i p l fails =
      record {
        first = sym (sym (bad_alike d (length d))
            ∙ first_found (bad d) i (length d) (omega (arith, size, l)) p.sound (rw fails refl));
        sound = tt;
      }

  pub root_found : (es : List ℕ) → 0 < length ks → row_ok_by climb_met d 0 ≡ false → FirstBad ks ps ns (Some 0) es
  unfolding first_below closed_in_turn
  root_found es l fails = row_found es es es 0 (record { sound = refl; ends = refl }) l fails

  pub none_found : (es left : List ℕ) (i : ℕ) → PassedBy (bad d) d es i left → 0 < length ks → length ks ≡ i →
      Filled (length ks) es → length left ≡ length ks → FirstBad ks ps ns None left
  none_found es left i p h l f k =
      let n : length d ≡ i = omega (arith, size, l) in
      let e : first_below (length d) (bad_row d) ≡ none = sym (bad_alike d (length d)) ∙ rw n p.sound in
      let w : T (well_formed d) = formed d (omega (arith, size, h)) e in
      let top : parent_at d 0 ≡ 0 = root_parent d (omega (arith, size, h)) w in
      let ends : Ends d left = rw (p.ends, ← n) (ends_found d w es (rw size f)) in
      record {
        first = sym e;
        sound = record {
          parents_size = v.parents_size;
          names_size = v.names_size;
          ends_size = k;
          formed = w;
          ends = ends;
          within = record {
            each = λ y j. let q = rows_parent ks ps ns v.parents_size v.names_size y in
                ⊎_elim
                (λ z. let a : parent_at d y ≡ 0 = ap (parent_at d) z ∙ top in omega (arith, a, q, j))
                (λ ne. let a : parent_at d y < y =
                parent_smaller d w y (omega (arith, v.parents_size, size)) (omega (arith, ne)) in
                omega (arith, q, a, j))
                (eq_or_ne y 0);
          };
          ends_within = record {
            each = λ y. ⊎_elim
                (λ (g : length left ≤ y). let z : get_or left y 0 ≡ 0 = rw get_or-eq_default refl in omega (arith, z))
                (λ g. let a = (ends.row y (omega (arith, size, k, g))).within in omega (arith, a, size, k))
                (le_or_lt (length left) y);
          };
        };
      }
