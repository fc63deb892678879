-- The check of lent numbers, row by row, up to its answer.
use Prim.Native.Nat.{ℕ, suc, ◌+◌, ◌*◌, ◌%◌, ◌≤◌, ◌<◌}
use mathlib.Core.Path.{◌≡◌, refl, sym, ap, subst, ◌∙◌}
use mathlib.Core.Bool.{Bool, true, false}
use mathlib.Core.List.{List, [], ◌∷◌}
use mathlib.Core.Logic.{inl, ⊎_elim}
use Rattle.common.proofs.Reflect.{le_or_lt, eq_or_ne}
use mathlib.Core.Option.{none}
use Rattle.std.specs.Prelude.{Some, None, Ok, Err, min}
use native.Mathlib.Omega.{arith}
use lib.Dec.{ltb}
use lib.ListN.{length}
use borrow.Author.Tests.{eq-eqb, ne_eqb, lt-ltb, le-ltb}
use Rattle.common.specs.Bounded.{first_below}
use Rattle.xpath.specs.Document.{Document, kind_at, parent_at, name_at}
use Rattle.xpath.specs.Document.{row_ok_by, document_of, lent_rows, bad_row_by, max_nodes, document_refusal}
use Rattle.xpath.specs.Climb.{climb_met}
use Rattle.xpath.specs.represent.Ends.{Filled}
use Rattle.xpath.specs.represent.Check.{closed, closed_before, closed_in_turn, ClimbMade, Placed, FirstBad}
use Rattle.xpath.specs.represent.Check.{DocumentChecked}
use Rattle.common.proofs.Search.{first_not_yet, first_found, found_below}
use Rattle.xpath.proofs.LentNumbers.{nodes_lent}
use Rattle.xpath.proofs.Refusal.{accepted_iff}
use Rattle.xpath.proofs.Climbing.{takes_none, not_met, refuses_alike}
use Rattle.xpath.proofs.Ends.{ends_found}

-- none of the first n rows is bad, and the subtrees that end before the last of them are closed
pub record PassedBy (bad : ℕ → Bool) (d : Document) (es : List ℕ) (n : ℕ) (left : List ℕ) : Type 0 where
  pub sound : first_below n bad ≡ none
  pub ends : left ≡ closed_in_turn d n es

pub passed_next : (bad : ℕ → Bool) (d : Document) (es : List ℕ) (n : ℕ) (left next : List ℕ) →
    PassedBy bad d es n left → bad n ≡ false → next ≡ closed_before d n left → PassedBy bad d es (suc n) next
unfolding closed_in_turn
passed_next bad d es n left next p ok e = record { sound = first_not_yet bad n p.sound ok; ends = e ∙ rw p.ends }

-- of lent numbers, by the climb
abbrev pub Passed : (xs es : List ℕ) (n : ℕ) (left : List ℕ) → Type 0
Passed xs es n left = PassedBy (bad_row_by climb_met xs) (document_of xs) es n left

module _ (xs es : List ℕ) where
  pub none_passed : Passed xs es 0 es
  unfolding first_below closed_in_turn
  none_passed = record { sound = refl; ends = refl }

  module _ (n : ℕ) (left : List ℕ) (p : Passed xs es n left) where
    module _ (whole : n < length (document_of xs)) where
      -- the row is not an incomplete one
      complete : ltb (length xs) (3 * n + 3) ≡ false
      complete = let l = nodes_lent xs in le-ltb (length xs) (3 * n + 3) (omega arith)

      pub passed_on : (next : List ℕ) → row_ok_by climb_met (document_of xs) n ≡ true →
          next ≡ closed_before (document_of xs) n left → Passed xs es (suc n) next
      passed_on next ok e = passed_next (bad_row_by climb_met xs) _ es n left next p (rw (complete, ok)) e

      pub bad_found : (next : List ℕ) → row_ok_by climb_met (document_of xs) n ≡ false → FirstBad xs es (Some n) next
      unfolding lent_rows
      bad_found next fails =
          let l = nodes_lent xs in
          let h : n < lent_rows xs = omega arith in
          record {
            first = sym (first_found (bad_row_by climb_met xs) n (lent_rows xs) h p.sound (rw (complete, fails)));
            ends = tt;
          }

    module _ (e : n ≡ length (document_of xs)) where
      -- no row stands after the whole ones
      pub all_passed : length xs % 3 ≡ 0 → FirstBad xs es None left
      unfolding lent_rows
      all_passed h =
          let l = nodes_lent xs in
          let q : lent_rows xs ≡ n = omega arith in
          record {
            first = sym (ap (λ m. first_below m (bad_row_by climb_met xs)) q ∙ p.sound);
            ends = p.ends ∙ rw e;
          }

      -- an incomplete one does
      pub incomplete_found : ¬ (length xs % 3 ≡ 0) → FirstBad xs es (Some n) left
      unfolding lent_rows
      incomplete_found f =
          let l = nodes_lent xs in
          let h : n < lent_rows xs = omega arith in
          let g : length xs < 3 * n + 3 = omega arith in
          let bad : bad_row_by climb_met xs n ≡ true = rw (lt-ltb (length xs) (3 * n + 3) g) in
          record {
            first = sym (first_found (bad_row_by climb_met xs) n (lent_rows xs) h p.sound bad);
            ends = tt;
          }

-- row 0 of no rows is read as one
no_row : (d : Document) → length d ≡ 0 → row_ok_by climb_met d 0 ≡ true
unfolding kind_at parent_at name_at
no_row [] e = refl
no_row (n ∷ d) e = absurd (omega arith)

pub some_row : (d : Document) → row_ok_by climb_met d 0 ≡ false → 0 < length d
some_row d fails =
    ⊎_elim
    (λ e. let z : false ≡ true = sym fails ∙ no_row d e in absurd (cc))
    (λ ne. omega (arith, ne))
    (eq_or_ne (length d) 0)

-- row 0 is passed, where there is one; no subtree ends before it
pub root_passed : (xs es : List ℕ) → row_ok_by climb_met (document_of xs) 0 ≡ true →
    Passed xs es (min 1 (length (document_of xs))) es
unfolding closed_before
root_passed xs es ok =
    ⊎_elim
    (λ e. let z : min 1 (length (document_of xs)) ≡ 0 = omega arith in rw z (none_passed xs es))
    (λ ne. let z : min 1 (length (document_of xs)) ≡ 1 = omega (arith, ne) in
    rw z (passed_on xs es 0 es (none_passed xs es) (omega (arith, ne)) es ok refl))
    (eq_or_ne (length (document_of xs)) 0)

-- a bad row is one of those lent
pub bad_below : (xs es : List ℕ) (n : ℕ) (left : List ℕ) → FirstBad xs es (Some n) left → n < lent_rows xs
bad_below xs es n left b = found_below (bad_row_by climb_met xs) (lent_rows xs) n b.first

-- whether row p is row n or an ancestor of it: the same row, or the climb
module _ (d : Document) (p n : ℕ) (es : List ℕ) where
  pub same_placed : p ≡ n → Placed d p n es true es
  unfolding closed
  same_placed e = record { placed = rw (eq-eqb p n e); ends = rw (takes_none d p n (inl (omega arith))) }

  pub climb_placed : (e : ℕ) (met : Bool) (k : ℕ) (left : List ℕ) → e ≡ suc n → ¬ (p ≡ n) →
      ClimbMade d p n e es met k left → Placed d p n es met left
  climb_placed e met k left q ne m = record { placed = m.met ∙ rw (ne_eqb p n ne); ends = m.ends ∙ rw q }

  -- such a row is no later one
  pub placed_below : (r : Bool) (left : List ℕ) → Placed d p n es r left → r ≡ true → p ≤ n
  placed_below r left w e =
      ⊎_elim
      (λ h. h)
      (λ h. let ne = ne_eqb p n (λ q. omega arith) in
      let no : climb_met d p n ≡ false = not_met d p n (omega arith) in
      let f : r ≡ false = w.placed ∙ rw (ne, no) in
      let z : ◌≡◌ {A = ℕ} 0 1 = cc in absurd (omega arith))
      (le_or_lt p n)

-- row n + 1, i by its number and p by its parent's
module _ (d : Document) (n i p : ℕ) (es left : List ℕ) (placed : Bool)
    (number : i ≡ suc n) (parent : p ≡ parent_at d i) (w : Placed d p n es placed left) where
  pub row_closed : left ≡ closed_before d (suc n) es
  unfolding closed_before
  row_closed = w.ends ∙ rw (parent, number)

-- The answer of the check, in the order of the definition.
module _ (xs : List ℕ) where
  pub no_rows : lent_rows xs ≡ 0 → DocumentChecked xs (Err 0)
  unfolding document_refusal
  no_rows e = record { refusal = rw (eq-eqb (lent_rows xs) 0 e); ends = tt }

  module _ (some_row : ¬ (lent_rows xs ≡ 0)) where
    pub too_many : max_nodes < lent_rows xs → DocumentChecked xs (Err max_nodes)
    unfolding document_refusal
    too_many h =
        record {
          refusal = rw (ne_eqb (lent_rows xs) 0 some_row, lt-ltb max_nodes (lent_rows xs) h);
          ends = tt;
        }

    module _ (few : lent_rows xs ≤ max_nodes) where
      -- refusal 8 is the first bad row, by either climb
      refusal_is : first_below (lent_rows xs) (bad_row_by climb_met xs) ≡ document_refusal xs
      refusal_is =
          sym (rw (ne_eqb (lent_rows xs) 0 some_row, le-ltb max_nodes (lent_rows xs) few) at (sym (refuses_alike xs)))

      module _ (es left : List ℕ) where
        pub row_refused : (n : ℕ) → FirstBad xs es (Some n) left → DocumentChecked xs (Err n)
        row_refused n b = record { refusal = b.first ∙ refusal_is; ends = tt }

        pub all_accepted : FirstBad xs es None left → Filled (lent_rows xs) es → DocumentChecked xs (Ok left)
        unfolding lent_rows
        all_accepted b f =
            let e : none ≡ document_refusal xs = b.first ∙ refusal_is in
            let (whole, small, formed) = (accepted_iff xs).0 (sym e) in
            let n : lent_rows xs ≡ length (document_of xs) = omega arith in
            let g : Filled (length (document_of xs)) es = subst (λ (v : ℕ). Filled v es) n f in
            record { refusal = e; ends = rw b.ends (ends_found (document_of xs) formed es g) }
