-- The search for a step that says that one row is contained in another.
use Prim.Native.Nat.{ℕ, suc, ◌+◌, ◌-◌, ◌<◌}
use mathlib.Core.Path.{◌≡◌, refl, sym, ap, ◌∙◌}
use mathlib.Core.Bool.{Bool, true, false, ◌&&◌, ◌||◌}
use mathlib.Core.List.{List, [], ◌∷◌}
use mathlib.Core.Option.{none, some, Option-elim}
use native.Mathlib.Numerals.{add-one}
use native.Mathlib.Omega.{arith}
use lib.Dec.{leb, ltb, eqb}
use lib.ListN.{length, get_or, length-map}
use borrow.Author.Tests.{le-leb}
use Rattle.std.proofs.Common.{map, position}
use Rattle.std.specs.List.{position_or_len}
use Rattle.std.proofs.lemmas.List.{get_or-map}
use Rattle.common.specs.Bounded.{first_below}
use Rattle.common.specs.Lists.{any_of}
use Rattle.common.proofs.Tests.{eqb_turned}
use Rattle.common.proofs.Search.{none_iff, first_in}
use Rattle.terms.specs.Fields.{held_path}
use Rattle.calls.specs.Book.{Book, step_of_numbers, no_step}
use Rattle.replacement.specs.Covered.{is_held_step, is_in, is_replaced, step_saying}
use Rattle.replacement.specs.private.Places.{IndexIs}
use Rattle.replacement.proofs.Places.{by_test}

-- of a row that is no held path no step says anything
no_path : (a l h r : Bool) → h ≡ false → (a && (l && h && r)) ≡ false
no_path false l h r e = refl
no_path true false h r e = refl
no_path true true h r e = rw e

-- of a held path a held step says so by its two rows
by_rows : (a l h r : Bool) → a ≡ true → h ≡ true → (a && (l && h && (r || false))) ≡ (l && r)
by_rows a false h r e f = rw e
by_rows a true h false e f = rw (e, f)
by_rows a true h true e f = rw (e, f)

module _ (b : Book) (old new : ℕ) where
  abbrev pub says_at : ℕ → Bool
  says_at k = is_replaced b (new ∷ []) old (suc k)

  -- a step, as its numbers, has these two rows
  abbrev pub has_rows : List ℕ → Bool
  has_rows xs = eqb (step_of_numbers xs).left old && eqb (step_of_numbers xs).right new

  pub unheld : held_path b.rows old ≡ false → step_saying b old new ≡ 0
  unfolding step_saying is_replaced Option-elim
  unheld e = rw ((none_iff says_at (length b.steps)).1 (λ k l. no_path _ _ _ _ e))

  -- the search among the steps, each as its numbers
  module _ (path-held : held_path b.rows old ≡ true) (ps : List (List ℕ))
      (steps : map step_of_numbers ps ≡ b.steps) where
    size : length ps ≡ length b.steps
    size = sym (length-map ps step_of_numbers) ∙ ap length steps

    alike : (k : ℕ) → k < length ps → says_at k ≡ has_rows (get_or ps k [])
    unfolding is_replaced is_held_step is_in any_of
    alike k l =
        let at : get_or b.steps (suc k - 1) no_step ≡ step_of_numbers (get_or ps k []) =
        let e : suc k - 1 ≡ k = omega arith in
        rw (e, ← steps) (get_or-map step_of_numbers ps k [] no_step l) in
        let held : leb (suc k) (length b.steps) ≡ true = le-leb (suc k) (length b.steps) (omega (arith, l, size)) in
        by_rows (leb 1 (suc k) && leb (suc k) (length b.steps)) _ _ _ (rw (held, le-leb 1 (suc k) (omega arith)) refl)
        path-held
        ∙ rw (at, eqb_turned new (step_of_numbers (get_or ps k [])).right)

    pub said_found : IndexIs (position has_rows ps) (first_below (length b.steps) says_at)
    said_found =
        rw (← size, first_in says_at has_rows [] ps alike)
        (by_test (ltb (position_or_len has_rows ps) (length ps)) _)

  pub said_first : (k : ℕ) → first_below (length b.steps) says_at ≡ some k → step_saying b old new ≡ k + 1
  unfolding step_saying Option-elim
  said_first k e = rw e (sym (add-one k))

  pub none_said : first_below (length b.steps) says_at ≡ none → step_saying b old new ≡ 0
  unfolding step_saying Option-elim
  none_said e = rw e
