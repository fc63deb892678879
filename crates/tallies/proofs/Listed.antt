-- The first refused line of a list.
use Prim.Native.Nat.{ℕ, ◌+◌, ◌≤◌, ◌<◌}
use mathlib.Core.Path.{◌≡◌, ap}
use mathlib.Core.Bool.{Bool, true, false}
use mathlib.Core.List.{List}
use mathlib.Core.Option.{none, Option-elim}
use native.Mathlib.Numerals.{add-one}
use native.Mathlib.Omega.{arith}
use lib.ListN.{length}
use Rattle.common.specs.Bounded.{first_below}
use Rattle.common.proofs.Search.{none_iff, first_found}
use Rattle.lines.specs.Line.{lines}
use Rattle.calls.specs.Book.{answer}
use Rattle.common.specs.Refusals.{bad_name}
use Rattle.tallies.specs.NameList.{is_bad_name, list_answer}

module _ (list : List ℕ) (opened : List Bool) (count : ℕ) (counted : count ≡ length (lines list)) where
  -- none of the first k lines is refused
  abbrev Taken : ℕ → Type 0
  Taken k = (j : ℕ) → 0 ≤ j → j < k → is_bad_name opened j ≡ false

  none_refused : (k : ℕ) → Taken k → first_below k (is_bad_name opened) ≡ none
  none_refused k h = (none_iff (is_bad_name opened) k).1 (λ j l. h j (omega arith) l)

  pub line_refused : (k : ℕ) → k < count → is_bad_name opened k ≡ true → Taken k
      → answer bad_name (k + 1) ≡ list_answer list opened
  unfolding list_answer Option-elim
  line_refused k h e before =
      rw (← counted, first_found (is_bad_name opened) k count h (none_refused k before) e)
      (ap (answer bad_name) (add-one k))

  pub all_taken : Taken count → answer 0 0 ≡ list_answer list opened
  unfolding list_answer Option-elim
  all_taken h = rw (← counted, none_refused count h)
