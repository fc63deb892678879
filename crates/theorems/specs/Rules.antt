-- A rule yields from what is true on every document only what is true on every document.
use Rattle.std.specs.Prelude.{ℕ, List, map, ◌↔◌, T}
use Rattle.common.specs.Lists.{Every}
use Rattle.matching.specs.private.RowYields.{row_yields}
use Rattle.matching.specs.represent.Sides.{Sides, one_sort, says_of}
use Rattle.rules.specs.Claim.{Claim, IsTrue}
use Rattle.rules.specs.Yields.{Yields}
use Rattle.terms.specs.AcceptedRows.{Built}
use Rattle.terms.specs.Row.{Row}

pub record Rules : Type 0 where
  pub rules_sound : (n : ℕ) (c : Claim) (cs : List Claim) → Yields n c cs → Every IsTrue cs → IsTrue c
  -- the matcher that the code runs, on row numbers, decides what the rule table yields, on terms
  pub matcher_decides : (rs : List Row) → Built rs → (n : ℕ) (s : Sides) (ss : List Sides)
      → T (one_sort rs s) → Every (λ s. T (one_sort rs s)) ss
      → T (row_yields rs n s ss) ↔ Yields n (says_of rs s) (map (says_of rs) ss)
