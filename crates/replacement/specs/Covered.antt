-- A list of old rows that is covered by a list of new rows, by a step for each.
use Rattle.std.specs.Prelude.{ℕ, suc, Bool, ◌&&◌, List, [], ◌∷◌, leb, eqb, length, get_or}
use Rattle.std.proofs.Math.Option.{Option-elim}
use Rattle.common.specs.Bounded.{all_below, first_below}
use Rattle.common.specs.Lists.{any_of}
use Rattle.terms.specs.Fields.{held_path}
use Rattle.calls.specs.Book.{Step, Book}
use Rattle.calls.specs.StepCall.{step_numbered}

-- the book holds a step numbered i, counted from 1
unfoldable pub is_held_step : List Step → (i : ℕ) → Bool
is_held_step ps i = leb 1 i && leb i (length ps)

-- the list has the number n
unfoldable pub is_in : List ℕ → (n : ℕ) → Bool
is_in ns n = any_of (λ m. eqb m n) ns

-- step i is held and says that the row `old`, a path, is contained in some row of the list `new`
unfoldable pub is_replaced : Book → (new : List ℕ) → (old i : ℕ) → Bool
is_replaced b new old i =
    is_held_step b.steps i
    && (eqb (step_numbered b.steps i).left old && held_path b.rows old
    && is_in new (step_numbered b.steps i).right)

-- the same of the old row and the step at place k of their lists, counted from 0
unfoldable pub is_replaced_at : Book → (old new by : List ℕ) → (k : ℕ) → Bool
is_replaced_at b old new by k = is_replaced b new (get_or old k 0) (get_or by k 0)

-- the old list is covered: as many steps as old rows, and each is so
unfoldable pub is_covered : Book → (old new by : List ℕ) → Bool
is_covered b old new by = eqb (length by) (length old) && all_below (length old) (is_replaced_at b old new by)

-- the first step, counted from 1, that says that the row `old`, a path, is contained in the row `new`; 0 if none does
unfoldable pub step_saying : Book → (old new : ℕ) → ℕ
step_saying b old new = Option-elim (first_below (length b.steps) (λ k. is_replaced b (new ∷ []) old (suc k))) 0 suc
