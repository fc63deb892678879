-- The uses of each rule over bundles, and the total of their steps.
use Rattle.std.specs.Prelude.{ℕ, zero, suc, ◌+◌, Bool, true, false, cond, not, ◌&&◌, List, [], ◌∷◌, ◌++◌, leb, length}
use Rattle.std.specs.Prelude.{Option, Some, None}
use Rattle.rules.specs.Yields.{max_rule}
use Rattle.calls.specs.Book.{Step, accepted}
use Rattle.calls.specs.Uses.{uses_of}
use Rattle.session.specs.View.{view}
use Rattle.session.specs.Reading.{reading}
use Rattle.common.specs.Limits.{max_bytes}

-- what is read of a named file, and whether the reading failed
pub record File : Type 0 where
  pub failed : Bool
  pub bytes : List ℕ

abbrev pub file : Bool → List ℕ → File
file failed bytes = record { failed = failed; bytes = bytes }

-- a file as it was read: its bytes, or that its reading failed
abbrev pub file_of : Option (List ℕ) → File
file_of (Some bytes) = file false bytes
file_of None = file true []

-- a file above 65,536 bytes, or one whose reading fails, is a refused bundle
unfoldable pub is_accepted : File → Bool
is_accepted f = not f.failed && leb (length f.bytes) max_bytes && accepted (reading f.bytes).answer

-- the steps that count: those that an accepted bundle holds; a refused one counts nowhere
unfoldable pub counted_steps : File → List Step
counted_steps f = cond (is_accepted f) (view (reading f.bytes).session).steps []

-- the number of steps held by rule r over all accepted bundles; one named twice is in the list twice
unfoldable pub uses : (r : ℕ) → List File → ℕ
uses r [] = 0
uses r (f ∷ fs) = uses_of r (counted_steps f) + uses r fs

-- the total of all their steps, counted from the bundles and not from the column
unfoldable pub total : List File → ℕ
total [] = 0
total (f ∷ fs) = length (counted_steps f) + total fs

-- f of each of k rules from r up
unfoldable pub each_from : (r k : ℕ) → (ℕ → ℕ) → List ℕ
each_from r zero f = []
each_from r (suc k) f = f r ∷ each_from (suc r) k f

-- f of each rule, from 1 up
abbrev pub each_rule : (ℕ → ℕ) → List ℕ
each_rule f = each_from 1 max_rule f

-- a line that is printed: a rule, or 0, and a number
pub record Entry : Type 0 where
  pub rule : ℕ
  pub count : ℕ

abbrev pub entry : ℕ → ℕ → Entry
entry r n = record { rule = r; count = n }

unfoldable pub rule_entries : (r : ℕ) → List ℕ → List Entry
rule_entries r [] = []
rule_entries r (n ∷ ns) = entry r n ∷ rule_entries (suc r) ns

-- a line for each rule from 1 up, and a last line with 0 and the total
unfoldable pub entries_by : (column : List ℕ) (total : ℕ) → List Entry
entries_by column total = rule_entries 1 column ++ (entry 0 total ∷ [])

unfoldable pub entries : List File → List Entry
entries fs = entries_by (each_rule (λ r. uses r fs)) (total fs)

unfoldable pub sum : List ℕ → ℕ
sum [] = 0
sum (n ∷ ns) = n + sum ns
