-- A tally in code, file by file.
use Rattle.std.specs.Prelude.{ℕ, ◌+◌, ◌<◌, min, ◌≡◌, true, false, cond, List, [], ◌∷◌, length, get_or, replicate}
use Rattle.std.specs.Prelude.{Option, Some, None}
use denote.Ref.{Bor}
use Rattle.rules.specs.Yields.{max_rule}
use Rattle.calls.specs.Book.{Step}
use Rattle.calls.specs.Uses.{uses_of}
use Rattle.session.specs.View.{view}
use Rattle.session.specs.Reading.{reading}
use Rattle.tallies.specs.declared.Tally.{Tally}
use Rattle.tallies.specs.declared.TallyLine.{TallyLine}
use Rattle.tallies.specs.declared.TallyLine.TheVariants.{Rule, Total}
use Rattle.tallies.specs.Count.{File, file, is_accepted, each_rule, Entry, entry, entries_by}

abbrev pub tally : (uses : List ℕ) (total : ℕ) → Tally
tally uses total = record { uses = uses; total = total }

-- a count stops at the largest number of 64 bits
abbrev pub max_count : ℕ
max_count = 18446744073709551615

unfoldable pub plus : ℕ → ℕ → ℕ
plus m n = min (m + n) max_count

unfoldable pub plus_each : List ℕ → List ℕ → List ℕ
plus_each [] ns = []
plus_each (m ∷ ms) [] = []
plus_each (m ∷ ms) (n ∷ ns) = plus m n ∷ plus_each ms ns

-- the uses of each rule among steps
unfoldable pub column_of : List Step → List ℕ
column_of ps = each_rule (λ r. uses_of r ps)

unfoldable pub fresh_tally : Tally
fresh_tally = tally (replicate max_rule 0) 0

unfoldable pub with_steps : Tally → List Step → Tally
with_steps t ps = tally (plus_each t.uses (column_of ps)) (plus t.total (length ps))

-- a file's bytes, or that its reading failed
abbrev pub file_read : Option (Bor (List ℕ)) → File
file_read (Some bytes) = file false bytes.now
file_read None = file true []

-- a refused bundle leaves the tally as it was
unfoldable pub with_file : Tally → File → Tally
with_file t f = cond (is_accepted f) (with_steps t (view (reading f.bytes).session).steps) t

-- the tally after files, in order
unfoldable pub with_files : Tally → List File → Tally
with_files t [] = t
with_files t (f ∷ fs) = with_files (with_file t f) fs

-- the lines of a tally
abbrev pub entries_of : Tally → List Entry
entries_of t = entries_by t.uses t.total

abbrev pub entry_of : TallyLine → Entry
entry_of (Rule r n) = entry r n
entry_of (Total n) = entry 0 n

abbrev pub no_entry : Entry
no_entry = entry 0 0

-- the line at place k of lines, where there is one
abbrev pub LineIs : List Entry → (k : ℕ) → TallyLine → Type 0
LineIs es k l = k < length es → entry_of l ≡ get_or es k no_entry
