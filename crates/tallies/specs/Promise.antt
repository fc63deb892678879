-- What the calls of a tally come to, over lists of bundles that they added.
use Rattle.std.specs.Prelude.{◌≤◌, ◌≡◌, List, [], ◌∷◌, length}
use Rattle.tallies.specs.declared.Tally.{Tally}
use Rattle.tallies.specs.NameList.{max_files}
use Rattle.tallies.specs.Count.{File, uses, total, each_rule, Entry, entries, sum}

-- files added in order to a tally, each to the one that the call before left, and the tally left: `Added t f u` says
-- that the tally t with the file f added is u
pub data AllAdded (Added : Tally → File → Tally → Type 0) : Tally → List File → Tally → Type 0 where
  none_added : {t : Tally} → AllAdded Added t [] t
  file_added : {t u v : Tally} {f : File} {fs : List File} → Added t f u → AllAdded Added u fs v
      → AllAdded Added t (f ∷ fs) v

-- `New t` says that a new tally is t, `Lines t es` that the lines of the tally t are es
module _ (New : Tally → Type 0) (Added : Tally → File → Tally → Type 0) (Lines : Tally → List Entry → Type 0) where
  pub record TallyPromise : Type 0 where
    -- the lines after up to 64 files are those of the definitions
    pub lines : (t u : Tally) (fs : List File) (es : List Entry) → New t → AllAdded Added t fs u → Lines u es
        → length fs ≤ max_files → es ≡ entries fs
    -- the column adds up to the total
    pub adds_up : (fs : List File) → sum (each_rule (λ r. uses r fs)) ≡ total fs
