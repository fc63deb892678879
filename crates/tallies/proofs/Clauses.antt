-- Each clause of what the calls of a tally come to, with its whole type, so that none is dropped or narrowed.
use Rattle.std.specs.Prelude.{◌≤◌, ◌≡◌, List, length}
use Rattle.tallies.specs.declared.Tally.{Tally}
use Rattle.tallies.specs.Count.{File, uses, total, each_rule, Entry, entries, sum}
use Rattle.tallies.specs.Promise.{AllAdded, TallyPromise}
use Rattle.tallies.proofs.Source.{New, Added, Lines}

lines_promised : TallyPromise New Added Lines → (t u : Tally) (fs : List File) (es : List Entry)
    → New t → AllAdded Added t fs u → Lines u es → length fs ≤ 64 → es ≡ entries fs
lines_promised p = p.lines

total_promised : TallyPromise New Added Lines → (fs : List File) → sum (each_rule (λ r. uses r fs)) ≡ total fs
total_promised p = p.adds_up
