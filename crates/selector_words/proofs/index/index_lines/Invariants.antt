-- `index_lines` meets its contract: the lines so far are indexed, and the next one begins at `at`.
use Prim.Native.Nat.{◌≤◌}
use mathlib.Core.Path.{◌≡◌}
use lib.ListN.{length}
use Rattle.selector_words.specs.private.Index.{LineAt}
use Rattle.selector_words.proofs.Indexed.{Entries}
use Rattle.selector_words.proofs.index.index_lines.Given as goal

abbrev pub invariant-loop-count : goal.invariant-loop-count
invariant-loop-count l = Entries l.list l.index l.count × LineAt l.list l.count l.at × (l.count ≤ length l.index)
    × (length l.index ≡ length l.initial.index)
