-- `search_from` meets its contract.
use Prim.Native.Nat.{◌-◌, ◌≤◌}
use lib.ListN.{length}
use Rattle.selector_words.specs.private.Names.{Sought}
use Rattle.selector_words.proofs.list.Search.search_from.Given as goal

abbrev pub invariant-loop-self : goal.invariant-loop-self
invariant-loop-self l = Sought l.self.names.now l.self.word.bytes.now l.at l.passed
    × (l.at ≤ length l.self.names.now) × (l.passed ≤ l.at)

abbrev pub decreases-loop-self : goal.decreases-loop-self
decreases-loop-self l = length l.self.names.now - l.at
