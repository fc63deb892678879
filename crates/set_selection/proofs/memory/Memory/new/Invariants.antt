-- `new` meets its contract: nothing is found so far.
use Prim.Native.Nat.{ℕ}
use lib.ListN.{get_or}
use Rattle.set_selection.specs.declared.memory.Slot.TheVariants.{Single}
use Rattle.set_selection.specs.Memories.{Right}
use Rattle.set_selection.proofs.memory.Memory.new.Given as goal

abbrev pub invariant-loop-count : goal.invariant-loop-count
invariant-loop-count l = (k : ℕ) → Right (λ from to. ⊥) (get_or l.slots.items k Single)
