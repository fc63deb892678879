-- Marks: a byte for each node, 1 where the node is marked.
use Rattle.std.specs.Prelude.{ℕ, zero, suc, Bool, cond, List, set}

-- the buffer with 1 or 0 for each of the first n nodes, as s has it; later bytes as they were
unfoldable pub written : ℕ → (ℕ → Bool) → List ℕ → List ℕ
written zero s buffer = buffer
written (suc n) s buffer = set (written n s buffer) n (cond (s n) 1 0)
